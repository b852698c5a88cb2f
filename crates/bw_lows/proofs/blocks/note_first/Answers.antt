use Rattle.std.proofs.Common.{◌<◌, List, length, get_or, subst, ap, arith}
use Rattle.std.proofs.lemmas.List.{length-set}
use Rattle.std.specs.Prelude.{IfSome}
use Rattle.bw_lows.specs.Rows.{Low, nothing, low_at}
use Rattle.bw_lows.specs.LowRow.{IsHeadBehind}
use Rattle.bw_lows.specs.Flat.{firsts}
use Rattle.bw_lows.proofs.FirstHeads.{length-firsts, firsts_noted, noted_first}
use Rattle.bw_lows.proofs.blocks.note_first.Goals as goal

pub returns : goal.returns
returns c was block e is =
    let within : c.args.at < length (firsts was) = omega (arith, c.requires, ap length e, length-set was c.args.at block, length-firsts was) in
    let its = subst (λ (b : List Low). IfSome c.head_of_first-head.result (λ h. IsHeadBehind c.args.begins.now.shared.items (low_at b 0) h))
    (noted_first was c.args.blocks.now c.args.at block c.index-blocks-at.result c.requires e c.index-blocks-at.is) c.head_of_first-head.ensures in
    firsts_noted _ _ was c.args.blocks.now c.args.at block e (c.set.ensures (firsts was) (get_or block 0 nothing) within its is)
