use Rattle.std.proofs.Common.{◌≡◌, ◌<◌, List, [], length, subst, sym, ap, ◌∙◌, arith}
use Rattle.std.proofs.lemmas.List.{get_or_read}
use Rattle.std.specs.Prelude.{IfSome}
use Rattle.bw_lows.specs.LowHeads.{Bytes}
use Rattle.bw_lows.specs.Rows.{Low, low_at}
use Rattle.bw_lows.specs.LowRow.{IsHeadBehind}
use Rattle.bw_lows.specs.Flat.{firsts}
use Rattle.bw_lows.proofs.HeadBounds.{row_next}
use Rattle.bw_lows.proofs.FirstHeads.{first_at, length-firsts}
use Rattle.bw_lows.proofs.row.fill_firsts.Goals as goal

pub loop-block-preserved : goal.loop-block-preserved
loop-block-preserved c =
    let blocks = c.args.blocks.now in
    let i = c.loop-block.block-index in
    let inside : i < length (firsts blocks) = omega (arith, c.loop-block-test.true, length-firsts blocks) in
    let low : low_at c.block-item.result 0 ≡ low_at (firsts blocks) i =
    ap (λ (b : List Low). low_at b 0) (get_or_read blocks i c.block-item.result c.loop-block-test.true c.block-item.is [])
    ∙ sym (ap (λ (p : Low). p.0) (first_at blocks i)) in
    let its = subst (λ (k : Bytes). IfSome c.head_behind.result (λ h. IsHeadBehind c.args.shared.now k h)) low c.head_behind.ensures in
    row_next _ _ _ (firsts blocks) i c.head_behind.result inside c.loop-block.invariant c.if-not-push.ensures.some its c.if-not-push.ensures.pushed
