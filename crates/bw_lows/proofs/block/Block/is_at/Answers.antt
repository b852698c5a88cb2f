use Rattle.std.proofs.Common.{◌≡◌, ◌<◌, [], length, ap, ◌∙◌, arith}
use Rattle.std.proofs.lemmas.List.{get_or_read}
use Rattle.bw_lows.specs.Rows.{low_at}
use Rattle.std.proofs.lemmas.Grind.{common_steps}
use Rattle.bw_lows.specs.LowHeads.{Bytes, order}
use Rattle.bw_lows.proofs.PagesBeside.{length_now, low_now}
use Rattle.bw_lows.proofs.block.Block.is_at.Goals as goal

pub index-requires : goal.index-requires
index-requires c = omega (arith, c.requires, ap length c.as_slice.ensures.value, c.as_slice.ensures.len, length_now _ _ _ c.self.invariant.long c.self.view_is)

pub returns : goal.returns
returns c =
    let inside : c.args.at < length c.self.inside.entries.items = omega (arith, c.requires, length_now _ _ _ c.self.invariant.long c.self.view_is) in
    let low : c.index.result.now ≡ low_at c.args.self.now c.args.at =
    get_or_read c.self.inside.entries.items c.args.at c.index.result.now inside c.index.ensures []
    ∙ low_now _ _ _ c.self.invariant.long c.self.view_is c.args.at in
    let same : order c.args.key.now c.index.result.now ≡ order c.args.key.now (low_at c.args.self.now c.args.at) = ap (λ (k : Bytes). order c.args.key.now k) low in
    grind (arith, common_steps)
