use Rattle.std.proofs.Common.{◌≡◌, ℕ, List, length, subst, sym, ap, ◌∙◌}
use Rattle.bw_record.specs.Keys.{is_below}
use Rattle.bw_lows.specs.Rows.{Low, low_at, IsBetween}
use Rattle.bw_lows.specs.Flat.{firsts, block_at, AreBlocks}
use Rattle.bw_lows.proofs.FirstHeads.{length-firsts, firsts_ascend, between_firsts}
use Rattle.bw_lows.proofs.blocks.Blocks.count_begun.Goals as goal

pub loop-from-init : goal.loop-from-init
loop-from-init c =
    let blocks = c.self.inside.blocks.items in
    let are : AreBlocks blocks = subst (λ (bs : List (List Low)). AreBlocks bs) (sym c.self.view_is) c.requires.blocks in
    let long : length (firsts blocks) ≡ c.len.result = length-firsts blocks ∙ ap length c.self.view_is ∙ sym c.len.ensures in
    let between = between_firsts c.args.key.now blocks c.len.result _ _ (c.bounds-from.ensures (firsts blocks) long
    (firsts_ascend blocks are.filled are.ascends) c.self.invariant) in
    subst (λ (n : ℕ). IsBetween (λ i. is_below c.args.key.now (low_at (block_at c.args.self.now i) 0)) n c.bounds-from.result.0 c.bounds-from.result.1)
    c.len.ensures
    (subst (λ (bs : List (List Low)). IsBetween (λ i. is_below c.args.key.now (low_at (block_at bs i) 0)) c.len.result c.bounds-from.result.0 c.bounds-from.result.1)
    c.self.view_is between)
