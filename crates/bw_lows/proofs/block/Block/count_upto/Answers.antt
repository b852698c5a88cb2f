use Rattle.std.proofs.Common.{ℕ, List, length, subst, sym, ap, ◌∙◌}
use Rattle.std.specs.Prelude.{zip}
use Rattle.bw_record.specs.Keys.{is_below}
use Rattle.bw_lows.specs.Rows.{Low, low_at, Ascends, IsBetween}
use Rattle.bw_lows.proofs.block.Block.count_upto.Goals as goal

pub loop-from-init : goal.loop-from-init
loop-from-init c =
    let lows : List Low = zip c.self.inside.entries.items c.self.inside.pages.items in
    let between = c.bounds-from.ensures lows (ap length c.self.view_is ∙ sym c.len.ensures)
    (subst (λ (l : List Low). Ascends l) (sym c.self.view_is) c.requires.ascends) c.self.invariant.row in
    subst (λ (n : ℕ). IsBetween (λ i. is_below c.args.key.now (low_at c.args.self.now i)) n c.bounds-from.result.0 c.bounds-from.result.1)
    c.len.ensures
    (subst (λ (l : List Low). IsBetween (λ i. is_below c.args.key.now (low_at l i)) c.len.result c.bounds-from.result.0 c.bounds-from.result.1)
    c.self.view_is between)
