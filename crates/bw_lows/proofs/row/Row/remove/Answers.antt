use Rattle.std.proofs.Common.{◌<◌, length, remove, subst, sym, arith}
use Rattle.bw_lows.specs.LowRow.{IsRow}
use Rattle.bw_lows.proofs.HeadBounds.{row_removed}
use Rattle.bw_lows.proofs.row.Row.remove.Goals as goal

pub returns-then-at-as_slice : goal.returns-then-at-as_slice
returns-then-at-as_slice c lows within is =
    let inside : c.args.at < length c.args.self.now.heads.items = grind (arith, c.as_slice.ensures.value) in
    subst (λ r. IsRow c.args.self.now.shared.items r (remove lows c.args.at)) (sym c.remove.ensures.items)
    (row_removed _ _ lows c.args.at is inside)
