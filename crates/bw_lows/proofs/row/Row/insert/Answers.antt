use Rattle.std.proofs.Common.{◌≡◌, length, insert, subst, sym, arith}
use Rattle.bw_lows.specs.LowRow.{IsRow}
use Rattle.bw_lows.proofs.HeadBounds.{row_inserted}
use Rattle.bw_lows.proofs.row.Row.insert.Goals as goal

pub returns-in-Ok : goal.returns-in-Ok
returns-in-Ok c lows low long its is =
    let as_long : length c.args.self.now.heads.items ≡ length lows = grind (arith, c.as_slice.ensures.value, c.as_slice.ensures.len, c.len.ensures, c.if-len-count.false) in
    let added : c.insert.new.self.items ≡ insert c.args.self.now.heads.items c.args.at c.in-Some.head = grind arith in
    subst (λ r. IsRow c.args.self.now.shared.items r (insert lows c.args.at low)) (sym added)
    (row_inserted _ _ lows c.args.at low c.in-Some.head is as_long (rw c.in-Some.is at its))
