use Rattle.std.proofs.Common.{◌≡◌, ◌≤◌, length, take}
use Rattle.bw_site.proofs.stock.add_missing.Given as goal

-- the row begins with what it had
abbrev pub invariant-loop-lease : goal.invariant-loop-lease
invariant-loop-lease l = record {
  long : length l.fn.row.items ≤ length l.row.items;
  begins : take (length l.fn.row.items) l.row.items ≡ l.fn.row.items;
}
