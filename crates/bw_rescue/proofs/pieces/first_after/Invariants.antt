use Rattle.std.proofs.Common.{◌≡◌, length, map}
use Rattle.bw_rescue.specs.Hurt.{cut_of, ArePassed}
use Rattle.bw_rescue.proofs.pieces.first_after.Given as goal

abbrev pub invariant-loop-index : goal.invariant-loop-index
invariant-loop-index l = record {
  number : l.index-end ≡ length l.rows;
  passed : ArePassed l.at l.from (map cut_of l.rows) → ArePassed l.at l.index (map cut_of l.rows);
}
