use Rattle.std.proofs.Common.{◌≡◌, ◌++◌, ◌-◌, take, length}
use Rattle.bw_reading.specs.Images.{starts_from}
use Rattle.bw_reading.proofs.bw_index_of.Given as goal

abbrev pub invariant-loop-i : goal.invariant-loop-i
invariant-loop-i l = record {
  long : length l.starts ≡ length l.initial.starts;
  noted : starts_from l.image (length l.starts) 0 ≡ take l.i l.starts ++ starts_from l.image (length l.starts - l.i) l.at;
}
