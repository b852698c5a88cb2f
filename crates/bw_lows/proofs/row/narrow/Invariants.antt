-- So many parts were below, and the one after them was not, if it was looked at.
use Rattle.std.proofs.Common.{◌+◌, ◌-◌, ◌≡◌, ◌≤◌, ◌<◌, ℕ, suc, get_or}
use Rattle.bw_lows.specs.LowRow.{DoAscend}
use Rattle.bw_lows.proofs.row.narrow.Given as goal

abbrev pub invariant-loop-at : goal.invariant-loop-at
invariant-loop-at l = record {
  order : l.from ≤ l.below;
  parts : l.below + l.width ≤ suc l.at;
  within : suc l.at ≤ l.to + l.width;
  before : DoAscend l.row → (i : ℕ) → suc i ≡ l.below → l.from < l.below → get_or l.row i 0 < l.head;
  behind : DoAscend l.row → (i : ℕ) → suc i ≡ l.below + l.width → i < l.at → l.head ≤ get_or l.row i 0;
}

abbrev pub decreases-loop-at : goal.decreases-loop-at
decreases-loop-at l = l.to - l.at
