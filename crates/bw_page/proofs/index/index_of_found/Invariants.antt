use Rattle.std.proofs.Common.{◌≡◌, ◌≤◌, drop, length}
use Rattle.std.specs.FinMap.Entries.{find}
use Rattle.bw_leaf.specs.Changed.{Bytes, order}
use Rattle.bw_lows.specs.LowHeads.{page_of_low}
use Rattle.bw_page.specs.Lows.{lows_of}
use Rattle.bw_page.proofs.index.index_of_found.Given as goal

abbrev pub invariant-loop-at : goal.invariant-loop-at
invariant-loop-at l = (1 ≤ l.at) × (l.at ≤ length l.pages) × ((q : Bytes) → page_of_low l.index q ≡ find order q (lows_of (drop l.at l.pages)))

abbrev pub decreases-loop-at : goal.decreases-loop-at
decreases-loop-at l = l.at
