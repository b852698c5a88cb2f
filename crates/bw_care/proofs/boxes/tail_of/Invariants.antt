use Rattle.std.proofs.Common.{◌≡◌, ◌+◌, ◌-◌, ◌*◌, ◌≤◌, length, drop}
use Rattle.std.specs.List.{fold}
use Rattle.bw_care.specs.Surveying.{tails_found}
use Rattle.bw_care.proofs.boxes.tail_of.Given as goal

abbrev pub invariant-live : goal.invariant-live
invariant-live l = record {
  sum : fold (λ n r. n + r.behind.tail) l.tail (drop l.at l.live) ≡ tails_found l.live;
  within : l.at ≤ length l.live;
  small : l.tail ≤ l.at * 1073741824;
}

abbrev pub decreases-live : goal.decreases-live
decreases-live l = length l.live - l.at
