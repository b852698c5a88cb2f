use Rattle.std.proofs.Common.{◌≡◌, ◌-◌, false, length, drop}
use Rattle.bw_care.specs.Ordering.{is_clean_from}
use Rattle.bw_care.proofs.order.ends_clean.Given as goal

abbrev pub invariant-live : goal.invariant-live
invariant-live l = is_clean_from l.clean (drop l.at l.live) ≡ is_clean_from false l.live

abbrev pub decreases-live : goal.decreases-live
decreases-live l = length l.live - l.at
