use Rattle.std.proofs.Common.{◌≡◌, ◌≤◌, ◌-◌, ℕ, length, slice_get}
use Rattle.bw_log.specs.Contents.{counted}
use Rattle.bw_log.specs.Places.{place_of}
use Rattle.bw_care.specs.Views.{seen}
use Rattle.bw_care.proofs.newest.renew.Given as goal

abbrev pub invariant-pages : goal.invariant-pages
invariant-pages g l = record {
  count : length l.newest.items ≡ length l.initial.newest.items;
  each : (p : ℕ) → 1 ≤ p → p ≤ l.at
      → slice_get l.newest.items (p - 1) ≡ place_of p (counted (seen l.log (λ b. (goal.Segment-dyn g b).holding b.1)));
}
