use Rattle.std.proofs.Common.{◌≡◌, ◌≤◌, ◌*◌, ◌^◌, take}
use Rattle.bw_log.specs.Contents.{counted}
use Rattle.bw_core.specs.Needed.{needed_of}
use Rattle.bw_core.specs.Views.{kept_by}
use Rattle.bw_core.proofs.store.Core.needed_between.Given as goal

abbrev pub invariant-pages : goal.invariant-pages
invariant-pages g l = record {
  value : l.needed ≡ needed_of l.after l.last (counted (kept_by l.self (λ z. (goal.Segment-dyn g z).holding z.1)).log) (take l.before l.self.pages.leaves.leaves);
  small : l.needed ≤ 2 ^ 32 * l.before;
}
