use Rattle.std.proofs.Common.{◌≡◌}
use mathlib.Core.List.{IsPrefix}
use Rattle.bw_versions.specs.Batches.{entries_of}
use Rattle.page_tests.proofs.tests.version.learning.publish_all.Given as goal

abbrev pub invariant-loop-number : goal.invariant-loop-number
invariant-loop-number g l = record {
  begins : IsPrefix (entries_of l.stand.versions.entered) l.stand.history.items;
  book : l.stand.versions.book ≡ l.fn.stand.versions.book;
}
