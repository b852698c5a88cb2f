use Rattle.std.proofs.Common.{◌≡◌}
use mathlib.Core.List.{IsPrefix}
use Rattle.bw_versions.specs.Batches.{entries_of}
use Rattle.page_tests.proofs.tests.version.walking.walked.Given as goal

abbrev pub invariant-loop-i : goal.invariant-loop-i
invariant-loop-i g l = record {
  begins : IsPrefix (entries_of l.stand.versions.entered) l.stand.history.items;
  own : l.reader.book ≡ l.stand.versions.book;
}
