use mathlib.Core.List.{IsPrefix}
use Rattle.bw_versions.specs.Batches.{entries_of}
use Rattle.page_tests.proofs.tests.version.threads.publish_all.Given as goal

abbrev pub invariant-loop-value : goal.invariant-loop-value
invariant-loop-value g l = IsPrefix (entries_of l.stand.versions.entered) l.stand.history.items
