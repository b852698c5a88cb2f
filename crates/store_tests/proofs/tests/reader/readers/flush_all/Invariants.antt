use Rattle.bw_store.specs.Views.{IsSound}
use Rattle.store_tests.proofs.tests.reader.readers.flush_all.Given as goal

abbrev pub invariant-loop-value : goal.invariant-loop-value
invariant-loop-value g l = IsSound l.served.store (λ z. (goal.Segment-dyn g z).holding z.1)
