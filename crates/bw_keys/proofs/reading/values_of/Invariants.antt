use Rattle.std.proofs.Common.{◌≡◌, map}
use Rattle.bw_care.specs.Found.{IsRecovered}
use Rattle.bw_keys.specs.Asked.{values}
use Rattle.bw_keys.proofs.reading.values_of.Given as goal

abbrev pub invariant-keys : goal.invariant-keys
invariant-keys g l = record {
  recovered : IsRecovered (λ b. (goal.Segment-dyn g (b.vtable, b.value)).holding b.value) l.pages;
  leaves : l.pages.leaves.leaves ≡ l.initial.pages.leaves.leaves;
  values : l.values.items ≡ values l.initial.pages.leaves.leaves (map (λ k. k.now) l.yielded);
}
