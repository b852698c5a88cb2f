use Rattle.std.proofs.Common.{◌≡◌, ◌-◌, ◌^◌, min, take}
use Rattle.std.specs.List.{sum_by}
use Rattle.bw_care.specs.Found.{IsRecovered}
use Rattle.bw_keys.specs.Asked.{count_at}
use Rattle.bw_keys.proofs.reading.count_of.Given as goal

abbrev pub invariant-pages : goal.invariant-pages
invariant-pages g l = record {
  recovered : IsRecovered (λ b. (goal.Segment-dyn g (b.vtable, b.value)).holding b.value) l.pages;
  leaves : l.pages.leaves.leaves ≡ l.initial.pages.leaves.leaves;
  count : l.count ≡ min (sum_by (count_at l.span l.initial.pages.leaves.leaves) (take l.number-index l.numbers)) (2 ^ 64 - 1);
}
