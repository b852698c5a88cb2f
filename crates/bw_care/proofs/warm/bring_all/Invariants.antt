use Rattle.std.proofs.Common.{◌≡◌, ◌<◌, ℕ, true, false}
use Rattle.bw_page.specs.Shown.{is_evicted_page}
use Rattle.bw_care.specs.Views.{seen}
use Rattle.bw_care.proofs.warm.bring_all.Given as goal

-- the pages up to this one are in memory
abbrev pub invariant-loop-index : goal.invariant-loop-index
invariant-loop-index g l = record {
  m : l.leaves.m ≡ l.initial.leaves.m;
  leaves : l.leaves.leaves ≡ l.initial.leaves.leaves;
  log : seen l.log (λ z. (goal.Segment-dyn g z).holding z.1) ≡ seen l.initial.log (λ z. (goal.Segment-dyn g z).holding z.1);
  numbered : is_evicted_page 0 l.leaves ≡ false;
  behind : (p : ℕ) → is_evicted_page p l.leaves ≡ true → (l.index < p) × (is_evicted_page p l.initial.leaves ≡ true);
}
