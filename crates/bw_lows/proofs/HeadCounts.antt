-- A count of the parts of a row whose last head is below another one, if heads ascend.

use Rattle.std.proofs.Common.{◌≡◌, ℕ, suc, ◌+◌, ◌-◌, ◌<◌, ◌≤◌, inl, inr, List, length, get_or, subst, arith}
use Rattle.std.proofs.lemmas.Bool.{cases_lt}
use Rattle.bw_lows.specs.LowRow.{DoAscend, IsHeadBetween, IsHeadBoundary}

-- the parts before `below` are below, and the next one is not, if it ends before `at`
module _ (row : List ℕ) (h below width at : ℕ) (asc : DoAscend row) (inside : at < length row) (some : 0 < width) (parts : below + width ≤ suc at)
    (behind : (i : ℕ) → suc i ≡ below + width → i < at → h ≤ get_or row i 0) where
  -- a part whose last head is below comes right after those
  pub is_next : get_or row at 0 < h → below + width ≡ suc at
  is_next less = elim (cases_lt (below + width - 1) at) as (λ _. below + width ≡ suc at) [
    | inl k ↦ absurd (omega (arith, behind (below + width - 1) (omega arith) k, asc (below + width - 1) at k inside))
    | inr k ↦ omega arith
  ]

  -- a part whose last head is not below leaves the next one where it is
  pub is_not : h ≤ get_or row at 0 → (i : ℕ) → suc i ≡ below + width → i < at + width → h ≤ get_or row i 0
  is_not upto i e less = elim (cases_lt i at) as (λ _. h ≤ get_or row i 0) [
    | inl k ↦ behind i e k
    | inr k ↦ subst (λ (j : ℕ). h ≤ get_or row j 0) {x = at} (omega arith) upto
  ]

-- two places that are the same are the boundary
pub boundary_between : (row : List ℕ) (h least from to : ℕ) → to < from + 1 → IsHeadBetween row h least from to → IsHeadBoundary row h least from
boundary_between row h least from to same is =
    let e : to ≡ from = (let order : from ≤ to = is.order in omega arith) in
    record {
      order = is.least_from;
      within = omega (arith, is.order, is.within);
      before = is.before;
      behind = λ k. subst (λ (j : ℕ). h ≤ get_or row j 0) e (is.behind (omega arith));
    }

-- nothing is known yet
pub between_all : (row : List ℕ) (h least : ℕ) → least ≤ length row → IsHeadBetween row h least least (length row)
between_all row h least inside = record {
  least_from = omega arith;
  order = inside;
  within = omega arith;
  before = λ i e less. absurd (omega arith);
  behind = λ k. absurd (omega arith);
}
