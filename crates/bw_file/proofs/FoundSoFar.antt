-- The numbers that were found so far ascend.

use Rattle.std.proofs.Common.{◌≡◌, ℕ, zero, suc, ◌+◌, ◌<◌, List, [], ◌∷◌, ◌++◌, All, length, sym, subst, arith}
use Rattle.std.specs.List.{slice_index}
use Rattle.std.proofs.lemmas.List.Elements.{All-push, All-weaker}
use Rattle.std.specs.List.Sorted.{IsStrictlyIncreasing}

-- they stand below the number that is looked at, and ascend
abbrev pub Ascend : ℕ → List ℕ → Type 0
Ascend n found = All (λ k. k < n) found × IsStrictlyIncreasing found

up : (n : ℕ) (found : List ℕ) → All (λ k. k < n) found → IsStrictlyIncreasing found → IsStrictlyIncreasing (found ++ n ∷ [])
up n [] below rises k inside = absurd (omega arith)
up n (x ∷ []) below rises zero inside = below 0 0 (omega arith)
up n (x ∷ []) below rises (suc k) inside = absurd (omega arith)
up n (x ∷ y ∷ ys) below rises zero inside = rises 0 (omega arith)
up n (x ∷ y ∷ ys) below rises (suc k) inside =
    let later : (i : ℕ) → i + 1 < length (y ∷ ys) → slice_index (y ∷ ys) i < slice_index (y ∷ ys) (i + 1) =
    λ i l. (let step : suc i + 1 ≡ suc (i + 1) = omega arith in
    subst (λ j. slice_index (x ∷ y ∷ ys) (suc i) < slice_index (x ∷ y ∷ ys) j) step (rises (suc i) (omega arith))) in
    let step : suc (k + 1) ≡ suc k + 1 = omega arith in
    subst (λ j. slice_index ((x ∷ y ∷ ys) ++ n ∷ []) (suc k) < slice_index ((x ∷ y ∷ ys) ++ n ∷ []) j) step
    (up n (y ∷ ys) (λ i d l. below (suc i) d (omega arith)) later k (omega arith))

weaker : (n : ℕ) (found : List ℕ) → All (λ k. k < n) found → All (λ k. k < n + 1) found
weaker n found below = All-weaker (λ k. k < n) (λ k. k < n + 1) (λ k l. omega arith) found below

-- it was found
pub found_one : (n : ℕ) (found now : List ℕ) → now ≡ found ++ n ∷ [] → Ascend n found → Ascend (n + 1) now
found_one n found now is so_far =
    subst (λ l. Ascend (n + 1) l) (sym is) (All-push (λ k. k < n + 1) found n (weaker n found so_far.0) (omega arith), up n found so_far.0 so_far.1)

-- it was not
pub found_none : (n : ℕ) (found now : List ℕ) → now ≡ found → Ascend n found → Ascend (n + 1) now
found_none n found now is so_far = subst (λ l. Ascend (n + 1) l) (sym is) (weaker n found so_far.0, so_far.1)
