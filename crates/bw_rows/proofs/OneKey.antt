-- When two keys are one.

use Rattle.std.proofs.Common.{ℕ, ◌≡◌, ◌<◌, true, false, [], ◌∷◌, ◌++◌, length, take, refl, sym, ap, ◌∙◌, arith}
use Rattle.std.specs.Ordering.{MatchOrdering, nat_cmp, is_eq, ordering_then}
use Rattle.std.specs.Cmp.{ranked}
use Rattle.std.specs.Cmp.Lexicographic.{slice_cmp}
use Rattle.std.specs.declared.cmp.Ordering.TheVariants.{Less, Equal, Greater}
use Rattle.bw_record.proofs.Order.{itself, tied, apart}
use Rattle.bw_rows.specs.Spelling.{Bytes, same, four, chunk_place, row_place}

pub same_self : (a : Bytes) → same a a ≡ true
same_self a = itself a

pub same_true : (a b : Bytes) → same a b ≡ true → a ≡ b
same_true a b h = tied a b h

pub same_false : (a b : Bytes) → (a ≡ b → ⊥) → same a b ≡ false
same_false a b h = apart a b h

-- by whether two keys are one
pub split : {C : Type 0} (a b : Bytes) → (same a b ≡ true → C) → (same a b ≡ false → C) → C
split {C} a b one other =
    elim (same a b) as (λ t. same a b ≡ t → C) [
      | true ↦ one
      | false ↦ other
    ] refl

-- what is the same in front of two keys does not part them
pub same_behind : (s a b : Bytes) → same (s ++ a) (s ++ b) ≡ same a b
same_behind [] a b = refl
same_behind (x ∷ s) a b =
    elim (nat_cmp x x) as (λ o. MatchOrdering o (x < x) (x ≡ x) (x < x) → is_eq (ordering_then o (slice_cmp nat_cmp (s ++ a) (s ++ b))) ≡ same a b) [
      | Less ↦ λ less. absurd (omega arith)
      | Equal ↦ λ one. same_behind s a b
      | Greater ↦ λ more. absurd (omega arith)
    ] (ranked x x (nat_cmp x x) refl)

take_front : (n a b : Bytes) (w : ℕ) → length n ≡ w → take w (n ++ a) ≡ n
take_front [] a b w e = ap (λ (x : ℕ). take x a) (sym e)
take_front (x ∷ n) a b w e = ap (λ (z : ℕ). take z (x ∷ (n ++ a))) (sym e) ∙ ap (λ (r : Bytes). x ∷ r) (take_front n a b (length n) refl)

-- the number in the place of a chunk
pub number_of_place : (n : Bytes) (i : ℕ) → length n ≡ 8 → take 8 (chunk_place n i) ≡ n
number_of_place n i e = take_front n (four i) [] 8 e

-- places of chunks of two numbers are two
pub chunks_apart : (n m : Bytes) (i j : ℕ) → length n ≡ 8 → length m ≡ 8 → (m ≡ n → ⊥) → same (chunk_place m j) (chunk_place n i) ≡ false
chunks_apart n m i j wide its other =
    same_false _ _ (λ e. other (sym (number_of_place m j its) ∙ ap (take 8) e ∙ number_of_place n i wide))

-- places of rows of two tables are two
pub rows_apart : (t u a b : Bytes) → length t ≡ 2 → length u ≡ 2 → (u ≡ t → ⊥) → same (row_place u b) (row_place t a) ≡ false
rows_apart t u a b wide its other =
    same_false _ _ (λ e. other (sym (take_front u b [] 2 its) ∙ ap (take 2) e ∙ take_front t a [] 2 wide))
