-- A put of a long value is one step.

use Rattle.std.proofs.Common.{ℕ, zero, suc, ◌≡◌, ◌+◌, ◌<◌, ◌≤◌, ◌^◌, true, false, cond, Some, None, is_some, List, [], ◌∷◌, ◌++◌, length, drop, refl, sym, ap, subst, ◌∙◌, arith, nat_eq, eq-eqb, ◌-◌, append_assoc, length-append}
use Rattle.bw_record.specs.declared.record.Record.{Record}
use Rattle.std.proofs.lemmas.Bool.{true≢false, eqb-true}
use Rattle.std.specs.Int.{w32, from_be_bytes}
use Rattle.std.proofs.lemmas.Nat.{from_be_bytes-to_be_bytes_4}
use Rattle.std.proofs.lemmas.List.Sums.{fold_push}
use Rattle.bw_rows.specs.Spelling.{Bytes, same, four, doomed_key, chunk_place, row_place, head_row, chunk_of, chunks_in}
use Rattle.bw_rows.specs.Meaning.{Plain, Tables, chunks_of, joined, with_value}
use Rattle.bw_rows.specs.Law.{head_at}
use Rattle.bw_rows.specs.Steps.{with, changed, after, step_of}
use Rattle.bw_rows.specs.Laws.{IsTables}
use Rattle.bw_rows.proofs.OneKey.{same_self, same_false}
use Rattle.bw_rows.proofs.TableLaws.{doom_law, free_law, chunk_law, head_law}
use Rattle.bw_rows.proofs.HeadLaws.{head_named}
use Rattle.bw_rows.proofs.ChunkLaws.{all_joined}
use Rattle.bw_tables.specs.Writing.{chunk_record, chunk_records, IsWriting, TakingIsLawful, ChunksAreLawful, LongIsTheStep}

pub taking_law : TakingIsLawful
taking_law tables p n value h unnamed =
    let doomed : IsTables tables (with p (doomed_key n) (Some [])) = doom_law tables p n h unnamed in
    record {
      stays = free_law tables (with p (doomed_key n) (Some [])) n None doomed;
      doomed = ap (λ b. is_some (cond b (Some []) (p (doomed_key n)))) (same_self n);
      chunks = λ i less. absurd (omega arith);
    }

-- ---- places of chunks

four_back : (n : ℕ) → n < 2 ^ 32 → from_be_bytes w32 (four n) ≡ n
unfolding four
four_back n fits = from_be_bytes-to_be_bytes_4 n fits

back_of : (n a : Bytes) → drop (length n) (n ++ a) ≡ a
back_of [] a = refl
back_of (x ∷ n) a = back_of n a

-- two chunks of a number have two places
two_places : (n : Bytes) (i j : ℕ) → i < 2 ^ 32 → j < 2 ^ 32 → (j ≡ i → ⊥) → same (chunk_place n j) (chunk_place n i) ≡ false
two_places n i j fits its other =
    same_false _ _ (λ e. other (sym (four_back j its)
    ∙ ap (from_be_bytes w32) (sym (back_of n (four j)) ∙ ap (drop (length n)) e ∙ back_of n (four i))
    ∙ four_back i fits))

-- ---- chunks

-- a number below the next is this one, or below it
by_less : {C : Type 0} (j i : ℕ) → j < suc i → (j ≡ i → C) → ((j ≡ i → ⊥) → j < i → C) → C
by_less {C} j i less one other =
    elim (nat_eq j i) as (λ t. nat_eq j i ≡ t → C) [
      | true ↦ λ e. one (eqb-true j i e)
      | false ↦ λ e. let two : j ≡ i → ⊥ = λ same. true≢false (sym (eq-eqb j i same) ∙ e) in other two (omega arith)
    ] refl

one_chunk : (tables : Tables) (p : Plain) (n value : Bytes) (i : ℕ) → length n ≡ 8 → i < 2 ^ 32 → IsWriting tables p n value i
    → IsWriting tables (changed p (chunk_record n value i)) n value (suc i)
one_chunk tables p n value i wide fits h = record {
  stays = chunk_law tables p n i (Some (chunk_of value i)) wide h.stays h.doomed;
  doomed = h.doomed;
  chunks = λ j less. by_less j i less
      (λ one. ap (λ b. cond b (Some (chunk_of value i)) (chunks_of p n j)) (ap (λ (x : ℕ). same (chunk_place n x) (chunk_place n i)) one ∙ same_self (chunk_place n i))
      ∙ ap (λ (x : ℕ). Some (chunk_of value x)) (sym one))
      (λ two before. ap (λ b. cond b (Some (chunk_of value i)) (chunks_of p n j)) (two_places n i j fits (omega arith) two) ∙ h.chunks j before);
}

pub chunks_law : ChunksAreLawful
chunks_law tables p n value i zero wide fits h =
    subst (IsWriting tables p n value) (let e : i ≡ i + zero = omega arith in e) h
chunks_law tables p n value i (suc k) wide fits h =
    let before : IsWriting tables (after p (chunk_records n value i k)) n value (i + k) = chunks_law tables p n value i k wide (omega arith) h in
    let next : IsWriting tables (changed (after p (chunk_records n value i k)) (chunk_record n value (i + k))) n value (suc (i + k))
    = one_chunk tables (after p (chunk_records n value i k)) n value (i + k) wide (omega arith) before in
    let counted : IsWriting tables (changed (after p (chunk_records n value i k)) (chunk_record n value (i + k))) n value (i + suc k)
    = subst (IsWriting tables (changed (after p (chunk_records n value i k)) (chunk_record n value (i + k))) n value) (let e : suc (i + k) ≡ i + suc k = omega arith in e) next in
    subst (λ (q : Plain). IsWriting tables q n value (i + suc k)) (sym (fold_push changed p (chunk_records n value i k) (chunk_record n value (i + k)))) counted

-- ---- lists of chunks

pub length-chunk_records : (n value : Bytes) (i k : ℕ) → length (chunk_records n value i k) ≡ k
length-chunk_records n value i zero = refl
length-chunk_records n value i (suc k) =
    length-append (chunk_records n value i k) (chunk_record n value (i + k) ∷ []) ∙ (let e = length-chunk_records n value i k in omega arith)

-- the first of them in front
pub first_chunk : (n value : Bytes) (i k : ℕ) → chunk_record n value i ∷ chunk_records n value (i + 1) k ≡ chunk_records n value i (suc k)
first_chunk n value i zero = ap (λ (x : ℕ). chunk_record n value x ∷ []) (let e : i ≡ i + zero = omega arith in e)
first_chunk n value i (suc k) =
    ap (λ (x : ℕ). chunk_record n value i ∷ (chunk_records n value (i + 1) k ++ chunk_record n value x ∷ [])) (let e : (i + 1) + k ≡ i + suc k = omega arith in e)
    ∙ ap (λ (l : List Record). l ++ chunk_record n value (i + suc k) ∷ []) (first_chunk n value i k)

pub from_first : (n value : Bytes) (i to : ℕ) → i < to → (chunk_record n value i ∷ []) ++ chunk_records n value (i + 1) (to - (i + 1)) ≡ chunk_records n value i (to - i)
from_first n value i to less =
    first_chunk n value i (to - (i + 1)) ∙ ap (chunk_records n value i) (let e : suc (to - (i + 1)) ≡ to - i = omega arith in e)

-- one more after them
pub one_more : (g old new : List Record) (n value : Bytes) (from i : ℕ) → from ≤ i → old ≡ g ++ chunk_records n value from (i - from)
    → new ≡ old ++ chunk_record n value i ∷ [] → new ≡ g ++ chunk_records n value from ((i + 1) - from)
one_more g old new n value from i upto was is =
    is ∙ ap (λ (l : List Record). l ++ chunk_record n value i ∷ []) was
    ∙ append_assoc g (chunk_records n value from (i - from)) (chunk_record n value i ∷ [])
    ∙ ap (λ (x : ℕ). g ++ (chunk_records n value from (i - from) ++ chunk_record n value x ∷ [])) (let e : i ≡ from + (i - from) = omega arith in e)
    ∙ ap (λ (k : ℕ). g ++ chunk_records n value from k) (let e : suc (i - from) ≡ (i + 1) - from = omega arith in e)

-- ---- the step

pub step_law : LongIsTheStep
step_law tables p name t key n value wide long fits h its =
    let whole : joined (chunks_of p n) (chunks_in (length value)) ≡ value = all_joined (chunks_of p n) value h.chunks in
    let step = head_law tables p name t key (head_row n (length value)) n (length value) h.stays its (head_named n (length value) wide fits) (omega arith) h.doomed
    (λ i less. ap is_some (h.chunks i less)) in
    subst (λ (v : Bytes). IsTables (with_value tables name key (Some v)) (after p (step_of (row_place t key) (Some (head_row n (length value))) (head_at p (row_place t key))))) whole step
