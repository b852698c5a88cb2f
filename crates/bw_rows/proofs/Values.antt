-- Each step of a call leaves a lawful map, and changes one value.

use Rattle.std.proofs.Common.{ℕ, ◌≡◌, true, false, cond, Option, Some, None, is_some, take, refl, sym, ap, ◌∙◌}
use Rattle.std.proofs.lemmas.Bool.{true≢false}
use Rattle.std.specs.Option.{option_map, option_and_then}
use Rattle.bw_rows.specs.Spelling.{Bytes, same, row_key, chunk_key, chunk_place, head_of, chunks_in}
use Rattle.bw_rows.specs.Meaning.{Plain, joined, value_by, value_of}
use Rattle.bw_rows.specs.Law.{head_at, HasValues, Steps, IsWhole}
use Rattle.bw_rows.proofs.OneKey.{split, same_self, same_true, same_false}

-- ---- heads

abbrev next_head : Option Bytes → Option (Bytes × ℕ)
next_head row = option_and_then head_of row

-- the number and length of an option, if two options are one
pub same_number : (n m : Bytes) (c d : ℕ) → ◌≡◌ {A = Option (Bytes × ℕ)} (Some (n, c)) (Some (m, d)) → n ≡ m
same_number n m c d e = ap (λ (o : Option (Bytes × ℕ)). elim o as (λ _. Bytes) [ None ↦ n | Some h ↦ h.0 ]) e

-- by whether a head is there
by_head : {C : Type 0} (o : Option (Bytes × ℕ)) → (o ≡ None → C) → ((n : Bytes) (len : ℕ) → o ≡ Some (n, len) → C) → C
by_head {C} o none some =
    elim o as (λ x. o ≡ x → C) [
      | None ↦ none
      | Some h ↦ some h.0 h.1
    ] refl

-- by whether a number is that of a head
by_number : {C : Type 0} (o : Option (Bytes × ℕ)) (m : Bytes) → ((len : ℕ) → o ≡ Some (m, len) → C) → (((len : ℕ) → o ≡ Some (m, len) → ⊥) → C) → C
by_number o m its other =
    by_head o
    (λ none. other (λ len some. let e : ◌≡◌ {A = Option (Bytes × ℕ)} None (Some (m, len)) = sym none ∙ some in absurd (cc e)))
    (λ n len some. split m n
    (λ one. its len (some ∙ ap (λ (x : Bytes). Some (x, len)) (sym (same_true m n one))))
    (λ two. other (λ c e. true≢false (sym (same_self m) ∙ ap (same m) (same_number m n c len (sym e ∙ some)) ∙ two))))

-- ---- chunks

-- if no chunk changes, no value does
pub same_value : (p new : Plain) → ((c : Bytes) → new (chunk_key c) ≡ p (chunk_key c)) → (row : Bytes) → value_of new row ≡ value_of p row
same_value p new chunks row =
    elim (head_of row) as (λ h. value_by new row h ≡ value_by p row h) [
      | None ↦ refl
      | Some h ↦ ap (λ (f : ℕ → Option Bytes). joined f (chunks_in h.1)) (λ i j. chunks (chunk_place h.0 j) i)
    ]

pub same_optional : (p new : Plain) → ((c : Bytes) → new (chunk_key c) ≡ p (chunk_key c)) → (row : Option Bytes) → option_map (value_of new) row ≡ option_map (value_of p) row
same_optional p new chunks None = refl
same_optional p new chunks (Some row) = ap (λ (v : Bytes). Some v) (same_value p new chunks row)

-- ---- the step

module _ (p new : Plain) (k : Bytes) (row : Option Bytes) (lawful : HasValues p) (whole : IsWhole p row) (steps : Steps p new k row) where
  there : (q : Bytes) → same q k ≡ true → new (row_key q) ≡ row
  there q one = steps.rows q ∙ ap (λ b. cond b row (p (row_key q))) one

  elsewhere : (q : Bytes) → same q k ≡ false → new (row_key q) ≡ p (row_key q)
  elsewhere q two = steps.rows q ∙ ap (λ b. cond b row (p (row_key q))) two

  head_there : (q n : Bytes) (c : ℕ) → same q k ≡ true → head_at new q ≡ Some (n, c) → next_head row ≡ Some (n, c)
  head_there q n c one h = sym (ap (option_and_then head_of) (there q one)) ∙ h

  head_else : (q n : Bytes) (c : ℕ) → same q k ≡ false → head_at new q ≡ Some (n, c) → head_at p q ≡ Some (n, c)
  head_else q n c two h = sym (ap (option_and_then head_of) (elsewhere q two)) ∙ h

  -- what another row names was not doomed, and is not what this one names
  fresh : {C : Type 0} (q n : Bytes) (c d : ℕ) → head_at p q ≡ Some (n, c) → next_head row ≡ Some (n, d) → C
  fresh q n c d its here = absurd (true≢false (sym (whole.doomed n d here) ∙ lawful.kept q n c its))

  pub step_is_lawful : HasValues new
  step_is_lawful = record {
    long = λ q n len h. split q k
        (λ one. whole.long n len (head_there q n len one h))
        (λ two. lawful.long q n len (head_else q n len two h));
    full = λ q n len i h less.
        ap is_some (steps.chunks (chunk_place n i)) ∙ split q k
        (λ one. whole.full n len i (head_there q n len one h) less)
        (λ two. lawful.full q n len i (head_else q n len two h) less);
    once = λ q r n c d h g.
        split q k
        (λ one. split r k
        (λ its. same_true q k one ∙ sym (same_true r k its))
        (λ two. fresh r n d c (head_else r n d two g) (head_there q n c one h)))
        (λ two. split r k
        (λ its. fresh q n c d (head_else q n c two h) (head_there r n d its g))
        (λ both. lawful.once q r n c d (head_else q n c two h) (head_else r n d both g)));
    kept = λ q n c h.
        split q k
        (λ one. steps.next n c (head_there q n c one h))
        (λ two.
        let its : head_at p q ≡ Some (n, c) = head_else q n c two h in
        steps.others n
        (λ d old. true≢false (sym (same_self k) ∙ ap (λ (x : Bytes). same x k) (sym (lawful.once q k n c d its old)) ∙ two))
        (λ d here. fresh q n c d its here)
        ∙ lawful.kept q n c its);
    known = λ c chunk free.
        by_number (head_at p k) (take 8 c)
        (λ len old. absurd (true≢false (sym (steps.old (take 8 c) len old) ∙ free)))
        (λ not_old. by_number (next_head row) (take 8 c)
        (λ len here. (k, (len, ap (option_and_then head_of) (there k (same_self k)) ∙ here)))
        (λ not_new.
        let its = lawful.known c (sym (ap is_some (steps.chunks c)) ∙ chunk) (sym (steps.others (take 8 c) not_old not_new) ∙ free) in
        (its.0, (its.1.0, ap (option_and_then head_of) (elsewhere its.0 (same_false its.0 k (λ e. not_old its.1.0 (sym (ap (head_at p) e) ∙ its.1.1)))) ∙ its.1.1))));
  }

  -- the value at its place is that of its row, and all others stay
  pub step_is_found : (q : Bytes) → option_map (value_of new) (new (row_key q)) ≡ cond (same q k) (option_map (value_of p) row) (option_map (value_of p) (p (row_key q)))
  step_is_found q =
      same_optional p new steps.chunks (new (row_key q)) ∙ ap (option_map (value_of p)) (steps.rows q)
      ∙ elim (same q k) as (λ b. option_map (value_of p) (cond b row (p (row_key q))) ≡ cond b (option_map (value_of p) row) (option_map (value_of p) (p (row_key q)))) [
        | true ↦ refl
        | false ↦ refl
      ]
