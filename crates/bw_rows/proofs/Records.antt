-- What one record leaves lawful, and the records of a step.

use Rattle.std.proofs.Common.{ℕ, ◌≡◌, ◌≤◌, inl, inr, Bool, true, false, cond, Option, Some, None, is_some, [], ◌∷◌, ◌&&◌, nat_eq, length, take, drop, refl, sym, ap, ◌∙◌, arith}
use Rattle.std.proofs.lemmas.Bool.{true≢false, eqb-true}
use Rattle.std.proofs.lemmas.List.{length-take-le}
use Rattle.std.specs.Option.{option_map, option_and_then}
use Rattle.bw_rows.specs.Spelling.{Bytes, same, name_key, row_key, chunk_key, chunk_place, doomed_key, gone_key, head_of, number_in, chunks_in}
use Rattle.bw_rows.specs.Meaning.{Plain, chunks_of, joined, value_by, value_of, table_in}
use Rattle.bw_rows.specs.Law.{head_at, is_doomed, HasValues, HasNames}
use Rattle.bw_rows.specs.Steps.{with, head_in}
use Rattle.bw_rows.specs.Laws.{IsUnnamed, HasHomes, HasNoChunk, HasNumber, IsKnown}
use Rattle.bw_rows.proofs.OneKey.{split, same_true, chunks_apart, number_of_place}
use Rattle.bw_rows.proofs.Values.{same_number}

-- ---- the width of a head's number

head_wide_by : (b : Bool) (rest n : Bytes) (len : ℕ) → (b ≡ true → 8 ≤ length rest) → cond {A = Option (Bytes × ℕ)} b (Some (take 8 rest, number_in (drop 8 rest))) None ≡ Some (n, len) → length n ≡ 8
head_wide_by true rest n len wide e = sym (ap length (same_number (take 8 rest) n (number_in (drop 8 rest)) len e)) ∙ length-take-le 8 rest (wide refl)
head_wide_by false rest n len wide e = absurd (cc e)

both_second : (a b : Bool) → (a && b) ≡ true → b ≡ true
both_second true b h = h
both_second false b h = absurd (cc h)

wide_row : (row n : Bytes) (len : ℕ) → head_of row ≡ Some (n, len) → length n ≡ 8
wide_row [] n len e = absurd (cc e)
wide_row (kind ∷ rest) n len e =
    head_wide_by (nat_eq kind 1 && nat_eq (length rest) 16) rest n len
    (λ h. let sixteen : length rest ≡ 16 = eqb-true (length rest) 16 (both_second (nat_eq kind 1) (nat_eq (length rest) 16) h) in omega arith) e

pub wide_option : (row : Option Bytes) (n : Bytes) (len : ℕ) → head_in row ≡ Some (n, len) → length n ≡ 8
wide_option None n len e = absurd (cc e)
wide_option (Some row) n len e = wide_row row n len e

pub head_wide : (p : Plain) (k n : Bytes) (len : ℕ) → head_at p k ≡ Some (n, len) → length n ≡ 8
head_wide p k n len e = wide_option (p (row_key k)) n len e

-- ---- keys of a kind that no value reads

pub unread_is_lawful : (p new : Plain) → ((q : Bytes) → new (row_key q) ≡ p (row_key q)) → ((c : Bytes) → new (chunk_key c) ≡ p (chunk_key c))
    → ((n : Bytes) → new (doomed_key n) ≡ p (doomed_key n)) → HasValues p → HasValues new
unread_is_lawful p new rows chunks dooms lawful =
    let head : (k : Bytes) → head_at new k ≡ head_at p k = λ k. ap (option_and_then head_of) (rows k) in
    record {
      long = λ k n len h. lawful.long k n len (sym (head k) ∙ h);
      full = λ k n len i h less. ap is_some (chunks (chunk_place n i)) ∙ lawful.full k n len i (sym (head k) ∙ h) less;
      once = λ k q n c d h g. lawful.once k q n c d (sym (head k) ∙ h) (sym (head q) ∙ g);
      kept = λ k n c h. ap is_some (dooms n) ∙ lawful.kept k n c (sym (head k) ∙ h);
      known = λ c chunk free.
          let its = lawful.known c (sym (ap is_some (chunks c)) ∙ chunk) (sym (ap is_some (dooms (take 8 c))) ∙ free) in
          (its.0, (its.1.0, head its.0 ∙ its.1.1));
    }

pub unread_names : (p new : Plain) → ((name : Bytes) → new (name_key name) ≡ p (name_key name)) → HasNames p → HasNames new
unread_names p new names lawful = record {
  wide = λ name row h. lawful.wide name row (sym (names name) ∙ h);
  apart = λ name other row its h g e. lawful.apart name other row its (sym (names name) ∙ h) (sym (names other) ∙ g) e;
}

pub same_number_at : (p new : Plain) (name t : Bytes) → new (name_key name) ≡ p (name_key name) → HasNumber p name t → HasNumber new name t
same_number_at p new name t same its = ap (option_map table_in) same ∙ its

-- what has a table, or is gone, stays so if names and gone numbers do
pub still_known : (p new : Plain) (t : Bytes) → ((name : Bytes) → new (name_key name) ≡ p (name_key name)) → new (gone_key t) ≡ p (gone_key t) → IsKnown p t → IsKnown new t
still_known p new t names gone (inl its) = inl (its.0, same_number_at p new its.0 t (names its.0) its.1)
still_known p new t names gone (inr its) = inr (ap is_some gone ∙ its)

pub unread_homes : (p new : Plain) → ((q : Bytes) → new (row_key q) ≡ p (row_key q)) → ((name : Bytes) → new (name_key name) ≡ p (name_key name))
    → ((t : Bytes) → new (gone_key t) ≡ p (gone_key t)) → HasHomes p → HasHomes new
unread_homes p new rows names gone homes k there = still_known p new (take 2 k) names (gone (take 2 k)) (homes k (sym (ap is_some (rows k)) ∙ there))

-- ---- a chunk of a doomed number

module _ (p : Plain) (n : Bytes) (i : ℕ) (chunk : Option Bytes) (wide : length n ≡ 8) (lawful : HasValues p) (doomed : is_doomed p n ≡ true) where
  abbrev place : Bytes
  place = chunk_place n i

  abbrev new : Plain
  new = with p (chunk_key place) chunk

  -- a number that a row names is another
  another : (k m : Bytes) (len : ℕ) → head_at p k ≡ Some (m, len) → m ≡ n → ⊥
  another k m len h e = true≢false (sym doomed ∙ ap (is_doomed p) (sym e) ∙ lawful.kept k m len h)

  untouched : (k m : Bytes) (len j : ℕ) → head_at p k ≡ Some (m, len) → chunks_of new m j ≡ chunks_of p m j
  untouched k m len j h =
      ap (λ b. cond b chunk (chunks_of p m j)) (chunks_apart n m i j wide (head_wide p k m len h) (another k m len h))

  pub chunk_is_lawful : HasValues new
  chunk_is_lawful = record {
    long = lawful.long;
    full = λ k m len j h less. ap is_some (untouched k m len j h) ∙ lawful.full k m len j h less;
    once = lawful.once;
    kept = lawful.kept;
    known = λ c there free. split c place
        (λ one. absurd (true≢false (sym doomed ∙ ap (is_doomed p) (sym (number_of_place n i wide) ∙ ap (take 8) (sym (same_true c place one))) ∙ free)))
        (λ two. lawful.known c (sym (ap (λ b. is_some (cond b chunk (p (chunk_key c)))) two) ∙ there) free);
  }

  same_by : (k row : Bytes) (h : Option (Bytes × ℕ)) → head_at p k ≡ h → value_by new row h ≡ value_by p row h
  same_by k row None e = refl
  same_by k row (Some h) e = ap (λ (f : ℕ → Option Bytes). joined f (chunks_in h.1)) (λ x j. untouched k h.0 h.1 j e x)

  same_at : (k : Bytes) (row : Option Bytes) → p (row_key k) ≡ row → option_map (value_of new) row ≡ option_map (value_of p) row
  same_at k None e = refl
  same_at k (Some row) e = ap (λ (v : Bytes). Some v) (same_by k row (head_of row) (ap (option_and_then head_of) e))

  pub chunk_is_found : (k : Bytes) → option_map (value_of new) (p (row_key k)) ≡ option_map (value_of p) (p (row_key k))
  chunk_is_found k = same_at k (p (row_key k)) refl

-- ---- dooms

pub doom_is_lawful : (p : Plain) (n : Bytes) → HasValues p → IsUnnamed p n → HasValues (with p (doomed_key n) (Some []))
doom_is_lawful p n lawful unnamed = record {
  long = lawful.long;
  full = lawful.full;
  once = lawful.once;
  kept = λ k m c h. split m n
      (λ one. absurd (unnamed k c (h ∙ ap (λ (x : Bytes). Some (x, c)) (same_true m n one))))
      (λ two. ap (λ b. is_some (cond b (Some []) (p (doomed_key m)))) two ∙ lawful.kept k m c h);
  known = λ c chunk free. split (take 8 c) n
      (λ one. absurd (true≢false (sym (ap (λ b. is_some (cond b (Some []) (p (doomed_key (take 8 c))))) one) ∙ free)))
      (λ two. lawful.known c chunk (sym (ap (λ b. is_some (cond b (Some []) (p (doomed_key (take 8 c))))) two) ∙ free));
}

pub end_is_lawful : (p : Plain) (n : Bytes) → HasValues p → HasNoChunk p n → HasValues (with p (doomed_key n) None)
end_is_lawful p n lawful none = record {
  long = lawful.long;
  full = lawful.full;
  once = lawful.once;
  kept = λ k m c h. split m n
      (λ one. ap (λ b. is_some (cond b None (p (doomed_key m)))) one)
      (λ two. ap (λ b. is_some (cond b None (p (doomed_key m)))) two ∙ lawful.kept k m c h);
  known = λ c chunk free. split (take 8 c) n
      (λ one. absurd (true≢false (sym chunk ∙ none c (same_true (take 8 c) n one))))
      (λ two. lawful.known c chunk (sym (ap (λ b. is_some (cond b None (p (doomed_key (take 8 c))))) two) ∙ free));
}
