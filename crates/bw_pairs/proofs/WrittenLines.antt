-- A line that was written is read.

use Rattle.std.proofs.Common.{◌≡◌, ◌≢◌, ℕ, ◌-◌, ◌≤◌, Bool, true, false, ◌&&◌, ◌||◌, eqb, List, [], ◌∷◌, ◌++◌, All, length, get_or, refl, sym, ap, ap₂, subst, ◌∙◌, arith, eq-eqb, ne_eqb, true≢false}
use Rattle.std.proofs.lemmas.List.Elements.{All-nil, All-cons}
use Rattle.std.proofs.lemmas.Bool.{cond-true, cond-false, lt-ltb, le-leb}
use Rattle.std.specs.List.{list_any}
use Rattle.std.specs.Io.BufRead.{take_through, ends_with_byte, strip_last}
use Rattle.std.proofs.BufReadLemmas.{take_through-append, drop_through-append}
use Rattle.bw_pairs.specs.declared.input.TheConstants.{LONGEST}
use Rattle.bw_pairs.specs.Inputs.{without_end, whole_line}
use Rattle.bw_pairs.specs.Laws.{is_end, WrittenLinesAreRead}
use Rattle.bw_pairs.proofs.Kept.{ends_at, strip_at}

-- no byte is this end of a line
free : (byte : ℕ) (line : List ℕ) → is_end byte ≡ true → list_any is_end line ≡ false → All (λ x. x ≢ byte) line
free byte [] ends h = All-nil (λ x. x ≢ byte)
free byte (x ∷ xs) ends h = at (is_end x) (list_any is_end xs) refl (λ f. free byte xs ends f) h
  where
    at : (a b : Bool) → is_end x ≡ a → (b ≡ false → All (λ y. y ≢ byte) xs) → (a || b) ≡ false → All (λ y. y ≢ byte) (x ∷ xs)
    at true b e f h = absurd (true≢false h)
    at false true e f h = absurd (true≢false h)
    at false false e f h = All-cons (λ y. y ≢ byte) x xs (λ same. true≢false (sym ends ∙ ap is_end (sym same) ∙ e)) (f refl)

no_cr : (line : List ℕ) → All (λ x. x ≢ 13) line → ends_with_byte 13 line ≡ false
no_cr [] h = refl
no_cr (x ∷ xs) h =
    let all = x ∷ xs in
    ap₂ (λ a c. a && c) (lt-ltb 0 (length all) (omega arith)) (ne_eqb (get_or all (length all - 1) 0) 13 (h (length all - 1) 0 (omega arith)))

pub written : WrittenLinesAreRead
written line rest h =
    let none = free 10 line refl h.0 in
    let all = line ++ 10 ∷ rest in
    let through : take_through 10 all ≡ line ++ 10 ∷ [] = take_through-append 10 line (10 ∷ rest) none in
    let whole : whole_line all ≡ line =
    ap without_end through ∙ cond-true _ _ _ (ends_at 10 line 10) ∙ ap (strip_last 13) (strip_at 10 line) ∙ cond-false _ _ _ (no_cr line (free 13 line refl h.0)) in
    let short : length (whole_line all) ≤ LONGEST = subst (λ n. n ≤ LONGEST) (sym (ap length whole)) h.1 in
    (cond-true _ _ _ (le-leb (length (whole_line all)) LONGEST short) ∙ whole, drop_through-append 10 line (10 ∷ rest) none)
