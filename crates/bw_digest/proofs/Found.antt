-- Bytes that fit the sums of pieces are these pieces, or two runs of bytes have one digest.
use Rattle.std.proofs.Common.{◌≡◌, ℕ, ◌+◌, ◌-◌, ◌⊎◌, inl, inr, Bool, true, false, List, [], ◌∷◌, ◌++◌, length, drop, take, refl, sym, ap, ◌∙◌, arith, length-append}
use Rattle.std.proofs.Math.Seq.{take-add}
use Rattle.std.proofs.lemmas.List.{drop-drop}
use Rattle.std.proofs.lemmas.Slice.Eq.{bytes_eq-Decides}
use Rattle.std.specs.Bool.{Decides}
use Rattle.std.specs.Str.{bytes_eq}
use Rattle.bw_digest.specs.Digest.{digest}
use Rattle.bw_digest.specs.Sums.{Reach, no_sums, after, sum_of, Fits}
use Rattle.bw_digest.specs.Laws.{bytes_of, sums_of, CollidesAt, WhatFitsWasWritten}

by_test : (b : Bool) (P : Type 0) → Decides b P → P ⊎ (P → ⊥)
by_test true P tells = inl (tells.0 refl)
by_test false P tells = inr (λ p. (let e = tells.1 p in grind (arith, e)))

alike : (a b : List ℕ) → (a ≡ b) ⊎ (a ≡ b → ⊥)
alike a b = by_test (bytes_eq a b) (a ≡ b) (bytes_eq-Decides a b)

-- the first piece and those after it
joined : (bytes p more : List ℕ) (from : ℕ) → take (length p) (drop from bytes) ≡ p → take (length more) (drop (from + length p) bytes) ≡ more →
    take (length (p ++ more)) (drop from bytes) ≡ p ++ more
joined bytes p more from first later =
    ap (λ n. take n (drop from bytes)) (length-append p more)
    ∙ take-add (length p) (length more) (drop from bytes)
    ∙ ap (λ l. l ++ take (length more) (drop (length p) (drop from bytes))) first
    ∙ ap (λ l. p ++ take (length more) l) (drop-drop (length p) from bytes)
    ∙ ap (λ l. p ++ l) later

found : (ps : List (List ℕ)) (row : Reach) (bytes : List ℕ) → Fits bytes row (sums_of row ps) →
    (take (length (bytes_of ps)) (drop row.end bytes) ≡ bytes_of ps) ⊎ CollidesAt bytes row.end ps
found [] row bytes fits = inl refl
found (p ∷ ps) row bytes fits =
    let count : row.end + length p - row.end ≡ length p = omega arith in
    let piece = take (length p) (drop row.end bytes) in
    let digests : digest piece ≡ digest p = ap (λ n. digest (take n (drop row.end bytes))) (sym count) ∙ fits.0 in
    elim (alike piece p) [
      | inl same ↦
          elim (found ps (after row (sum_of row p)) bytes fits.1) [
            | inl later ↦ inl (joined bytes p (bytes_of ps) row.end same later)
            | inr collision ↦ inr (inr collision)
          ]
      | inr other ↦ inr (inl (other, digests))
    ]

pub what_fits : WhatFitsWasWritten
what_fits ps bytes fits = found ps no_sums bytes fits
