-- A step that enters a batch keeps the rule of the book.

use Rattle.std.proofs.Common.{◌≡◌, ℕ, ◌+◌, ◌<◌, ◌==◌, Bool, true, false, List, [], ◌∷◌, ◌++◌, length, None}
use Rattle.std.proofs.Common.{refl, ap, sym, subst, arith, inl, length-append}
use Rattle.std.proofs.lemmas.List.{append-nil}
use Rattle.std.proofs.lemmas.Bool.Decides.{nat_tests}
use mathlib.Core.List.{IsPrefix}
use prog.Atomic.{either}
use Rattle.logbook.specs.Pages.{Cell, cell, keeps, no_nib, step, Moves, Goes}
use Rattle.bw_versions.specs.Batches.{BatchData}
use Rattle.bw_versions.specs.BookRule.{IsKept, Adds}
use Rattle.bw_versions.proofs.Fronts.{prefix_whole}

-- what clients see of the book: nothing
abbrev pub shown : List BatchData → List BatchData
shown log = []

abbrev pub moved : List BatchData → List BatchData → ℕ → Type 0
moved xs ys n = Unit {0}

-- what the step does to cells that stand for a log
abbrev pub AddGoes : List BatchData → BatchData → ℕ → List Cell → List BatchData → Type 0
AddGoes v e old cells log =
    Goes IsKept shown moved 0 (v, (no_nib, None)) (λ n. either (n == old) (old + 1) n)
    (Adds (step 0 old (old + 1) e) (v, (no_nib, None))) cells log

pub adds_goes : (log v : List BatchData) (e : BatchData) (old : ℕ) → length v ≡ old → IsPrefix v log
    → (b : Bool) → (length log == old) ≡ b → AddGoes v e old ((length log, true) ∷ (0, true) ∷ []) log
adds_goes log v e old len pre true is =
    let here : length log ≡ old = grind (arith, nat_tests) in
    let same : v ≡ log = prefix_whole v log pre (omega arith) in
    let n : either (length log == old) (old + 1) (length log) ≡ length (log ++ e ∷ []) =
    rw is (omega (arith, length-append log (e ∷ []))) in (
      keeps,
      e ∷ [],
      None,
      tt,
      record { words = ap (λ (k : ℕ). (k, true) ∷ (0, true) ∷ []) n },
      inl (refl, refl),
      rw is (ap (λ w. w ++ e ∷ []) (sym same)),
    )
adds_goes log v e old len pre false is =
    let all : log ++ [] ≡ log = append-nil log in
    let n : either (length log == old) (old + 1) (length log) ≡ length (log ++ []) = rw is (ap length (sym all)) in (
      keeps,
      [],
      None,
      tt,
      record { words = ap (λ (k : ℕ). (k, true) ∷ (0, true) ∷ []) n },
      inl (refl, refl),
      rw is (ap length all),
    )

-- the step is one that the rule allows, whatever stands in the book
pub adds_moves : (v : List BatchData) (e : BatchData) (old : ℕ) → length v ≡ old
    → Moves IsKept shown moved 0 (v, (no_nib, None)) (λ n. either (n == old) (old + 1) n)
    (Adds (step 0 old (old + 1) e) (v, (no_nib, None)))
adds_moves v e old len cs log kept pre evicted =
    let P : List Cell → Type 0 = λ c. (0 < length c) × ((cell c 0).1 ≡ true) × AddGoes v e old c log in
    subst P (sym kept.words) (omega arith, refl, adds_goes log v e old len pre (length log == old) refl)
