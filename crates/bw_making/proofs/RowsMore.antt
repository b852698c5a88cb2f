-- Row after row of a group is noted.

use Rattle.std.proofs.Common.{◌≡◌, ℕ, zero, suc, ◌+◌, ◌<◌, ◌≤◌, List, [], ◌∷◌}
use Rattle.std.proofs.Common.{length, drop, get_or, refl, sym, ap, ◌∙◌, subst, arith}
use Rattle.std.specs.List.{fold}
use Rattle.std.proofs.lemmas.List.{drop_more}
use Rattle.bw_record.specs.declared.block.Place.{Place}
use Rattle.bw_making.specs.declared.draft.Row.{Row}
use Rattle.bw_making.specs.Drafting.{AreIn, count_by, set_row}

pub drop_at : {X : Type 0} (xs : List X) (i : ℕ) (x : X) → i < length xs → x ≡ get_or xs i x → drop i xs ≡ x ∷ drop (i + 1) xs
drop_at {X} xs i x lt is = drop_more xs i x lt ∙ ap (λ (z : X). z ∷ drop (i + 1) xs) (sym is)

pub drop_all : {X : Type 0} (xs : List X) (n : ℕ) → length xs ≤ n → drop n xs ≡ []
drop_all [] zero end = refl
drop_all [] (suc n) end = refl
drop_all (x ∷ xs) zero end = absurd (omega arith)
drop_all (x ∷ xs) (suc n) end = drop_all xs n (omega arith)

-- an element is what it is read as, whatever is read beyond the end
pub got : {X : Type 0} (xs : List X) (i : ℕ) (d : X) → i < length xs → get_or xs i d ≡ get_or xs i (get_or xs i d)
got [] i d lt = absurd (omega arith)
got (x ∷ xs) zero d lt = refl
got (x ∷ xs) (suc i) d lt = got xs i d (omega arith)

-- what is left of the rows

pub in_here : (n : ℕ) (rows : List Row) (i : ℕ) (row : Row) → i < length rows → row ≡ get_or rows i row → AreIn n (drop i rows)
    → (1 ≤ row.page) × (row.page ≤ n)
in_here n rows i row lt is h = (subst (AreIn n) (drop_at rows i row lt is) h).0

pub in_rest : (n : ℕ) (rows : List Row) (i : ℕ) (row : Row) → i < length rows → row ≡ get_or rows i row → AreIn n (drop i rows)
    → AreIn (count_by row.made n) (drop (i + 1) rows)
in_rest n rows i row lt is h = (subst (AreIn n) (drop_at rows i row lt is) h).1

pub set_rest : (rows : List Row) (i : ℕ) (row : Row) (was now : List Place) → i < length rows → row ≡ get_or rows i row → now ≡ set_row was row
    → fold set_row now (drop (i + 1) rows) ≡ fold set_row was (drop i rows)
set_rest rows i row was now lt is e =
    ap (λ (ps : List Place). fold set_row ps (drop (i + 1) rows)) e ∙ ap (fold set_row was) (sym (drop_at rows i row lt is))

pub set_end : (rows : List Row) (n : ℕ) (now : List Place) → length rows ≤ n → now ≡ fold set_row now (drop n rows)
set_end rows n now end = ap (fold set_row now) (sym (drop_all rows n end))
