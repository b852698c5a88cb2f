-- One file more is cut.

use Rattle.std.proofs.Common.{◌≡◌, ℕ, List, [], ◌∷◌, ◌++◌, ◌+◌, length, refl, ap, sym, subst, ◌∙◌, add-one}
use Rattle.std.proofs.lemmas.List.{append-nil}
use Rattle.bw_look.specs.declared.image.Image.{Image}
use Rattle.bw_rescue.specs.Cut.{IsCut, AreCut}

pub one_cut : (last : ℕ) (old new : List Image) (o n : Image) → AreCut last old new → IsCut last o n → AreCut last (old ++ o ∷ []) (new ++ n ∷ [])
one_cut last [] [] o n cut this = (this, tt)
one_cut last [] (y ∷ new) o n cut this = absurd cut
one_cut last (x ∷ old) [] o n cut this = absurd cut
one_cut last (x ∷ old) (y ∷ new) o n cut this = (cut.0, one_cut last old new o n cut.1 this)

pub all_cut : (last : ℕ) (all done rest new : List Image) → AreCut last done new → done ++ rest ≡ all → rest ≡ [] → AreCut last all new
all_cut last all done rest new cut is none =
    let same : done ≡ all = sym (append-nil done) ∙ (subst (λ (l : List Image). done ++ l ≡ all) none is) in
    subst (λ (l : List Image). AreCut last l new) same cut

pub length_none : (xs : List Image) → length xs ≡ 0 → xs ≡ []
length_none [] none = refl
length_none (x ∷ xs) none = cc

pub one_less : (x : Image) (xs ys : List Image) → ys ≡ x ∷ xs → length ys ≡ length xs + 1
one_less x xs ys is = ap length is ∙ sym (add-one (length xs))
