-- Where pairs begin: what one more note adds.
use Rattle.std.proofs.Common.{◌≡◌, ℕ, suc, ◌+◌, ◌-◌, ◌<◌, List, [], ◌∷◌, ◌++◌, length, take, slice_set, sym, ap, subst, ◌∙◌, append_assoc, arith}
use Rattle.std.proofs.lemmas.List.{take_more_set, length-set}
use Rattle.bw_leaf.specs.Changed.{Bytes}
use Rattle.bw_reading.specs.Images.{starts_from, end_at}

-- the first of the places that are left
first_of : (image : Bytes) (n i at : ℕ) → i < n → starts_from image (n - i) at ≡ at ∷ starts_from image (n - (i + 1)) (end_at image at)
first_of image n i at below =
    let less : n - i ≡ suc (n - (i + 1)) = omega arith in
    ap (λ k. starts_from image k at) less

-- what is noted and what is left, after one more
noted_more : (image : Bytes) (starts : List ℕ) (i at : ℕ) → i < length starts
    → starts_from image (length starts) 0 ≡ take i starts ++ starts_from image (length starts - i) at
    → starts_from image (length starts) 0 ≡ take (i + 1) (slice_set starts i at) ++ starts_from image (length starts - (i + 1)) (end_at image at)
noted_more image starts i at below noted =
    let rest = starts_from image (length starts - (i + 1)) (end_at image at) in
    noted ∙ ap (λ (ks : List ℕ). take i starts ++ ks) (first_of image (length starts) i at below) ∙ sym (append_assoc (take i starts) (at ∷ []) rest)
    ∙ ap (λ (ks : List ℕ). ks ++ rest) (sym (take_more_set starts i at below))

-- the same of the list with the note
pub noted_there : (image : Bytes) (starts : List ℕ) (i at end : ℕ) → i < length starts → end ≡ end_at image at
    → starts_from image (length starts) 0 ≡ take i starts ++ starts_from image (length starts - i) at
    → starts_from image (length (slice_set starts i at)) 0
    ≡ take (i + 1) (slice_set starts i at) ++ starts_from image (length (slice_set starts i at) - (i + 1)) end
noted_there image starts i at end below is noted =
    subst (λ n. starts_from image n 0 ≡ take (i + 1) (slice_set starts i at) ++ starts_from image (n - (i + 1)) end) (sym (length-set starts i at))
    (subst (λ e. starts_from image (length starts) 0 ≡ take (i + 1) (slice_set starts i at) ++ starts_from image (length starts - (i + 1)) e) (sym is)
    (noted_more image starts i at below noted))
