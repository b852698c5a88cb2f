-- One segment more is copied.

use Rattle.std.proofs.Common.{◌≡◌, ℕ, zero, suc, ◌+◌, Option, Some, None, List, [], ◌∷◌, ◌++◌, map, take, refl, sym, ap, ◌∙◌, subst, arith}
use Rattle.std.specs.Prelude.{IfSome, IsSome, MatchOption}
use Rattle.std.specs.List.{slice_get}
use Rattle.bw_device.specs.Holding.{Holding}
use Rattle.bw_look.specs.declared.image.Image.{Image}
use Rattle.bw_rescue.specs.Images.{Copied, copied, copy_of}

copied_more : (images : List Image) (image : Image) → map copied (images ++ image ∷ []) ≡ map copied images ++ copied image ∷ []
copied_more [] image = refl
copied_more (x ∷ xs) image = ap (λ (cs : List Copied). copied x ∷ cs) (copied_more xs image)

taken_more : (hs : List Holding) (i : ℕ) (h : Holding) → slice_get hs i ≡ Some h → map copy_of (take (suc i) hs) ≡ map copy_of (take i hs) ++ copy_of h ∷ []
taken_more [] i h at = absurd cc
taken_more (x ∷ xs) zero h at = (let same : x ≡ h = cc in ap (λ (y : Holding). copy_of y ∷ []) same)
taken_more (x ∷ xs) (suc i) h at = ap (λ (cs : List Copied). copy_of x ∷ cs) (taken_more xs i h at)

-- the images of the first segments, and that of the next one
found_more : (hs : List Holding) (images : List Image) (i : ℕ) (o : Option Image) (image : Image) (at : Option Holding) → slice_get hs i ≡ at → o ≡ Some image
    → MatchOption at (o ≡ None) (λ h. IsSome o × IfSome o (λ x. copied x ≡ copy_of h)) → map copied images ≡ map copy_of (take i hs)
    → map copied (images ++ image ∷ []) ≡ map copy_of (take (i + 1) hs)
found_more hs images i o image None at is none before = absurd cc
found_more hs images i o image (Some h) at is some before =
    let same : copied image ≡ copy_of h = subst (λ (p : Option Image). IfSome p (λ x. copied x ≡ copy_of h)) is some.1 in
    let next : suc i ≡ i + 1 = omega arith in
    copied_more images image
    ∙ ap (λ (cs : List Copied). cs ++ copied image ∷ []) before
    ∙ ap (λ (c : Copied). map copy_of (take i hs) ++ c ∷ []) same
    ∙ sym (taken_more hs i h at)
    ∙ ap (λ (n : ℕ). map copy_of (take n hs)) next

pub one_more : (hs : List Holding) (images : List Image) (i : ℕ) (o : Option Image) (image : Image) → o ≡ Some image
    → MatchOption (slice_get hs i) (o ≡ None) (λ h. IsSome o × IfSome o (λ x. copied x ≡ copy_of h)) → map copied images ≡ map copy_of (take i hs)
    → map copied (images ++ image ∷ []) ≡ map copy_of (take (i + 1) hs)
one_more hs images i o image is found before = found_more hs images i o image (slice_get hs i) refl is found before
