-- Two folders with the same files.

use Rattle.std.proofs.Common.{◌≡◌, ◌↔◌, ℕ, ◌+◌, ◌<◌, length, Bool, true, false, not, nat_eq, Option, Some, None, List, [], ◌∷◌, get_or, drop, ◌⊎◌, inl, inr, if◌then◌else◌, eqb-true, refl, sym, ap, subst, ◌∙◌}
use Rattle.std.proofs.lemmas.List.{drop_more}
use Rattle.std.specs.Option.{option_eq}
use lib.Pointwise.{pointwise, bytes_decides}
use Rattle.bw_look.specs.declared.image.Image.{Image}
use Rattle.bw_rescue.specs.Alike.{bytes_at, AreHeld, AreAlike}

-- ---- file by file

yes : (t : Bool) → not t ≡ false → t ≡ true
yes true h = refl
yes false h = cc

apart : (t : Bool) → not t ≡ true → t ≡ true → ⊥
apart true differ is = cc
apart false differ is = cc

same_bytes : (a b : List ℕ) → not (pointwise nat_eq a b) ≡ false → a ≡ b
same_bytes a b differ = (bytes_decides a b).0 (yes (pointwise nat_eq a b) differ)

other_bytes : (a b : List ℕ) → not (pointwise nat_eq a b) ≡ true → a ≡ b → ⊥
other_bytes a b differ e = apart (pointwise nat_eq a b) differ ((bytes_decides a b).1 e)

pub goes_on : (others images : List Image) (i : ℕ) (image : Image) → i < length images → image ≡ get_or images i image
    → AreHeld others images ↔ AreHeld others (drop i images) → not (pointwise nat_eq (bytes_at image.lease others) image.bytes.items) ≡ false
    → AreHeld others images ↔ AreHeld others (drop (i + 1) images)
goes_on others images i image within at before differ =
    let here : drop i images ≡ image ∷ drop (i + 1) images = drop_more images i image within ∙ ap (λ (x : Image). x ∷ drop (i + 1) images) (sym at) in
    let both : AreHeld others images ↔ AreHeld others (image ∷ drop (i + 1) images) = subst (λ (l : List Image). AreHeld others images ↔ AreHeld others l) here before in
    (λ h. (both.0 h).1, λ h. both.1 (same_bytes _ _ differ, h))

pub ends_here : (others images : List Image) (i : ℕ) (image : Image) → i < length images → image ≡ get_or images i image
    → AreHeld others images ↔ AreHeld others (drop i images) → not (pointwise nat_eq (bytes_at image.lease others) image.bytes.items) ≡ true
    → AreHeld others images → ⊥
ends_here others images i image within at before differ held =
    let here : drop i images ≡ image ∷ drop (i + 1) images = drop_more images i image within ∙ ap (λ (x : Image). x ∷ drop (i + 1) images) (sym at) in
    let its : AreHeld others (image ∷ drop (i + 1) images) = subst (λ (l : List Image). AreHeld others l) here (before.0 held) in
    other_bytes _ _ differ its.0

-- ---- lease by lease

same_lease : (a b : Option ℕ) → option_eq nat_eq a b ≡ true → a ≡ b
same_lease None None h = refl
same_lease None (Some y) h = cc
same_lease (Some x) None h = cc
same_lease (Some x) (Some y) h = ap Some (eqb-true x y h)

known_by : (lease : Option ℕ) (others images : List Image) (image : Image) (b : Bool) → option_eq nat_eq image.lease lease ≡ b
    → bytes_at image.lease others ≡ image.bytes.items
    → (bytes_at lease images ≡ []) ⊎ (bytes_at lease others ≡ bytes_at lease images)
    → ((if b then image.bytes.items else bytes_at lease images) ≡ []) ⊎ (bytes_at lease others ≡ (if b then image.bytes.items else bytes_at lease images))
known_by lease others images image true e its rest = inr (ap (λ (l : Option ℕ). bytes_at l others) (sym (same_lease image.lease lease e)) ∙ its)
known_by lease others images image false e its rest = rest

-- a lease without bytes, or one of which the others have the bytes
known : (lease : Option ℕ) (others images : List Image) → AreHeld others images → (bytes_at lease images ≡ []) ⊎ (bytes_at lease others ≡ bytes_at lease images)
known lease others [] held = inl refl
known lease others (i ∷ images) held = known_by lease others images i (option_eq nat_eq i.lease lease) refl held.0 (known lease others images held.1)

alike_by : (a b : List ℕ) → (a ≡ []) ⊎ (b ≡ a) → (b ≡ []) ⊎ (a ≡ b) → a ≡ b
alike_by a b (inl none) (inl differ) = none ∙ sym differ
alike_by a b (inl none) (inr same) = same
alike_by a b (inr same) others = sym same

pub alike : (images read : List Image) → AreHeld images read → AreHeld read images → AreAlike images read
alike images read held holds lease = alike_by (bytes_at lease images) (bytes_at lease read) (known lease read images holds) (known lease images read held)
