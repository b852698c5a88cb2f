-- What a loop over bytes has written so far.

use Rattle.std.proofs.Common.{append-nil, ◌≡◌, ℕ, ◌+◌, ◌<◌, List, [], ◌∷◌, ◌++◌, length, take, get_or, refl, ap, ◌∙◌}
use Rattle.std.proofs.lemmas.List.{take_more}
use Rattle.std.specs.List.{flat_map}
use Rattle.std.proofs.lemmas.List.Concat.{flat_map-append}
use Rattle.hex.specs.Hex.{encode_with, encode_lower, lower_digits}

pub encode_with-append : (t xs ys : List ℕ) → encode_with t (xs ++ ys) ≡ encode_with t xs ++ encode_with t ys
unfolding encode_with
encode_with-append t [] ys = refl
encode_with-append t (x ∷ xs) ys = rw (encode_with-append t xs ys) refl

-- one byte more in hex
pub hex_more : (xs : List ℕ) (i : ℕ) → i < length xs
    → encode_lower (take (i + 1) xs) ≡ encode_lower (take i xs) ++ encode_lower (get_or xs i 0 ∷ [])
hex_more xs i h = ap encode_lower (take_more xs i 0 h) ∙ encode_with-append lower_digits (take i xs) (get_or xs i 0 ∷ [])

-- one element more, of which each is written as f says
pub flat_more : (f : ℕ → List ℕ) (xs : List ℕ) (i : ℕ) → i < length xs
    → flat_map f (take (i + 1) xs) ≡ flat_map f (take i xs) ++ f (get_or xs i 0)
flat_more f xs i h =
    ap (flat_map f) (take_more xs i 0 h) ∙ flat_map-append f (take i xs) (get_or xs i 0 ∷ [])
    ∙ ap (λ l. flat_map f (take i xs) ++ l) (append-nil (f (get_or xs i 0)))
