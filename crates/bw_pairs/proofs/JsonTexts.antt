-- A text between quotes is read as the bytes of which it was made.

use Rattle.std.proofs.Common.{◌≡◌, ℕ, zero, suc, ◌+◌, ◌*◌, ◌/◌, ◌%◌, ◌<◌, Bool, true, false, not, cond, ◌&&◌, ◌==◌, nat_lt, List, [], ◌∷◌, ◌++◌, length, replicate, codes, slice_index, Option, Some, refl, ap, ◌∙◌, append_assoc, arith}
use Rattle.std.specs.Option.{option_and_then}
use Rattle.std.specs.List.{flat_map, list_all}
use Rattle.std.proofs.lemmas.List.Folds.{list_all_at, list_all-append}
use Rattle.std.proofs.lemmas.Bool.{eqb-true}
use Rattle.std.proofs.lemmas.Bool.Decides.{nat_tests}
use Rattle.std.proofs.lemmas.Str.{encode_ascii}
use lib.Utf8.{low_scalar}
use Rattle.hex.specs.Hex.{encode_with, encode_lower, lower_digits}
use Rattle.hex.proofs.HexLemmas.{IsDigits-lower_digits}
use Rattle.base64.specs.Rfc4648.{encode_symbols, padding_len}
use Rattle.base64.specs.GeneralPurpose.{encode_of}
use Rattle.base64.specs.Engines.{standard}
use Rattle.bw_record.specs.Keys.{IsBytes}
use Rattle.bw_pairs.specs.Json.{letter, Found, onto, unit_of, is_first_half, lettered, lettered_onto, text_from}
use Rattle.bw_pairs.specs.Json.Within.{Letters, Half}

abbrev found : List ℕ → List ℕ → Option Found
found bytes rest = Some (record { bytes = bytes; rest = rest })

abbrev numbered : ℕ → List ℕ → Option Found
numbered unit rest = cond (is_first_half unit) (text_from (Half unit) rest) (lettered_onto unit (text_from Letters rest))

-- ---- control characters

number : (byte : ℕ) → byte < 32
    → unit_of 48 48 (slice_index lower_digits (byte / 16)) (slice_index lower_digits (byte % 16)) ≡ Some byte
number byte small =
    let high = IsDigits-lower_digits (byte / 16) (omega arith) in
    let low = IsDigits-lower_digits (byte % 16) (omega arith) in
    let value : (0 * 16 + byte / 16) * 16 + byte % 16 ≡ byte = omega arith in
    rw (high, low) (ap Some value)

spelled : (byte : ℕ) → byte < 32 → lettered byte ≡ Some (byte ∷ [])
spelled byte small = rw (low_scalar byte (omega arith)) (ap Some (encode_ascii byte (omega arith)))

no_half : (byte : ℕ) → byte < 32 → is_first_half byte ≡ false
no_half byte small = grind (arith, nat_tests)

control : (byte : ℕ) (rest : List ℕ) → byte < 32
    → text_from Letters (92 ∷ 117 ∷ 48 ∷ 48 ∷ slice_index lower_digits (byte / 16) ∷ slice_index lower_digits (byte % 16) ∷ rest)
    ≡ onto (byte ∷ []) (text_from Letters rest)
control byte rest small =
    ap (option_and_then (λ unit. numbered unit rest)) (number byte small)
    ∙ rw (no_half byte small, spelled byte small) refl

-- ---- letters

below : (byte : ℕ) → nat_lt byte 32 ≡ true → byte < 32
below byte h = grind (arith, nat_tests)

letter_of : (byte : ℕ) (rest : List ℕ) (a b c d e f : Bool) → byte == 34 ≡ a → byte == 92 ≡ b → byte == 10 ≡ c → byte == 13 ≡ d
    → byte == 9 ≡ e → nat_lt byte 32 ≡ f
    → text_from Letters (cond a (codes "\\\"") (cond b (codes "\\\\") (cond c (codes "\\n") (cond d (codes "\\r") (cond e (codes "\\t")
    (cond f (codes "\\u00" ++ encode_lower (byte ∷ [])) (byte ∷ [])))))) ++ rest)
    ≡ onto (byte ∷ []) (text_from Letters rest)
unfolding encode_with
letter_of byte rest true b c d e f p q r s t u = rw (eqb-true byte 34 p) refl
letter_of byte rest false true c d e f p q r s t u = rw (eqb-true byte 92 q) refl
letter_of byte rest false false true d e f p q r s t u = rw (eqb-true byte 10 r) refl
letter_of byte rest false false false true e f p q r s t u = rw (eqb-true byte 13 s) refl
letter_of byte rest false false false false true f p q r s t u = rw (eqb-true byte 9 t) refl
letter_of byte rest false false false false false true p q r s t u = control byte rest (below byte u)
letter_of byte rest false false false false false false p q r s t u = rw (p, q, u) refl

letter_back : (byte : ℕ) (rest : List ℕ) → text_from Letters (letter byte ++ rest) ≡ onto (byte ∷ []) (text_from Letters rest)
letter_back byte rest =
    letter_of byte rest (byte == 34) (byte == 92) (byte == 10) (byte == 13) (byte == 9) (nat_lt byte 32) refl refl refl refl refl refl

pub text_back : (bytes rest : List ℕ) → text_from Letters (flat_map letter bytes ++ 34 ∷ rest) ≡ found bytes rest
text_back [] rest = refl
text_back (byte ∷ bytes) rest =
    ap (text_from Letters) (append_assoc (letter byte) (flat_map letter bytes) (34 ∷ rest))
    ∙ letter_back byte (flat_map letter bytes ++ 34 ∷ rest)
    ∙ ap (onto (byte ∷ [])) (text_back bytes rest)

-- ---- base64

-- a letter that stands for itself
abbrev pub is_itself : ℕ → Bool
is_itself byte = not (byte == 34) && (not (byte == 92) && not (nat_lt byte 32))

both : (a b : Bool) → a && b ≡ true → (a ≡ true) × (b ≡ true)
both true b h = (refl, h)
both false b h = cc h

not_true : (a : Bool) → not a ≡ true → a ≡ false
not_true true h = cc h
not_true false h = refl

plain_back : (letters rest : List ℕ) → list_all is_itself letters ≡ true → text_from Letters (letters ++ 34 ∷ rest) ≡ found letters rest
plain_back [] rest h = refl
plain_back (byte ∷ letters) rest h =
    let parts = both (is_itself byte) (list_all is_itself letters) h in
    let one = both (not (byte == 34)) (not (byte == 92) && not (nat_lt byte 32)) parts.0 in
    let two = both (not (byte == 92)) (not (nat_lt byte 32)) one.1 in
    rw (not_true (byte == 34) one.0, not_true (byte == 92) two.0, not_true (nat_lt byte 32) two.1)
    (ap (onto (byte ∷ [])) (plain_back letters rest parts.1))

is_true : (b : Bool) → (b ≡ false → ⊥) → b ≡ true
is_true true h = refl
is_true false h = absurd (h refl)

sign : (k : ℕ) → k < 64 → is_itself (slice_index standard.encode_table k) ≡ true
sign k h = is_true _ (λ low. cc (list_all_at is_itself standard.encode_table k 0 h low))

signs : (bytes : List ℕ) → IsBytes bytes → list_all is_itself (encode_symbols standard.encode_table bytes) ≡ true
unfolding encode_symbols
signs [] h = refl
signs (a ∷ []) h =
    let x : a < 256 = h 0 in
    rw (sign (a / 4) (omega arith), sign (a % 4 * 16) (omega arith)) refl
signs (a ∷ b ∷ []) h =
    let x : a < 256 = h 0 in
    let y : b < 256 = h 1 in
    rw (sign (a / 4) (omega arith), sign (a % 4 * 16 + b / 16) (omega arith), sign (b % 16 * 4) (omega arith)) refl
signs (a ∷ b ∷ c ∷ rest) h =
    let x : a < 256 = h 0 in
    let y : b < 256 = h 1 in
    let z : c < 256 = h 2 in
    rw (sign (a / 4) (omega arith), sign (a % 4 * 16 + b / 16) (omega arith), sign (b % 16 * 4 + c / 64) (omega arith), sign (c % 64) (omega arith))
    (signs rest (λ i. h (suc (suc (suc i)))))

fill : (n : ℕ) → list_all is_itself (replicate n 61) ≡ true
fill zero = refl
fill (suc n) = fill n

pub encoded : (bytes : List ℕ) → IsBytes bytes → list_all is_itself (encode_of standard bytes) ≡ true
encoded bytes h =
    list_all-append is_itself (encode_symbols standard.encode_table bytes) (replicate (padding_len (length bytes)) 61)
    ∙ rw (signs bytes h, fill (padding_len (length bytes))) refl

pub based_back : (bytes rest : List ℕ) → IsBytes bytes
    → text_from Letters (encode_of standard bytes ++ 34 ∷ rest) ≡ found (encode_of standard bytes) rest
based_back bytes rest h = plain_back (encode_of standard bytes) rest (encoded bytes h)
