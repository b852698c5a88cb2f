-- What is written of a pair in JSON is a whole line.

use Rattle.std.proofs.Common.{◌≡◌, ℕ, zero, suc, ◌+◌, ◌*◌, ◌<◌, ◌≤◌, Bool, true, false, not, cond, ◌&&◌, ◌==◌, nat_le, nat_lt, List, [], ◌∷◌, ◌++◌, length, codes, replicate, refl, ◌∙◌, length-append, arith}
use Rattle.std.specs.List.{flat_map, list_all}
use Rattle.std.specs.Str.{is_utf8}
use Rattle.std.proofs.lemmas.List.Folds.{list_all-append}
use Rattle.std.proofs.lemmas.List.{length-replicate}
use Rattle.std.proofs.lemmas.Bool.Decides.{nat_tests}
use Rattle.hex.specs.Hex.{encode_lower, lower_digits}
use Rattle.hex.proofs.HexLemmas.{length-encode_with}
use Rattle.base64.specs.Rfc4648.{encode_symbols, padding_len}
use Rattle.base64.specs.GeneralPurpose.{encode_of}
use Rattle.base64.specs.Engines.{standard}
use Rattle.base64.proofs.RoundTrip.{length-encode_symbols}
use Rattle.bw_record.specs.Keys.{IsBytes}
use Rattle.bw_pairs.specs.Json.{letter, text, based, name_of, member}
use Rattle.bw_pairs.specs.Laws.{IsLine, JsonLinesAreLines}
use Rattle.bw_pairs.proofs.Plain.{is_high, is_plain, both, digits-plain, no_end}
use Rattle.bw_pairs.proofs.JsonTexts.{is_itself, encoded}

-- ---- letters

below : (b : ℕ) → nat_lt b 32 ≡ true → b < 256
below b h = grind (arith, nat_tests)

above : (b : ℕ) → nat_lt b 32 ≡ false → nat_le 32 b ≡ true
above b h = grind (arith, nat_tests)

one_byte : (b : ℕ) → b < 256 → IsBytes (b ∷ [])
one_byte b h zero = h
one_byte b h (suc i) = omega arith

letter_of-plain : (x : ℕ) (a b c d e f : Bool) → nat_lt x 32 ≡ f
    → is_plain (cond a (codes "\\\"") (cond b (codes "\\\\") (cond c (codes "\\n") (cond d (codes "\\r") (cond e (codes "\\t")
    (cond f (codes "\\u00" ++ encode_lower (x ∷ [])) (x ∷ []))))))) ≡ true
letter_of-plain x true b c d e f h = refl
letter_of-plain x false true c d e f h = refl
letter_of-plain x false false true d e f h = refl
letter_of-plain x false false false true e f h = refl
letter_of-plain x false false false false true f h = refl
letter_of-plain x false false false false false true h = digits-plain (x ∷ []) (one_byte x (below x h))
letter_of-plain x false false false false false false h = rw (above x h) refl

letter_of-length : (x : ℕ) (a b c d e f : Bool)
    → length (cond a (codes "\\\"") (cond b (codes "\\\\") (cond c (codes "\\n") (cond d (codes "\\r") (cond e (codes "\\t")
    (cond f (codes "\\u00" ++ encode_lower (x ∷ [])) (x ∷ []))))))) ≤ 6
letter_of-length x true b c d e f = omega arith
letter_of-length x false true c d e f = omega arith
letter_of-length x false false true d e f = omega arith
letter_of-length x false false false true e f = omega arith
letter_of-length x false false false false true f = omega arith
letter_of-length x false false false false false true = omega (arith, length-encode_with lower_digits (x ∷ []))
letter_of-length x false false false false false false = omega arith

letter-plain : (x : ℕ) → is_plain (letter x) ≡ true
letter-plain x = letter_of-plain x (x == 34) (x == 92) (x == 10) (x == 13) (x == 9) (nat_lt x 32) refl

letter-length : (x : ℕ) → length (letter x) ≤ 6
letter-length x = letter_of-length x (x == 34) (x == 92) (x == 10) (x == 13) (x == 9) (nat_lt x 32)

letters-plain : (bytes : List ℕ) → is_plain (flat_map letter bytes) ≡ true
letters-plain [] = refl
letters-plain (b ∷ bytes) =
    list_all-append is_high (letter b) (flat_map letter bytes) ∙ rw (letter-plain b, letters-plain bytes) refl

letters-length : (bytes : List ℕ) → length (flat_map letter bytes) ≤ 6 * length bytes
letters-length [] = omega arith
letters-length (b ∷ bytes) =
    omega (arith, length-append (letter b) (flat_map letter bytes), letter-length b, letters-length bytes)

-- ---- base64

high : (b : ℕ) → is_itself b ≡ true → is_high b ≡ true
high b h =
    let one = both (not (b == 34)) (not (b == 92) && not (nat_lt b 32)) h in
    let two = both (not (b == 92)) (not (nat_lt b 32)) one.1 in
    above b (not_true (nat_lt b 32) two.1)
  where
    not_true : (a : Bool) → not a ≡ true → a ≡ false
    not_true true h = cc h
    not_true false h = refl

all_high : (bytes : List ℕ) → list_all is_itself bytes ≡ true → is_plain bytes ≡ true
all_high [] h = refl
all_high (b ∷ bytes) h =
    let parts = both (is_itself b) (list_all is_itself bytes) h in
    rw (high b parts.0, all_high bytes parts.1) refl

encoded-length : (bytes : List ℕ) → length (encode_of standard bytes) ≤ 2 * length bytes + 4
encoded-length bytes =
    omega (
      arith,
      length-append (encode_symbols standard.encode_table bytes) (replicate (padding_len (length bytes)) 61),
      length-encode_symbols standard.encode_table bytes,
      length-replicate {A = ℕ} (padding_len (length bytes)) 61,
    )

-- ---- members

quoted-plain : (bytes : List ℕ) → is_plain bytes ≡ true → is_plain (34 ∷ bytes ++ 34 ∷ []) ≡ true
quoted-plain bytes h = list_all-append is_high bytes (34 ∷ []) ∙ rw h refl

of_member-plain : (b : Bool) (name bytes : List ℕ) → ((c : Bool) → is_plain (name_of name c) ≡ true) → IsBytes bytes
    → is_plain (name_of name b ++ cond b (text bytes) (based bytes)) ≡ true
of_member-plain true name bytes named h =
    list_all-append is_high (name_of name true) (text bytes)
    ∙ rw (named true, quoted-plain (flat_map letter bytes) (letters-plain bytes)) refl
of_member-plain false name bytes named h =
    list_all-append is_high (name_of name false) (based bytes)
    ∙ rw (named false, quoted-plain (encode_of standard bytes) (all_high (encode_of standard bytes) (encoded bytes h))) refl

of_member-length : (b : Bool) (name bytes : List ℕ) → ((c : Bool) → length (name_of name c) ≤ 15)
    → length (name_of name b ++ cond b (text bytes) (based bytes)) ≤ 6 * length bytes + 21
of_member-length true name bytes named =
    omega (arith, length-append (name_of name true) (text bytes), named true, length-append (flat_map letter bytes) (34 ∷ []), letters-length bytes)
of_member-length false name bytes named =
    omega (arith, length-append (name_of name false) (based bytes), named false, length-append (encode_of standard bytes) (34 ∷ []), encoded-length bytes)

key-named : (c : Bool) → is_plain (name_of (codes "key") c) ≡ true
key-named true = refl
key-named false = refl

value-named : (c : Bool) → is_plain (name_of (codes "value") c) ≡ true
value-named true = refl
value-named false = refl

key-short : (c : Bool) → length (name_of (codes "key") c) ≤ 15
key-short true = omega arith
key-short false = omega arith

value-short : (c : Bool) → length (name_of (codes "value") c) ≤ 15
value-short true = omega arith
value-short false = omega arith

key-plain : (key : List ℕ) → IsBytes key → is_plain (member (codes "key") key) ≡ true
key-plain key h = of_member-plain (is_utf8 key) (codes "key") key key-named h

value-plain : (value : List ℕ) → IsBytes value → is_plain (member (codes "value") value) ≡ true
value-plain value h = of_member-plain (is_utf8 value) (codes "value") value value-named h

-- ---- objects

whole : (middle : List ℕ) → is_plain middle ≡ true → length middle ≤ 4094 → IsLine (123 ∷ middle ++ 125 ∷ [])
whole middle h short =
    let all : is_plain (123 ∷ middle ++ 125 ∷ []) ≡ true = list_all-append is_high middle (125 ∷ []) ∙ rw h refl in
    (no_end (123 ∷ middle ++ 125 ∷ []) all, omega (arith, length-append middle (125 ∷ [])))

joined-plain : (first second : List ℕ) → is_plain first ≡ true → is_plain second ≡ true → is_plain (first ++ 44 ∷ second) ≡ true
joined-plain first second h k = list_all-append is_high first (44 ∷ second) ∙ rw (h, k) refl

pub json : JsonLinesAreLines
json pair lawful =
    let key = member (codes "key") pair.0 in
    let value = member (codes "value") pair.1 in
    let key_length : length key ≤ 6 * length pair.0 + 21 = of_member-length (is_utf8 pair.0) (codes "key") pair.0 key-short in
    let value_length : length value ≤ 6 * length pair.1 + 21 = of_member-length (is_utf8 pair.1) (codes "value") pair.1 value-short in
    let a = lawful.0.0.1 in
    let b = lawful.0.1 in
    let both_length = length-append key (44 ∷ value) in (
      whole (key ++ 44 ∷ value) (joined-plain key value (key-plain pair.0 lawful.1) (value-plain pair.1 lawful.2)) (omega arith),
      whole key (key-plain pair.0 lawful.1) (omega arith),
    )
