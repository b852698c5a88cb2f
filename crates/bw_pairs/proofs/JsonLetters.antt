-- What is written of a text or of base64 between quotes is a text.

use Rattle.std.proofs.Common.{◌≡◌, ℕ, ◌+◌, ◌/◌, ◌%◌, ◌<◌, ◌≤◌, Bool, true, false, cond, ltb, nat_lt, ◌&&◌, ◌==◌, List, [], ◌∷◌, ◌++◌, codes, IsUtf8, refl, sym, ap, ◌∙◌, append-nil, get_or, subst, inl, inr, arith}
use Rattle.std.specs.List.{flat_map}
use Rattle.std.specs.Str.{IsAscii}
use Rattle.std.proofs.Math.Utf8.{scalar, scalars, encode, encodes}
use Rattle.std.proofs.lemmas.Bool.{cases_lt}
use Rattle.std.proofs.lemmas.Bool.Decides.{nat_tests}
use Rattle.std.proofs.lemmas.List.Concat.{flat_map-append}
use Rattle.std.proofs.lemmas.Str.{IsUtf8-append, IsUtf8-from_ascii, IsUtf8-encode, encode_ascii, IsAscii-append}
use Rattle.std.proofs.lemmas.Str.Ascii.{IsAscii-nil, IsAscii-cons, IsAscii-from_reads}
use Rattle.std.proofs.lemmas.List.Folds.{list_all_at}
use Rattle.hex.specs.Hex.{encode_lower, lower_digits}
use Rattle.hex.proofs.HexLemmas.{IsAscii-encode_with}
use Rattle.base64.specs.GeneralPurpose.{encode_of}
use Rattle.base64.specs.Engines.{standard}
use Rattle.base64.proofs.EngineFacts.{IsAscii-encode_of}
use Rattle.bw_pairs.specs.Json.{letter, text, based}

-- ---- a letter of more than one byte

differs : (a b : ℕ) → b < a → a == b ≡ false
differs a b h = grind (arith, nat_tests)

no_control : (byte : ℕ) → 128 ≤ byte → nat_lt byte 32 ≡ false
no_control byte h = grind (arith, nat_tests)

high : (byte : ℕ) → 128 ≤ byte → letter byte ≡ byte ∷ []
high byte h =
    rw (
      differs byte 34 (omega arith),
      differs byte 92 (omega arith),
      differs byte 10 (omega arith),
      differs byte 13 (omega arith),
      differs byte 9 (omega arith),
      no_control byte h,
    ) refl

one : (a : ℕ) → 128 ≤ a → flat_map letter (a ∷ []) ≡ a ∷ []
one a h = rw (high a h) refl

two : (a b : ℕ) → 128 ≤ a → 128 ≤ b → flat_map letter (a ∷ b ∷ []) ≡ a ∷ b ∷ []
two a b h k = rw (high a h, high b k) refl

three : (a b c : ℕ) → 128 ≤ a → 128 ≤ b → 128 ≤ c → flat_map letter (a ∷ b ∷ c ∷ []) ≡ a ∷ b ∷ c ∷ []
three a b c h k l = rw (high a h, high b k, high c l) refl

four : (a b c d : ℕ) → 128 ≤ a → 128 ≤ b → 128 ≤ c → 128 ≤ d → flat_map letter (a ∷ b ∷ c ∷ d ∷ []) ≡ a ∷ b ∷ c ∷ d ∷ []
four a b c d h k l m = rw (high a h, high b k, high c l, high d m) refl

chosen : (x y z : Bool) (a b c d : List ℕ) → flat_map letter a ≡ a → flat_map letter b ≡ b → flat_map letter c ≡ c
    → flat_map letter d ≡ d → flat_map letter (cond x a (cond y b (cond z c d))) ≡ cond x a (cond y b (cond z c d))
chosen true y z a b c d p q r s = p
chosen false true z a b c d p q r s = q
chosen false false true a b c d p q r s = r
chosen false false false a b c d p q r s = s

wide : (c : ℕ) → 128 ≤ c → flat_map letter (encode c) ≡ encode c
unfolding encode
wide c h =
    let second = 128 + c % 64 in
    let third = 128 + c / 64 % 64 in
    let fourth = 128 + c / 4096 % 64 in
    chosen (ltb c 128) (ltb c 2048) (ltb c 65536) (c ∷ []) ((192 + c / 64) ∷ second ∷ [])
    ((224 + c / 4096) ∷ third ∷ second ∷ []) ((240 + c / 262144) ∷ fourth ∷ third ∷ second ∷ [])
    (one c h)
    (two (192 + c / 64) second (omega arith) (omega arith))
    (three (224 + c / 4096) third second (omega arith) (omega arith) (omega arith))
    (four (240 + c / 262144) fourth third second (omega arith) (omega arith) (omega arith) (omega arith))

-- ---- a letter of one byte

pair : (a b : ℕ) → a < 128 → b < 128 → IsAscii (a ∷ b ∷ [])
pair a b h k = IsAscii-cons a (b ∷ []) h (IsAscii-cons b [] k IsAscii-nil)

is_true : (b : Bool) → (b ≡ false → ⊥) → b ≡ true
is_true true h = refl
is_true false h = absurd (h refl)

below : (byte : ℕ) → nat_lt byte 128 ≡ true → byte < 128
below byte h = grind (arith, nat_tests)

digits : IsAscii lower_digits
digits =
    IsAscii-from_reads lower_digits 16 (omega arith)
    (λ k h. below (get_or lower_digits k 0) (is_true _ (λ low. cc (list_all_at (λ b. nat_lt b 128) lower_digits k 0 h low))))

control : (byte : ℕ) → IsAscii (codes "\\u00" ++ encode_lower (byte ∷ []))
control byte =
    let spelled = encode_lower (byte ∷ []) in
    IsAscii-append (92 ∷ 117 ∷ []) (48 ∷ 48 ∷ spelled) (pair 92 117 (omega arith) (omega arith))
    (IsAscii-append (48 ∷ 48 ∷ []) spelled (pair 48 48 (omega arith) (omega arith)) (IsAscii-encode_with lower_digits (byte ∷ []) digits))

ascii_of : (byte : ℕ) (a b c d e f : Bool) → byte < 128
    → IsAscii (cond a (codes "\\\"") (cond b (codes "\\\\") (cond c (codes "\\n") (cond d (codes "\\r") (cond e (codes "\\t")
    (cond f (codes "\\u00" ++ encode_lower (byte ∷ [])) (byte ∷ [])))))))
ascii_of byte true b c d e f h = pair 92 34 (omega arith) (omega arith)
ascii_of byte false true c d e f h = pair 92 92 (omega arith) (omega arith)
ascii_of byte false false true d e f h = pair 92 110 (omega arith) (omega arith)
ascii_of byte false false false true e f h = pair 92 114 (omega arith) (omega arith)
ascii_of byte false false false false true f h = pair 92 116 (omega arith) (omega arith)
ascii_of byte false false false false false true h = control byte
ascii_of byte false false false false false false h = IsAscii-cons byte [] h IsAscii-nil

narrow : (c : ℕ) → c < 128 → IsUtf8 (flat_map letter (encode c))
narrow c h =
    let one_byte = encode_ascii c h in
    let ascii : IsAscii (letter c) = ascii_of c (c == 34) (c == 92) (c == 10) (c == 13) (c == 9) (nat_lt c 32) h in
    let same : flat_map letter (encode c) ≡ letter c = ap (flat_map letter) one_byte ∙ append-nil (letter c) in
    subst IsUtf8 (sym same) (IsUtf8-from_ascii (letter c) ascii)

-- ---- texts

either : (c : ℕ) → scalar c ≡ true → IsUtf8 (flat_map letter (encode c))
either c s = elim (cases_lt c 128) [
  | inl low ↦ narrow c low
  | inr big ↦ subst IsUtf8 (sym (wide c big)) (IsUtf8-encode c s)
]

both : (a b : Bool) → a && b ≡ true → (a ≡ true) × (b ≡ true)
both true b h = (refl, h)
both false b h = cc h

all_letters : (cs : List ℕ) → scalars cs ≡ true → IsUtf8 (flat_map letter (encodes cs))
all_letters [] h = IsUtf8-from_ascii [] IsAscii-nil
all_letters (c ∷ cs) h =
    let parts = both (scalar c) (scalars cs) h in
    subst IsUtf8 (sym (flat_map-append letter (encode c) (encodes cs)))
    (IsUtf8-append (flat_map letter (encode c)) (flat_map letter (encodes cs)) (either c parts.0) (all_letters cs parts.1))

letters : (bytes : List ℕ) → IsUtf8 bytes → IsUtf8 (flat_map letter bytes)
letters bytes u = subst (λ b. IsUtf8 (flat_map letter b)) u.1.1 (all_letters u.0 u.1.0)

quote : IsUtf8 (34 ∷ [])
quote = IsUtf8-from_ascii (34 ∷ []) (IsAscii-cons 34 [] (omega arith) IsAscii-nil)

between : (letters : List ℕ) → IsUtf8 letters → IsUtf8 (34 ∷ letters ++ 34 ∷ [])
between letters u = IsUtf8-append (34 ∷ []) (letters ++ 34 ∷ []) quote (IsUtf8-append letters (34 ∷ []) u quote)

pub text-utf8 : (bytes : List ℕ) → IsUtf8 bytes → IsUtf8 (text bytes)
text-utf8 bytes u = between (flat_map letter bytes) (letters bytes u)

pub based-utf8 : (bytes : List ℕ) → IsUtf8 (based bytes)
based-utf8 bytes = between (encode_of standard bytes) (IsUtf8-from_ascii (encode_of standard bytes) (IsAscii-encode_of standard bytes))
