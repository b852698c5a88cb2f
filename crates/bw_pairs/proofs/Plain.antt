-- A word that is no raw bytes has no byte below 32, and so no tab and no end of line.

use Rattle.std.proofs.Common.{◌||◌, ◌≡◌, ℕ, suc, ◌+◌, ◌/◌, ◌%◌, ◌<◌, ◌≤◌, Bool, true, false, not, cond, ◌&&◌, ltb, nat_le, ◌==◌, List, [], ◌∷◌, slice_index, chars, refl, sym, ap, ◌∙◌, arith}
use Rattle.std.specs.List.{list_all, list_any}
use Rattle.std.specs.Char.{is_control}
use Rattle.std.specs.Str.{is_utf8}
use Rattle.std.proofs.Math.Utf8.{encode, encodes}
use Rattle.std.proofs.lemmas.List.Folds.{list_all-append, list_all_at}
use Rattle.std.proofs.lemmas.Bool.{le-leb, leb-true}
use Rattle.std.proofs.lemmas.Bool.Decides.{nat_tests}
use Rattle.std.proofs.lemmas.Str.{encodes-chars, IsUtf8-from_is_utf8}
use Rattle.hex.specs.Hex.{encode_with, encode_lower, lower_digits}
use Rattle.bw_record.specs.Keys.{IsBytes}
use Rattle.bw_pairs.specs.Words.{is_text, has_no_control, hexed, word}
use Rattle.bw_pairs.specs.Lines.{is_tab}
use Rattle.bw_pairs.specs.declared.spelling.Spelling.{Spelling}
use Rattle.bw_pairs.specs.declared.spelling.Spelling.TheVariants.{Words, Raw, Hex}

abbrev pub is_high : ℕ → Bool
is_high byte = nat_le 32 byte

abbrev pub is_plain : List ℕ → Bool
is_plain bytes = list_all is_high bytes

-- ---- the letters of a text

one : (a : ℕ) → 32 ≤ a → is_plain (a ∷ []) ≡ true
one a h = rw (le-leb 32 a h) refl

two : (a b : ℕ) → 32 ≤ a → 32 ≤ b → is_plain (a ∷ b ∷ []) ≡ true
two a b h k = rw (le-leb 32 a h, le-leb 32 b k) refl

three : (a b c : ℕ) → 32 ≤ a → 32 ≤ b → 32 ≤ c → is_plain (a ∷ b ∷ c ∷ []) ≡ true
three a b c h k l = rw (le-leb 32 a h, le-leb 32 b k, le-leb 32 c l) refl

four : (a b c d : ℕ) → 32 ≤ a → 32 ≤ b → 32 ≤ c → 32 ≤ d → is_plain (a ∷ b ∷ c ∷ d ∷ []) ≡ true
four a b c d h k l m = rw (le-leb 32 a h, le-leb 32 b k, le-leb 32 c l, le-leb 32 d m) refl

chosen : (x y z : Bool) (a b c d : List ℕ) → is_plain a ≡ true → is_plain b ≡ true → is_plain c ≡ true → is_plain d ≡ true
    → is_plain (cond x a (cond y b (cond z c d))) ≡ true
chosen true y z a b c d p q r s = p
chosen false true z a b c d p q r s = q
chosen false false true a b c d p q r s = r
chosen false false false a b c d p q r s = s

letter : (c : ℕ) → 32 ≤ c → is_plain (encode c) ≡ true
unfolding encode
letter c h =
    let second = 128 + c % 64 in
    let third = 128 + c / 64 % 64 in
    let fourth = 128 + c / 4096 % 64 in
    chosen (ltb c 128) (ltb c 2048) (ltb c 65536) (c ∷ []) ((192 + c / 64) ∷ second ∷ [])
    ((224 + c / 4096) ∷ third ∷ second ∷ []) ((240 + c / 262144) ∷ fourth ∷ third ∷ second ∷ [])
    (one c h)
    (two (192 + c / 64) second (omega arith) (omega arith))
    (three (224 + c / 4096) third second (omega arith) (omega arith) (omega arith))
    (four (240 + c / 262144) fourth third second (omega arith) (omega arith) (omega arith) (omega arith))

no_control : (c : ℕ) → not (is_control c) ≡ true → 32 ≤ c
no_control c h = grind (arith, nat_tests)

pub both : (a b : Bool) → a && b ≡ true → (a ≡ true) × (b ≡ true)
both true b h = (refl, h)
both false b h = cc h

letters : (cs : List ℕ) → list_all (λ c. not (is_control c)) cs ≡ true → is_plain (encodes cs) ≡ true
letters [] h = refl
letters (c ∷ cs) h =
    let parts = both (not (is_control c)) (list_all (λ l. not (is_control l)) cs) h in
    list_all-append is_high (encode c) (encodes cs) ∙ rw (letter c (no_control c parts.0), letters cs parts.1) refl

pub text-plain : (bytes : List ℕ) → is_utf8 bytes ≡ true → has_no_control bytes ≡ true → is_plain bytes ≡ true
text-plain bytes utf8 none =
    ap is_plain (sym (encodes-chars bytes (IsUtf8-from_is_utf8 bytes utf8))) ∙ letters (chars bytes) none

-- ---- hex digits

is_true : (b : Bool) → (b ≡ false → ⊥) → b ≡ true
is_true true h = refl
is_true false h = absurd (h refl)

digit : (d : ℕ) → d < 16 → is_high (slice_index lower_digits d) ≡ true
digit d h = is_true _ (λ low. cc (list_all_at is_high lower_digits d 0 h low))

pub digits-plain : (bytes : List ℕ) → IsBytes bytes → is_plain (encode_lower bytes) ≡ true
unfolding encode_with
digits-plain [] h = refl
digits-plain (b ∷ bytes) h =
    let small : b < 256 = h 0 in
    let high : b / 16 < 16 = omega arith in
    let low : b % 16 < 16 = omega arith in
    rw (digit (b / 16) high, digit (b % 16) low, digits-plain bytes (λ i. h (suc i))) refl

-- ---- words

is_plain_text : (bytes : List ℕ) (b : Bool) → is_text bytes ≡ b → IsBytes bytes → is_plain (cond b bytes (hexed bytes)) ≡ true
is_plain_text bytes true same h =
    let parts = both _ (has_no_control bytes) same in
    text-plain bytes (both _ (is_utf8 bytes) parts.0).1 parts.1
is_plain_text bytes false same h = digits-plain bytes h

pub word-plain : (way : Spelling) (bytes : List ℕ) → (way ≡ Raw → ⊥) → IsBytes bytes → is_plain (word way bytes) ≡ true
word-plain Words bytes h lawful = is_plain_text bytes (is_text bytes) refl lawful
word-plain Raw bytes h lawful = absurd (h refl)
word-plain Hex bytes h lawful = digits-plain bytes lawful

-- ---- tabs

high_no_tab : (b : ℕ) → 32 ≤ b → b == 9 ≡ false
high_no_tab b h = grind (arith, nat_tests)

pub no_tab : (bytes : List ℕ) → is_plain bytes ≡ true → list_any is_tab bytes ≡ false
no_tab [] h = refl
no_tab (b ∷ bytes) h =
    let parts = both (is_high b) (is_plain bytes) h in
    rw (high_no_tab b (leb-true 32 b parts.0), no_tab bytes parts.1) refl

high_no_end : (b : ℕ) → 32 ≤ b → (b == 10) || (b == 13) ≡ false
high_no_end b h = grind (arith, nat_tests)

pub no_end : (bytes : List ℕ) → is_plain bytes ≡ true → list_any (λ b. (b == 10) || (b == 13)) bytes ≡ false
no_end [] h = refl
no_end (b ∷ bytes) h =
    let parts = both (is_high b) (is_plain bytes) h in
    rw (high_no_end b (leb-true 32 b parts.0), no_end bytes parts.1) refl
