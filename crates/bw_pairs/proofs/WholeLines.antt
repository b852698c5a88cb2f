-- What is written of a pair is whole lines.

use Rattle.std.proofs.Common.{◌≡◌, ℕ, zero, suc, ◌+◌, ◌*◌, ◌<◌, ◌≤◌, Bool, true, false, not, cond, ◌&&◌, ◌==◌, nat_le, List, [], ◌∷◌, ◌++◌, length, refl, ◌∙◌, length-append, arith}
use Rattle.std.specs.List.{flat_map, list_any}
use Rattle.std.specs.Str.{is_utf8}
use Rattle.std.proofs.lemmas.List.Folds.{list_all-append, list_any-append}
use Rattle.hex.specs.Hex.{encode_lower, lower_digits}
use Rattle.hex.proofs.HexLemmas.{length-encode_with}
use Rattle.bw_record.specs.Keys.{IsBytes}
use Rattle.bw_pairs.specs.Words.{is_text, has_no_control, hexed, word}
use Rattle.bw_pairs.specs.Csv.{is_apart, doubled, quoted, field}
use Rattle.bw_pairs.specs.Dumps.{is_printed, escape, dump_line}
use Rattle.bw_pairs.specs.Laws.{IsLine, is_end, TabLinesAreLines, CsvLinesAreLines, DumpLinesAreLines}
use Rattle.bw_pairs.specs.declared.spelling.Spelling.{Spelling}
use Rattle.bw_pairs.specs.declared.spelling.Spelling.TheVariants as ways
use Rattle.bw_pairs.specs.declared.dump.Letters.{Letters}
use Rattle.bw_pairs.specs.declared.dump.Letters.TheVariants.{Hex, Print}
use Rattle.bw_pairs.proofs.Plain.{is_high, is_plain, both, word-plain, text-plain, digits-plain, no_end}

-- two parts with a byte between that ends no line
between : (w v : List ℕ) (b : ℕ) → is_end b ≡ false → is_plain w ≡ true → is_plain v ≡ true → list_any is_end (w ++ b ∷ v) ≡ false
between w v b h p q = list_any-append is_end w (b ∷ v) ∙ rw (no_end w p, h, no_end v q) refl

-- ---- words

hexed-length : (bytes : List ℕ) → length (hexed bytes) ≡ 2 + 2 * length bytes
hexed-length bytes = omega (arith, length-encode_with lower_digits bytes)

chosen-length : (t : Bool) (bytes : List ℕ) → length (cond t bytes (hexed bytes)) ≤ 2 + 2 * length bytes
chosen-length true bytes = omega arith
chosen-length false bytes = omega (arith, hexed-length bytes)

word-length : (way : Spelling) (bytes : List ℕ) → length (word way bytes) ≤ 2 + 2 * length bytes
word-length ways.Words bytes = chosen-length (is_text bytes) bytes
word-length ways.Raw bytes = omega arith
word-length ways.Hex bytes = omega (arith, hexed-length bytes)

pub tabs : TabLinesAreLines
tabs way pair h lawful = (
  between (word way pair.0) (word way pair.1) 9 refl (word-plain way pair.0 h lawful.1) (word-plain way pair.1 h lawful.2),
  omega (arith, length-append (word way pair.0) (9 ∷ word way pair.1), word-length way pair.0, word-length way pair.1, lawful.0.0.1, lawful.0.1),
)

-- ---- CSV

doubled-plain : (b : ℕ) (c : Bool) → is_high b ≡ true → is_plain (cond c (34 ∷ 34 ∷ []) (b ∷ [])) ≡ true
doubled-plain b true h = refl
doubled-plain b false h = rw h refl

doubled-length : (c : Bool) (b : ℕ) → length (cond c (34 ∷ 34 ∷ []) (b ∷ [])) ≤ 2
doubled-length true b = omega arith
doubled-length false b = omega arith

within-plain : (bytes : List ℕ) → is_plain bytes ≡ true → is_plain (flat_map doubled bytes) ≡ true
within-plain [] h = refl
within-plain (b ∷ bytes) h =
    let parts = both (is_high b) (is_plain bytes) h in
    list_all-append is_high (doubled b) (flat_map doubled bytes)
    ∙ rw (doubled-plain b (b == 34) parts.0, within-plain bytes parts.1) refl

within-length : (bytes : List ℕ) → length (flat_map doubled bytes) ≤ 2 * length bytes
within-length [] = omega arith
within-length (b ∷ bytes) =
    omega (arith, length-append (doubled b) (flat_map doubled bytes), doubled-length (b == 34) b, within-length bytes)

quoted-plain : (bytes : List ℕ) → is_plain bytes ≡ true → is_plain (quoted bytes) ≡ true
quoted-plain bytes h = list_all-append is_high (flat_map doubled bytes) (34 ∷ []) ∙ rw (within-plain bytes h) refl

text_is-plain : (bytes : List ℕ) → is_text bytes ≡ true → is_plain bytes ≡ true
text_is-plain bytes h =
    let parts = both _ (has_no_control bytes) h in
    text-plain bytes (both _ (is_utf8 bytes) parts.0).1 parts.1

field_of-plain : (bytes : List ℕ) (a t : Bool) → is_text bytes ≡ t → is_plain (word ways.Words bytes) ≡ true
    → is_plain (cond (a && t) (quoted bytes) (word ways.Words bytes)) ≡ true
field_of-plain bytes true true same h = quoted-plain bytes (text_is-plain bytes same)
field_of-plain bytes false true same h = h
field_of-plain bytes true false same h = h
field_of-plain bytes false false same h = h

field-plain : (bytes : List ℕ) → IsBytes bytes → is_plain (field bytes) ≡ true
field-plain bytes lawful =
    field_of-plain bytes (list_any is_apart bytes) (is_text bytes) refl (word-plain ways.Words bytes (λ h. cc h) lawful)

field_of-length : (c : Bool) (bytes : List ℕ) → length (cond c (quoted bytes) (word ways.Words bytes)) ≤ 2 + 2 * length bytes
field_of-length true bytes = omega (arith, length-append (flat_map doubled bytes) (34 ∷ []), within-length bytes)
field_of-length false bytes = word-length ways.Words bytes

field-length : (bytes : List ℕ) → length (field bytes) ≤ 2 + 2 * length bytes
field-length bytes = field_of-length (list_any is_apart bytes && is_text bytes) bytes

pub csv : CsvLinesAreLines
csv pair lawful = (
  between (field pair.0) (field pair.1) 44 refl (field-plain pair.0 lawful.1) (field-plain pair.1 lawful.2),
  omega (arith, length-append (field pair.0) (44 ∷ field pair.1), field-length pair.0, field-length pair.1, lawful.0.0.1, lawful.0.1),
)

-- ---- dumps

one_byte : (b : ℕ) → b < 256 → IsBytes (b ∷ [])
one_byte b h zero = h
one_byte b h (suc i) = omega arith

escape-plain : (b : ℕ) (c : Bool) → is_printed b ≡ c → b < 256 → is_plain (cond c (b ∷ []) (92 ∷ encode_lower (b ∷ []))) ≡ true
escape-plain b true same h =
    let parts = both (nat_le 32 b) (nat_le b 126) (both (nat_le 32 b && nat_le b 126) (not (b == 92)) same).0 in
    rw parts.0 refl
escape-plain b false same h = digits-plain (b ∷ []) (one_byte b h)

escape-length : (c : Bool) (b : ℕ) → length (cond c (b ∷ []) (92 ∷ encode_lower (b ∷ []))) ≤ 3
escape-length true b = omega arith
escape-length false b = omega (arith, length-encode_with lower_digits (b ∷ []))

escaped-plain : (bytes : List ℕ) → IsBytes bytes → is_plain (flat_map escape bytes) ≡ true
escaped-plain [] h = refl
escaped-plain (b ∷ bytes) h =
    list_all-append is_high (escape b) (flat_map escape bytes)
    ∙ rw (escape-plain b (is_printed b) refl (h 0), escaped-plain bytes (λ i. h (suc i))) refl

escaped-length : (bytes : List ℕ) → length (flat_map escape bytes) ≤ 3 * length bytes
escaped-length [] = omega arith
escaped-length (b ∷ bytes) =
    omega (arith, length-append (escape b) (flat_map escape bytes), escape-length (is_printed b) b, escaped-length bytes)

line : (letters : Letters) (bytes : List ℕ) → IsBytes bytes → length bytes ≤ 512 → IsLine (dump_line letters bytes)
line Hex bytes h short = (no_end (encode_lower bytes) (digits-plain bytes h), omega (arith, length-encode_with lower_digits bytes))
line Print bytes h short = (no_end (flat_map escape bytes) (escaped-plain bytes h), omega (arith, escaped-length bytes))

pub dumps : DumpLinesAreLines
dumps letters pair lawful = (line letters pair.0 lawful.1 (omega (arith, lawful.0.0.1)), line letters pair.1 lawful.2 lawful.0.1)
