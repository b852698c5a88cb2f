-- A line of a dump stands for the bytes of which it was made.

use Rattle.std.proofs.Common.{◌≡◌, ℕ, suc, ◌+◌, ◌*◌, ◌/◌, ◌%◌, ◌<◌, Bool, true, false, not, ◌&&◌, ◌==◌, nat_le, List, [], ◌∷◌, ◌++◌, slice_index, Some, refl, ap, ◌∙◌, cond, arith}
use Rattle.std.specs.Option.{option_and_then}
use Rattle.std.specs.List.{flat_map}
use Rattle.std.specs.Result.{result_ok}
use Rattle.std.proofs.lemmas.Bool.{eqb-true}
use Rattle.hex.specs.Hex.{encode_with, encode_lower, lower_digits, hex_digit_value}
use Rattle.hex.proofs.HexLemmas.{decode_of-encode_lower, IsDigits-lower_digits}
use Rattle.bw_record.specs.Keys.{IsBytes}
use Rattle.bw_pairs.specs.Words.{as_key, as_value}
use Rattle.bw_pairs.specs.Dumps.{is_printed, escape, dump_line, before, unescaped, dump_meant}
use Rattle.bw_pairs.specs.Laws.{DumpLinesAreReadBack}
use Rattle.bw_pairs.specs.declared.dump.Letters.{Letters}
use Rattle.bw_pairs.specs.declared.dump.Letters.TheVariants.{Hex, Print}
use Rattle.bw_pairs.specs.declared.dump.Escape.TheVariants.{Outside}
use Rattle.bw_pairs.proofs.LineLaws.{as_key-lawful, as_value-lawful}

both : (a b : Bool) → a && b ≡ true → (a ≡ true) × (b ≡ true)
both true b h = (refl, h)
both false b h = cc h

not_true : (a : Bool) → not a ≡ true → a ≡ false
not_true true h = cc h
not_true false h = refl

-- a byte that stands for itself is no backslash
no_backslash : (b : ℕ) → is_printed b ≡ true → b == 92 ≡ false
no_backslash b h = not_true (b == 92) (both (nat_le 32 b && nat_le b 126) (not (b == 92)) h).1

differs : (c d : ℕ) (b : Bool) → c == 92 ≡ b → hex_digit_value c ≡ Some d → c == 92 ≡ false
differs c d true same h = cc (rw (eqb-true c 92 same) at h)
differs c d false same h = same

digit_no_backslash : (c d : ℕ) → hex_digit_value c ≡ Some d → c == 92 ≡ false
digit_no_backslash c d h = differs c d (c == 92) refl h

escaped_back : (byte : ℕ) (rest : List ℕ) → byte < 256
    → unescaped Outside (92 ∷ slice_index lower_digits (byte / 16) ∷ slice_index lower_digits (byte % 16) ∷ rest)
    ≡ before byte (unescaped Outside rest)
escaped_back byte rest small =
    let high = IsDigits-lower_digits (byte / 16) (omega arith) in
    let low = IsDigits-lower_digits (byte % 16) (omega arith) in
    let value : byte / 16 % 16 * 16 + byte % 16 ≡ byte = omega arith in
    rw (digit_no_backslash (slice_index lower_digits (byte / 16)) (byte / 16) high, high, low, value) refl

one_back : (byte : ℕ) (b : Bool) (rest : List ℕ) → is_printed byte ≡ b → byte < 256
    → unescaped Outside (cond b (byte ∷ []) (92 ∷ encode_lower (byte ∷ [])) ++ rest) ≡ before byte (unescaped Outside rest)
unfolding encode_with
one_back byte true rest same small = rw (no_backslash byte same) refl
one_back byte false rest same small = escaped_back byte rest small

print_back : (bytes : List ℕ) → IsBytes bytes → unescaped Outside (flat_map escape bytes) ≡ Some bytes
print_back [] h = refl
print_back (byte ∷ bytes) h =
    one_back byte (is_printed byte) (flat_map escape bytes) refl (h 0) ∙ ap (before byte) (print_back bytes (λ i. h (suc i)))

back : (letters : Letters) (bytes : List ℕ) → IsBytes bytes → dump_meant letters (dump_line letters bytes) ≡ Some bytes
back Hex bytes h = ap result_ok (decode_of-encode_lower bytes h)
back Print bytes h = print_back bytes h

pub dumps : DumpLinesAreReadBack
dumps letters pair lawful = (
  ap (option_and_then as_key) (back letters pair.0 lawful.1) ∙ as_key-lawful pair.0 lawful.0.0,
  ap (option_and_then as_value) (back letters pair.1 lawful.2) ∙ as_value-lawful pair.1 lawful.0.1,
)
