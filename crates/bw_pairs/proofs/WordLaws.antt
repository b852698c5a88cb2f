-- A word stands for the bytes of which it was made.

use Rattle.std.proofs.Common.{◌≡◌, ℕ, Bool, true, false, not, cond, ◌&&◌, nat_eq, List, Some, refl, ap}
use Rattle.std.specs.List.{starts_with}
use Rattle.std.specs.Str.{is_utf8}
use Rattle.std.specs.Result.{result_ok}
use Rattle.hex.proofs.HexLemmas.{decode_of-encode_lower}
use Rattle.bw_record.specs.Keys.{IsBytes}
use Rattle.bw_pairs.specs.Words.{mark, is_text, has_no_control, hexed, meant}
use Rattle.bw_pairs.specs.Laws.{WordsAreReadBack}
use Rattle.bw_pairs.specs.declared.spelling.Spelling.TheVariants.{Words, Raw, Hex}

hex_back : (bytes : List ℕ) → IsBytes bytes → meant (hexed bytes) ≡ Some bytes
hex_back bytes h = ap result_ok (decode_of-encode_lower bytes h)

no_mark : (a b c : Bool) → not a && b && c ≡ true → a ≡ false
no_mark true b c h = cc h
no_mark false b c h = refl

text_back : (bytes : List ℕ) (b : Bool) → is_text bytes ≡ b → IsBytes bytes → meant (cond b bytes (hexed bytes)) ≡ Some bytes
text_back bytes true same h =
    rw (no_mark (starts_with nat_eq bytes mark) (is_utf8 bytes) (has_no_control bytes) same) refl
text_back bytes false same h = hex_back bytes h

pub words : WordsAreReadBack
words Words bytes way h = text_back bytes (is_text bytes) refl h
words Raw bytes way h = absurd (way refl)
words Hex bytes way h = hex_back bytes h
