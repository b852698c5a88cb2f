-- What stands after blanks.

use Rattle.std.proofs.Common.{◌≡◌, ℕ, suc, ◌+◌, Bool, true, false, cond, List, [], ◌∷◌, drop, refl, ◌∙◌, arith}
use Rattle.std.specs.Char.{is_ascii_whitespace}
use Rattle.std.specs.List.{prefix_len}
use Rattle.std.specs.Str.{IsTrimAsciiStart}
use Rattle.std.proofs.lemmas.Str.Ascii.{trim_ascii_start_is}
use Rattle.bw_pairs.specs.Json.{after_blanks}

one : (b : Bool) (byte n : ℕ) (rest : List ℕ) → drop n rest ≡ after_blanks rest
    → drop (cond b (1 + n) 0) (byte ∷ rest) ≡ cond b (after_blanks rest) (byte ∷ rest)
one true byte n rest same =
    let e : 1 + n ≡ suc n = omega arith in
    rw e same
one false byte n rest same = refl

dropped : (line : List ℕ) → drop (prefix_len is_ascii_whitespace line) line ≡ after_blanks line
dropped [] = refl
dropped (byte ∷ rest) = one (is_ascii_whitespace byte) byte (prefix_len is_ascii_whitespace rest) rest (dropped rest)

pub trimmed : (line rest : List ℕ) → IsTrimAsciiStart line rest → rest ≡ after_blanks line
trimmed line rest is = trim_ascii_start_is line rest is ∙ dropped line

again_one : (byte : ℕ) (b : Bool) (rest : List ℕ) → is_ascii_whitespace byte ≡ b
    → after_blanks (after_blanks rest) ≡ after_blanks rest
    → after_blanks (cond b (after_blanks rest) (byte ∷ rest)) ≡ cond b (after_blanks rest) (byte ∷ rest)
again_one byte true rest same again = again
again_one byte false rest same again = rw same refl

-- after blanks are none
pub again : (line : List ℕ) → after_blanks (after_blanks line) ≡ after_blanks line
again [] = refl
again (byte ∷ rest) = again_one byte (is_ascii_whitespace byte) rest refl (again rest)
