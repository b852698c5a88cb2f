-- Hex digits that spell a value of a table, or too long a one.

use Rattle.std.proofs.Common.{◌≡◌, ◌<◌, ◌≤◌, ◌/◌, ℕ, false, nat_le, List, length, Some, None, Result, Ok, Err, refl, ap, ◌∙◌, arith}
use Rattle.std.specs.Option.{option_and_then}
use Rattle.std.specs.Result.{result_ok}
use Rattle.std.proofs.lemmas.Bool.{le-leb}
use Rattle.std.proofs.lemmas.Bool.Decides.{nat_tests}
use Rattle.hex.specs.Hex.{decode_of}
use Rattle.hex.specs.declared.error.FromHexError.{FromHexError}
use Rattle.hex.proofs.HexLemmas.{decode_of-ok}
use Rattle.bw_pairs.specs.Longs.{as_long, long_digits}

none : (digits : List ℕ) (r : Result (List ℕ) FromHexError) → decode_of digits ≡ r → 16777216 < length digits / 2
    → option_and_then as_long (result_ok r) ≡ None
none digits (Ok bytes) same more =
    let long : 16777216 < length bytes = omega (arith, decode_of-ok digits bytes same) in
    let test : nat_le (length bytes) 16777216 ≡ false = grind (arith, nat_tests) in
    rw test refl
none digits (Err e) same more = refl

pub no_digits : (digits : List ℕ) → 16777216 < length digits / 2 → long_digits digits ≡ None
no_digits digits more = none digits (decode_of digits) refl more

pub digits : (text bytes : List ℕ) → decode_of text ≡ Ok bytes → length text / 2 ≤ 16777216 → long_digits text ≡ Some bytes
digits text bytes same most =
    let short : length bytes ≤ 16777216 = omega (arith, decode_of-ok text bytes same) in
    ap (λ r. option_and_then as_long (result_ok r)) same ∙ rw (le-leb (length bytes) 16777216 short) refl
