-- Hex that spells more bytes than there is room for.

use Rattle.std.proofs.Common.{◌≡◌, ◌<◌, ◌/◌, ℕ, List, length, Result, Ok, Err, IfSome, refl, arith}
use Rattle.std.specs.Result.{result_ok}
use Rattle.hex.specs.Hex.{decode_of}
use Rattle.hex.specs.declared.error.FromHexError.{FromHexError}
use Rattle.hex.proofs.HexLemmas.{decode_of-ok}

pub longer : (digits : List ℕ) (n : ℕ) (r : Result (List ℕ) FromHexError) → decode_of digits ≡ r → n < length digits / 2
    → IfSome (result_ok r) (λ bytes. n < length bytes)
longer digits n (Ok bytes) same more = omega (arith, decode_of-ok digits bytes same)
longer digits n (Err e) same more = search

pub too_long : (digits : List ℕ) → 512 < length digits / 2 → IfSome (result_ok (decode_of digits)) (λ bytes. 512 < length bytes)
too_long digits more = longer digits 512 (decode_of digits) refl more
