-- Base64 in parts: whole groups of three leave no sign that stands for nothing.

use Rattle.std.proofs.Common.{◌≡◌, ℕ, ◌+◌, ◌%◌, List, [], ◌∷◌, ◌++◌, length, refl, sym, ap, ◌∙◌, append_assoc, append-nil, length-append, Option, Result, Ok, Err, OnOk, arith}
use Rattle.std.proofs.KnownBytes.{Appends-trans}
use Rattle.std.specs.Io.KnownBytes.{Appends}
use Rattle.base64.specs.Rfc4648.{encode_symbols, encode_group, padding_len}
use Rattle.base64.specs.GeneralPurpose.{encode_of}
use Rattle.base64.specs.Engines.{standard}

symbols : (t xs ys : List ℕ) → length xs % 3 ≡ 0 → encode_symbols t (xs ++ ys) ≡ encode_symbols t xs ++ encode_symbols t ys
unfolding encode_symbols
symbols t [] ys h = refl
symbols t (a ∷ []) ys h = absurd (omega arith)
symbols t (a ∷ b ∷ []) ys h = absurd (omega arith)
symbols t (a ∷ b ∷ c ∷ xs) ys h =
    ap (λ l. encode_group t a b c ++ l) (symbols t xs ys (omega arith))
    ∙ sym (append_assoc (encode_group t a b c) (encode_symbols t xs) (encode_symbols t ys))

whole : (n m : ℕ) → n % 3 ≡ 0 → padding_len (n + m) ≡ padding_len m
whole n m h =
    let same : (n + m) % 3 ≡ m % 3 = omega arith in
    rw same refl

none : (n : ℕ) → n % 3 ≡ 0 → padding_len n ≡ 0
none n h = rw h refl

pub parts : (xs ys : List ℕ) → length xs % 3 ≡ 0 → encode_of standard (xs ++ ys) ≡ encode_of standard xs ++ encode_of standard ys
parts xs ys h =
    let t = standard.encode_table in
    let pad : padding_len (length (xs ++ ys)) ≡ padding_len (length ys) =
    ap padding_len (length-append xs ys) ∙ whole (length xs) (length ys) h in
    let first : encode_of standard xs ≡ encode_symbols t xs =
    rw (none (length xs) h) (append-nil (encode_symbols t xs)) in
    rw (first, symbols t xs ys h, pad) (append_assoc (encode_symbols t xs) (encode_symbols t ys) _)

-- what was written before, and then what the last write wrote if it answered Ok
pub trans_on_ok : {E : Type 0} (r : Result Unit E) (a b c : Option (List ℕ)) (bs cs : List ℕ) → Appends a b bs
    → OnOk r (Appends b c cs) → OnOk r (Appends a c (bs ++ cs))
trans_on_ok (Ok x) a b c bs cs first second = Appends-trans a b c bs cs first second
trans_on_ok (Err e) a b c bs cs first second = search
