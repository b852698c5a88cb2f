-- A row that names a long value is read back.

use Rattle.std.proofs.Common.{ℕ, ◌≡◌, ◌<◌, ◌^◌, Bool, cond, Option, Some, None, [], ◌∷◌, ◌++◌, length, take, drop, refl, sym, ap, ◌∙◌, arith, eq-eqb, length-append}
use Rattle.std.proofs.lemmas.Nat.{from_be_bytes-to_be_bytes_8}
use Rattle.bw_rows.specs.Spelling.{Bytes, eight, number_in, head_row, head_of}

pub eight_wide : (n : ℕ) → length (eight n) ≡ 8
unfolding eight
eight_wide n = refl

pub number_back : (n : ℕ) → n < 2 ^ 64 → number_in (eight n) ≡ n
unfolding eight number_in
number_back n h = from_be_bytes-to_be_bytes_8 n h

pub front_of : (n a : Bytes) (w : ℕ) → length n ≡ w → take w (n ++ a) ≡ n
front_of [] a w e = ap (λ (x : ℕ). take x a) (sym e)
front_of (x ∷ n) a w e = ap (λ (z : ℕ). take z (x ∷ (n ++ a))) (sym e) ∙ ap (λ (r : Bytes). x ∷ r) (front_of n a (length n) refl)

back_of : (n a : Bytes) (w : ℕ) → length n ≡ w → drop w (n ++ a) ≡ a
back_of [] a w e = ap (λ (x : ℕ). drop x a) (sym e)
back_of (x ∷ n) a w e = ap (λ (z : ℕ). drop z (x ∷ (n ++ a))) (sym e) ∙ back_of n a (length n) refl

pub head_named : (n : Bytes) (len : ℕ) → length n ≡ 8 → len < 2 ^ 64 → head_of (head_row n len) ≡ Some (n, len)
head_named n len wide fits =
    let sixteen : length (n ++ eight len) ≡ 16 = length-append n (eight len) ∙ (let e = eight_wide len in omega arith) in
    ap (λ (b : Bool). cond {A = Option (Bytes × ℕ)} b (Some (take 8 (n ++ eight len), number_in (drop 8 (n ++ eight len)))) None) (eq-eqb (length (n ++ eight len)) 16 sixteen)
    ∙ ap (λ (x : Bytes). Some (x, number_in (drop 8 (n ++ eight len)))) (front_of n (eight len) 8 wide)
    ∙ ap (λ (x : ℕ). Some (n, x)) (ap number_in (back_of n (eight len) 8 wide) ∙ number_back len fits)
