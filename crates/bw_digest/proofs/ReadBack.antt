-- A sum that was written is read again, whatever follows it.
use Rattle.std.proofs.Common.{◌≡◌, ℕ, ◌+◌, ◌^◌, ◌<◌, List, ◌++◌, length, drop, take, refl, subst, ap, ◌∙◌, arith, append_assoc, length-append}
use Rattle.std.proofs.Math.Nat.{mod-lt}
use Rattle.std.proofs.Math.Seq.{drop-append_seam, take-append_seam}
use Rattle.byteorder.specs.Endian.{little_bytes, little_number}
use Rattle.byteorder.specs.Numbers.{little_number-reads_back, length-bytes_low_first}
use Rattle.bw_digest.specs.Digest.{digest}
use Rattle.bw_digest.specs.Sums.{three, mark_of, sum_in, sum_bytes}
use Rattle.bw_digest.specs.declared.sum.Sum.{Sum}

pub digest_fits : (bytes : List ℕ) → digest bytes < 2 ^ 64
unfolding digest
digest_fits bytes = mod-lt _ (omega arith)

pub mark_fits : (before end d : ℕ) → mark_of before end d < 2 ^ 64
unfolding mark_of
mark_fits before end d = digest_fits _

-- after a part of this length
pub drop_exact : (n : ℕ) (xs ys : List ℕ) → length xs ≡ n → drop n (xs ++ ys) ≡ ys
drop_exact n xs ys is = subst (λ k. drop k (xs ++ ys) ≡ ys) is (drop-append_seam xs ys)

pub take_exact : (n : ℕ) (xs ys : List ℕ) → length xs ≡ n → take n (xs ++ ys) ≡ xs
take_exact n xs ys is = subst (λ k. take k (xs ++ ys) ≡ xs) is (take-append_seam xs ys)

eight : (x : ℕ) → length (little_bytes 8 x) ≡ 8
eight x = length-bytes_low_first 0 8 x

-- the three numbers one after the other
parted : (e d m : ℕ) (rest : List ℕ) → three e d m ++ rest ≡ little_bytes 8 e ++ (little_bytes 8 d ++ (little_bytes 8 m ++ rest))
parted e d m rest =
    append_assoc (little_bytes 8 e ++ little_bytes 8 d) (little_bytes 8 m) rest ∙ append_assoc (little_bytes 8 e) (little_bytes 8 d) (little_bytes 8 m ++ rest)

pub length_three : (e d m : ℕ) → length (three e d m) ≡ 24
length_three e d m =
    length-append (little_bytes 8 e ++ little_bytes 8 d) (little_bytes 8 m)
    ∙ ap (λ n. n + length (little_bytes 8 m)) (length-append (little_bytes 8 e) (little_bytes 8 d))
    ∙ (let a = eight e in let b = eight d in let c = eight m in omega (arith, a, b, c))

first_back : (e d m : ℕ) (rest : List ℕ) → e < 2 ^ 64 → little_number 8 (three e d m ++ rest) ≡ e
first_back e d m rest fits = ap (little_number 8) (parted e d m rest) ∙ little_number-reads_back 8 e (little_bytes 8 d ++ (little_bytes 8 m ++ rest)) fits

second_back : (e d m : ℕ) (rest : List ℕ) → d < 2 ^ 64 → little_number 8 (drop 8 (three e d m ++ rest)) ≡ d
second_back e d m rest fits =
    ap (λ l. little_number 8 (drop 8 l)) (parted e d m rest)
    ∙ ap (little_number 8) (drop_exact 8 (little_bytes 8 e) (little_bytes 8 d ++ (little_bytes 8 m ++ rest)) (eight e)) ∙ little_number-reads_back 8 d (little_bytes 8 m ++ rest) fits

sixteen : (e d : ℕ) → length (little_bytes 8 e ++ little_bytes 8 d) ≡ 16
sixteen e d = length-append (little_bytes 8 e) (little_bytes 8 d) ∙ (let a = eight e in let b = eight d in omega (arith, a, b))

third_back : (e d m : ℕ) (rest : List ℕ) → m < 2 ^ 64 → little_number 8 (drop 16 (three e d m ++ rest)) ≡ m
third_back e d m rest fits =
    ap (λ l. little_number 8 (drop 16 l)) (append_assoc (little_bytes 8 e ++ little_bytes 8 d) (little_bytes 8 m) rest)
    ∙ ap (little_number 8) (drop_exact 16 (little_bytes 8 e ++ little_bytes 8 d) (little_bytes 8 m ++ rest) (sixteen e d)) ∙ little_number-reads_back 8 m rest fits

same_sum : (a b c e d m : ℕ) → a ≡ e → b ≡ d → c ≡ m →
    (let left : Sum = record { end = a; digest = b; mark = c } in let right : Sum = record { end = e; digest = d; mark = m } in left ≡ right)
same_sum a b c e d m p q r = rw (p, q, r) refl

-- a sum that fits its cells
pub read_back : (s : Sum) (rest : List ℕ) → s.end < 2 ^ 64 → s.digest < 2 ^ 64 → s.mark < 2 ^ 64 → sum_in (sum_bytes s ++ rest) ≡ s
read_back s rest p q r =
    same_sum _ _ _ s.end s.digest s.mark (first_back s.end s.digest s.mark rest p) (second_back s.end s.digest s.mark rest q) (third_back s.end s.digest s.mark rest r)

-- what stands after it
pub behind_sum : (s : Sum) (rest : List ℕ) → drop 24 (sum_bytes s ++ rest) ≡ rest
behind_sum s rest = drop_exact 24 (sum_bytes s) rest (length_three s.end s.digest s.mark)
