-- Bytes in order: a below b, and a up to b. All that is said of keys is said by these two words.

use Rattle.std.proofs.Common.{◌≡◌, ◌≢◌, ℕ, zero, suc, ◌*◌, ◌^◌, ◌<◌, ◌≤◌, ◌⊎◌, inl, inr, Bool, true, false, List, [], ◌∷◌, ◌++◌, length, drop, refl, sym, ap, ◌∙◌, arith}
use Rattle.std.proofs.lemmas.Bool.{true≢false}
use Rattle.std.proofs.lemmas.List.{append-nil}
use Rattle.std.proofs.Math.Nat.{mul-le-mul_right}
use Rattle.std.specs.Bool.{IsTrue}
use Rattle.std.specs.FinMap.{slice_cmp-IsAntisymmetric, nat_cmp-IsAntisymmetric}
use Rattle.std.specs.Ordering.{MatchOrdering, nat_cmp, is_lt, is_gt, is_eq, ordering_then, ordering_reverse}
use Rattle.std.specs.Cmp.{IsTotalOrder, ranked, upto, tied_itself}
use Rattle.std.specs.Cmp.Lexicographic.{slice_cmp, nat_list_cmp_total}
use Rattle.std.specs.declared.cmp.Ordering.{Ordering}
use Rattle.std.specs.declared.cmp.Ordering.TheVariants.{Less, Equal, Greater}
use Rattle.byteorder.specs.Endian.{big_from}
use Rattle.byteorder.specs.Numbers.{big_from-cons, big_from-lt}
use Rattle.bw_record.specs.Keys.{is_below, IsBytes}
use Rattle.bw_record.specs.Heads.{head}

abbrev Bytes : Type 0
Bytes = List ℕ

abbrev order : Bytes → Bytes → Ordering
order = slice_cmp nat_cmp

abbrev pub Below : Bytes → Bytes → Type 0
Below a b = is_below a b ≡ true

abbrev pub UpTo : Bytes → Bytes → Type 0
UpTo a b = is_below b a ≡ false

-- ---- tests

pub not_both : {X : Type 0} (b : Bool) → b ≡ true → b ≡ false → X
not_both b t f = absurd (true≢false (sym t ∙ f))

pub must_be : (b : Bool) → (b ≡ false → ⊥) → b ≡ true
must_be true h = refl
must_be false h = absurd (h refl)

pub must_not : (b : Bool) → (b ≡ true → ⊥) → b ≡ false
must_not false h = refl
must_not true h = absurd (h refl)

-- ---- the order

pub order-total : IsTotalOrder order
order-total = nat_list_cmp_total

-- only equal keys tie
pub order-same : (x y : Bytes) → order x y ≡ Equal → x ≡ y
order-same x y e = slice_cmp-IsAntisymmetric nat_cmp-IsAntisymmetric x y e

greater_reverse : (r : Ordering) → is_gt (ordering_reverse r) ≡ is_lt r
greater_reverse Less = refl
greater_reverse Equal = refl
greater_reverse Greater = refl

pub greater_is_below : (a b : Bytes) → is_gt (order a b) ≡ is_below b a
greater_is_below a b = ap is_gt (order-total.antisymm a b) ∙ greater_reverse (order b a)

pub is_less : (r : Ordering) → is_lt r ≡ true → r ≡ Less
is_less Less h = refl
is_less Equal h = cc
is_less Greater h = cc

less_not_greater : (r : Ordering) → is_lt r ≡ true → is_gt r ≡ false
less_not_greater r h = ap is_gt (is_less r h)

less_not_equal : (r : Ordering) → is_lt r ≡ true → is_eq r ≡ false
less_not_equal r h = ap is_eq (is_less r h)

greater_not_equal : (r : Ordering) → is_gt r ≡ true → is_eq r ≡ false
greater_not_equal Less h = cc
greater_not_equal Equal h = cc
greater_not_equal Greater h = refl

neither : (r : Ordering) → is_lt r ≡ false → is_gt r ≡ false → r ≡ Equal
neither Less h g = cc
neither Equal h g = refl
neither Greater h g = cc

tie : (r : Ordering) → is_eq r ≡ true → r ≡ Equal
tie Less h = cc
tie Equal h = refl
tie Greater h = cc

pub upto-trans : (a b c : Bytes) → UpTo a b → UpTo b c → UpTo a c
upto-trans a b c h k = sym (greater_is_below a c) ∙ upto order-total a b c (greater_is_below a b ∙ h) (greater_is_below b c ∙ k)

pub below-trans : (a b c : Bytes) → Below a b → Below b c → Below a c
below-trans a b c h k = ap is_lt (order-total.trans a b c (is_less _ h) (is_less _ k))

pub below_upto : (a b : Bytes) → Below a b → UpTo a b
below_upto a b h = sym (greater_is_below a b) ∙ less_not_greater _ h

pub upto-refl : (a : Bytes) → UpTo a a
upto-refl a = ap is_lt (tied_itself order-total a)

pub below-upto : (a b c : Bytes) → Below a b → UpTo b c → Below a c
below-upto a b c h k = must_be _ (λ f. not_both _ h (upto-trans b c a k f))

pub upto-below : (a b c : Bytes) → UpTo a b → Below b c → Below a c
upto-below a b c h k = must_be _ (λ f. not_both _ k (upto-trans c a b f h))

pub upto-antisymm : (a b : Bytes) → UpTo a b → UpTo b a → a ≡ b
upto-antisymm a b h k = order-same a b (neither _ k (greater_is_below a b ∙ h))

pub upto_empty : (a : Bytes) → UpTo [] a
upto_empty [] = refl
upto_empty (x ∷ xs) = refl

-- ---- ties

pub itself : (a : Bytes) → is_eq (order a a) ≡ true
itself a = ap is_eq (tied_itself order-total a)

pub tied : (a b : Bytes) → is_eq (order a b) ≡ true → a ≡ b
tied a b h = order-same a b (tie _ h)

-- different keys do not tie
pub apart : (a b : Bytes) → (a ≡ b → ⊥) → is_eq (order a b) ≡ false
apart a b h = must_not _ (λ t. h (tied a b t))

pub below_apart : (a b : Bytes) → Below a b → is_eq (order a b) ≡ false
below_apart a b h = less_not_equal _ h

pub above_apart : (a b : Bytes) → Below b a → is_eq (order a b) ≡ false
above_apart a b h = greater_not_equal _ (greater_is_below a b ∙ h)

-- a key up to another is below it, or they tie
pub upto_apart_below : (a b : Bytes) → UpTo b a → is_eq (order a b) ≡ false → Below b a
upto_apart_below a b h apart =
    must_be _ (λ f. not_both _ (ap (λ (k : Bytes). is_eq (order a k)) (upto-antisymm b a h f) ∙ itself a) apart)

-- ---- byte by byte

pub first_or_rest : (x y : ℕ) (xs ys : Bytes) → Below (x ∷ xs) (y ∷ ys) → (x < y) ⊎ ((x ≡ y) × Below xs ys)
first_or_rest x y xs ys b =
    elim (nat_cmp x y) as (λ o. MatchOrdering o (x < y) (x ≡ y) (y < x) → is_lt (ordering_then o (slice_cmp nat_cmp xs ys)) ≡ true
    → (x < y) ⊎ ((x ≡ y) × Below xs ys)) [
      | Less ↦ λ less h. inl less
      | Equal ↦ λ same h. inr (same, h)
      | Greater ↦ λ more h. absurd (cc)
    ] (ranked x y (nat_cmp x y) refl) b

pub below_first : (x y : ℕ) (xs ys : Bytes) → x < y → Below (x ∷ xs) (y ∷ ys)
below_first x y xs ys l =
    elim (nat_cmp x y) as (λ o. MatchOrdering o (x < y) (x ≡ y) (y < x) → is_lt (ordering_then o (slice_cmp nat_cmp xs ys)) ≡ true) [
      | Less ↦ λ less. refl
      | Equal ↦ λ same. absurd (omega arith)
      | Greater ↦ λ more. absurd (omega arith)
    ] (ranked x y (nat_cmp x y) refl)

pub same_first : (x y : ℕ) (xs ys : Bytes) → x ≡ y → is_below (x ∷ xs) (y ∷ ys) ≡ is_below xs ys
same_first x y xs ys e =
    elim (nat_cmp x y) as (λ o. MatchOrdering o (x < y) (x ≡ y) (y < x) → is_lt (ordering_then o (slice_cmp nat_cmp xs ys)) ≡ is_below xs ys) [
      | Less ↦ λ less. absurd (omega arith)
      | Equal ↦ λ same. refl
      | Greater ↦ λ more. absurd (omega arith)
    ] (ranked x y (nat_cmp x y) refl)

pub upto_same : (x y : ℕ) (xs ys : Bytes) → x ≡ y → UpTo xs ys → UpTo (x ∷ xs) (y ∷ ys)
upto_same x y xs ys e u = same_first y x ys xs (sym e) ∙ u

-- what is the same in front of two keys does not change their order
pub below_behind : (s a b : Bytes) → IsTrue (is_below a b) → IsTrue (is_below (s ++ a) (s ++ b))
below_behind [] a b below = below
below_behind (x ∷ s) a b below =
    elim (nat_cmp x x) as (λ o. MatchOrdering o (x < x) (x ≡ x) (x < x) → IsTrue (is_lt (ordering_then o (slice_cmp nat_cmp (s ++ a) (s ++ b))))) [
      | Less ↦ λ less. refl
      | Equal ↦ λ same. below_behind s a b below
      | Greater ↦ λ more. absurd (omega arith)
    ] (ranked x x (nat_cmp x x) refl)

-- a key above bytes that it does not begin with is above each key that does
pub above_beginning : (s a key : Bytes) → IsTrue (is_below s key) → ((rest : Bytes) → key ≢ s ++ rest) → IsTrue (is_below (s ++ a) key)
above_beginning [] a key below other = absurd (other key refl)
above_beginning (x ∷ s) a [] below other = cc
above_beginning (x ∷ s) a (y ∷ ys) below other =
    elim (nat_cmp x y) as (λ o. MatchOrdering o (x < y) (x ≡ y) (y < x) → IsTrue (is_lt (ordering_then o (slice_cmp nat_cmp s ys)))
    → IsTrue (is_lt (ordering_then o (slice_cmp nat_cmp (s ++ a) ys)))) [
      | Less ↦ λ less under. refl
      | Equal ↦ λ same under. above_beginning s a ys under (λ rest e. other rest cc)
      | Greater ↦ λ more under. cc
    ] (ranked x y (nat_cmp x y) refl) below

-- bytes are not above what they begin
beginning_upto : (s a : Bytes) → UpTo s (s ++ a)
beginning_upto [] [] = refl
beginning_upto [] (x ∷ xs) = refl
beginning_upto (x ∷ s) a =
    elim (nat_cmp x x) as (λ o. MatchOrdering o (x < x) (x ≡ x) (x < x) → is_lt (ordering_then o (slice_cmp nat_cmp (s ++ a) s)) ≡ false) [
      | Less ↦ λ less. absurd (omega arith)
      | Equal ↦ λ same. beginning_upto s a
      | Greater ↦ λ more. refl
    ] (ranked x x (nat_cmp x x) refl)

-- a key that does not begin with bytes, and is not above them, is below each key that begins with them
pub below_beginning : (s a key : Bytes) → UpTo key s → ((rest : Bytes) → key ≢ s ++ rest) → Below key (s ++ a)
below_beginning s a key upto other =
    below-upto key s (s ++ a) (upto_apart_below s key upto (must_not _ (λ e. other [] (sym (tied s key e) ∙ sym (append-nil s))))) (beginning_upto s a)

-- ---- heads

none : (i n : ℕ) → big_from i n [] ≡ 0
none i zero = refl
none i (suc n) = omega (arith, none (suc i) n)

-- a key whose head is below another's is below that key
pub below_by_head : (n : ℕ) (a b : Bytes) → IsBytes b → big_from 0 n a < big_from 0 n b → IsTrue (is_below a b)
below_by_head zero a b fits h = absurd (omega arith)
below_by_head (suc n) a [] fits h = absurd (omega (arith, none 0 (suc n)))
below_by_head (suc n) [] (y ∷ ys) fits h = refl
below_by_head (suc n) (x ∷ xs) (y ∷ ys) fits h =
    let behind : IsBytes ys = λ i. fits (suc i) in
    let a : big_from 1 n (x ∷ xs) ≡ big_from 0 n xs = big_from-cons 0 n x xs in
    let b : big_from 1 n (y ∷ ys) ≡ big_from 0 n ys = big_from-cons 0 n y ys in
    let small : big_from 0 n ys < 256 ^ n = big_from-lt 0 n ys behind in
    elim (nat_cmp x y) as (λ o. MatchOrdering o (x < y) (x ≡ y) (y < x) → IsTrue (is_lt (ordering_then o (slice_cmp nat_cmp xs ys)))) [
      | Less ↦ λ less. refl
      | Equal ↦ λ same. below_by_head n xs ys behind (let e : x * 256 ^ n ≡ y * 256 ^ n = ap (λ (z : ℕ). z * 256 ^ n) same in omega arith)
      | Greater ↦ λ more. absurd (let top : suc y * 256 ^ n ≤ x * 256 ^ n = mul-le-mul_right (256 ^ n) more in omega arith)
    ] (ranked x y (nat_cmp x y) refl)

pub below_by_heads : (a b : Bytes) → IsBytes b → head a < head b → Below a b
below_by_heads a b fits h = below_by_head 8 a b fits h

pub upto_by_heads : (a b : Bytes) → IsBytes b → head a < head b → UpTo a b
upto_by_heads a b fits h = below_upto a b (below_by_head 8 a b fits h)

-- what stands in front of two keys, and has one head, does not change their order
pub order_behind_head : (n : ℕ) (a b : Bytes) → IsBytes a → IsBytes b → n ≤ length a → n ≤ length b → big_from 0 n a ≡ big_from 0 n b
    → order (drop n a) (drop n b) ≡ order a b
order_behind_head zero a b ours theirs la lb same = refl
order_behind_head (suc n) [] b ours theirs la lb same = absurd (omega (arith, la))
order_behind_head (suc n) (x ∷ xs) [] ours theirs la lb same = absurd (omega (arith, lb))
order_behind_head (suc n) (x ∷ xs) (y ∷ ys) ours theirs la lb same =
    let a_behind : IsBytes xs = λ i. ours (suc i) in
    let b_behind : IsBytes ys = λ i. theirs (suc i) in
    let a_rest : big_from 1 n (x ∷ xs) ≡ big_from 0 n xs = big_from-cons 0 n x xs in
    let b_rest : big_from 1 n (y ∷ ys) ≡ big_from 0 n ys = big_from-cons 0 n y ys in
    let a_small : big_from 0 n xs < 256 ^ n = big_from-lt 0 n xs a_behind in
    let b_small : big_from 0 n ys < 256 ^ n = big_from-lt 0 n ys b_behind in
    elim (nat_cmp x y) as (λ o. MatchOrdering o (x < y) (x ≡ y) (y < x) → order (drop n xs) (drop n ys) ≡ ordering_then o (order xs ys)) [
      | Less ↦ λ less. absurd (let top : suc x * 256 ^ n ≤ y * 256 ^ n = mul-le-mul_right (256 ^ n) less in omega arith)
      | Equal ↦ λ first. order_behind_head n xs ys a_behind b_behind (omega (arith, la)) (omega (arith, lb)) (let e : x * 256 ^ n ≡ y * 256 ^ n = ap (λ (z : ℕ). z * 256 ^ n) first in omega arith)
      | Greater ↦ λ more. absurd (let top : suc y * 256 ^ n ≤ x * 256 ^ n = mul-le-mul_right (256 ^ n) more in omega arith)
    ] (ranked x y (nat_cmp x y) refl)

-- keys stand as their heads do, if these differ
pub order_by_heads : (a b : Bytes) → IsBytes a → IsBytes b → (head a ≡ head b → ⊥) → nat_cmp (head a) (head b) ≡ order a b
order_by_heads a b ours theirs differ =
    elim (nat_cmp (head a) (head b)) as (λ o. MatchOrdering o (head a < head b) (head a ≡ head b) (head b < head a) → o ≡ order a b) [
      | Less ↦ λ less. sym (is_less (order a b) (below_by_heads a b theirs less))
      | Equal ↦ λ same. absurd (differ same)
      | Greater ↦ λ more. sym (order-total.antisymm a b ∙ ap ordering_reverse (is_less (order b a) (below_by_heads b a ours more)))
    ] (ranked (head a) (head b) (nat_cmp (head a) (head b)) refl)

cmp_less : (m n : ℕ) → m < n → nat_cmp m n ≡ Less
cmp_less m n l =
    elim (nat_cmp m n) as (λ o. MatchOrdering o (m < n) (m ≡ n) (n < m) → o ≡ Less) [
      | Less ↦ λ less. refl
      | Equal ↦ λ same. absurd (omega arith)
      | Greater ↦ λ more. absurd (omega arith)
    ] (ranked m n (nat_cmp m n) refl)

cmp_greater : (m n : ℕ) → n < m → nat_cmp m n ≡ Greater
cmp_greater m n l =
    elim (nat_cmp m n) as (λ o. MatchOrdering o (m < n) (m ≡ n) (n < m) → o ≡ Greater) [
      | Less ↦ λ less. absurd (omega arith)
      | Equal ↦ λ same. absurd (omega arith)
      | Greater ↦ λ more. refl
    ] (ranked m n (nat_cmp m n) refl)

cmp_same : (m : ℕ) → nat_cmp m m ≡ Equal
cmp_same m =
    elim (nat_cmp m m) as (λ o. MatchOrdering o (m < m) (m ≡ m) (m < m) → o ≡ Equal) [
      | Less ↦ λ less. absurd (omega arith)
      | Equal ↦ λ same. refl
      | Greater ↦ λ more. absurd (omega arith)
    ] (ranked m m (nat_cmp m m) refl)

cmp_next : (m n : ℕ) → nat_cmp (suc m) (suc n) ≡ nat_cmp m n
cmp_next m n =
    elim (nat_cmp m n) as (λ o. MatchOrdering o (m < n) (m ≡ n) (n < m) → nat_cmp (suc m) (suc n) ≡ o) [
      | Less ↦ λ less. cmp_less (suc m) (suc n) (omega arith)
      | Equal ↦ λ same. ap (λ (k : ℕ). nat_cmp (suc m) (suc k)) (sym same) ∙ cmp_same (suc m)
      | Greater ↦ λ more. cmp_greater (suc m) (suc n) (omega arith)
    ] (ranked m n (nat_cmp m n) refl)

-- of two keys with one head, one of which is shorter than that, the shorter one is below the other
pub order_by_length : (n : ℕ) (a b : Bytes) → IsBytes a → IsBytes b → (n ≤ length a → length b < n) → big_from 0 n a ≡ big_from 0 n b
    → nat_cmp (length a) (length b) ≡ order a b
order_by_length zero a b ours theirs short same = absurd (let no = short (omega arith) in omega arith)
order_by_length (suc n) [] [] ours theirs short same = refl
order_by_length (suc n) [] (y ∷ ys) ours theirs short same = cmp_less 0 (suc (length ys)) (omega arith)
order_by_length (suc n) (x ∷ xs) [] ours theirs short same = cmp_greater (suc (length xs)) 0 (omega arith)
order_by_length (suc n) (x ∷ xs) (y ∷ ys) ours theirs short same =
    let a_behind : IsBytes xs = λ i. ours (suc i) in
    let b_behind : IsBytes ys = λ i. theirs (suc i) in
    let a_rest : big_from 1 n (x ∷ xs) ≡ big_from 0 n xs = big_from-cons 0 n x xs in
    let b_rest : big_from 1 n (y ∷ ys) ≡ big_from 0 n ys = big_from-cons 0 n y ys in
    let a_small : big_from 0 n xs < 256 ^ n = big_from-lt 0 n xs a_behind in
    let b_small : big_from 0 n ys < 256 ^ n = big_from-lt 0 n ys b_behind in
    let rest : n ≤ length xs → length ys < n = λ long. (let b_short = short (omega arith) in omega arith) in
    elim (nat_cmp x y) as (λ o. MatchOrdering o (x < y) (x ≡ y) (y < x) → nat_cmp (suc (length xs)) (suc (length ys)) ≡ ordering_then o (order xs ys)) [
      | Less ↦ λ less. absurd (let top : suc x * 256 ^ n ≤ y * 256 ^ n = mul-le-mul_right (256 ^ n) less in omega arith)
      | Equal ↦ λ first. cmp_next (length xs) (length ys) ∙ order_by_length n xs ys a_behind b_behind rest
          (let e : x * 256 ^ n ≡ y * 256 ^ n = ap (λ (z : ℕ). z * 256 ^ n) first in omega arith)
      | Greater ↦ λ more. absurd (let top : suc y * 256 ^ n ≤ x * 256 ^ n = mul-le-mul_right (256 ^ n) more in omega arith)
    ] (ranked x y (nat_cmp x y) refl)
