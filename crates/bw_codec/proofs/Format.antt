-- A format: what is read from the front of bytes was spelled there, and what is spelled is read again.

use Rattle.std.proofs.Common.{◌≡◌, ℕ, zero, suc, ◌+◌, ◌*◌, ◌/◌, ◌%◌, ◌^◌, ◌<◌, ◌≤◌, ◌==◌, Bool, true, false, if◌then◌else◌, Option, Some, None, List}
use Rattle.std.proofs.Common.{[], ◌∷◌, ◌++◌}
use Rattle.std.proofs.Common.{length, take, drop, nat_lt, inl, inr, refl, sym, ap, subst, ◌∙◌, append_assoc, arith, length-append, length-take}
use Rattle.std.proofs.lemmas.List.{take-append-drop, take_at, drop_at, get_or-append-add, get_or-take, get_or_past, length-take-le}
use Rattle.std.proofs.lemmas.Bool.{ltb-false, le-ltb, cases_lt}
use Rattle.std.proofs.Math.Nat.{pow-succ', div-div-eq-div-mul}
use Rattle.std.specs.Int.{byte_at, bytes_low_first}
use Rattle.byteorder.specs.Endian.{little_from, little_number}
use Rattle.byteorder.specs.Numbers.{little_from-cons, little_from-take, little_from-lt, little_number-reads_back, length-bytes_low_first}
use Rattle.bw_record.specs.Version.{value_limit, value_width}
use Rattle.bw_codec.specs.Bytes.{number_bytes, text, value_bytes}
use Rattle.bw_record.specs.Keys.{IsBytes}
use Rattle.bw_codec.specs.Reading.{Found, ◌>>=◌, number_at, run_at, text_at, value_at}

-- what was taken from the front
pub record Takes {X : Type 0} (spell : X → List ℕ) (Law : X → Type 0) (bytes : List ℕ) (x : X) (rest : List ℕ) : Type 0 where
  pub parts : bytes ≡ spell x ++ rest
  pub lawful : Law x
  pub others : IsBytes rest

pub record IsFormat {X : Type 0} (spell : X → List ℕ) (Law : X → Type 0) (read : List ℕ → Found X) : Type 0 where
  pub takes : (bytes : List ℕ) (x : X) (rest : List ℕ) → IsBytes bytes → read bytes ≡ Some (x, rest) → Takes spell Law bytes x rest
  pub again : (x : X) (rest : List ℕ) → Law x → read (spell x ++ rest) ≡ Some (x, rest)

-- ---- bytes

pub bytes_behind : (xs ys : List ℕ) → IsBytes (xs ++ ys) → IsBytes ys
bytes_behind xs ys fits i = subst (λ n. n < 256) (get_or-append-add xs ys i 0) (fits (length xs + i))

pub bytes_after : (bytes xs ys : List ℕ) → bytes ≡ xs ++ ys → IsBytes bytes → IsBytes ys
bytes_after bytes xs ys parts fits = bytes_behind xs ys (subst (λ (bs : List ℕ). IsBytes bs) parts fits)

pub bytes_before : (n : ℕ) (bytes : List ℕ) → IsBytes bytes → IsBytes (take n bytes)
bytes_before n bytes fits i =
    elim (cases_lt i n) [
      | inl inside ↦ subst (λ (b : ℕ). b < 256) (sym (get_or-take n bytes i 0 inside)) (fits i)
      | inr beyond ↦ subst (λ (b : ℕ). b < 256) (sym (get_or_past (take n bytes) i 0 (omega (arith, length-take n bytes)))) (omega arith)
    ]

-- ---- steps of a reading

pub found : {A : Type 0} {a b : A} → Some a ≡ Some b → a ≡ b
found e = cc

pub takes_as : {X : Type 0} (spell : X → List ℕ) (Law : X → Type 0) (bytes : List ℕ) (a b : X × List ℕ) → a ≡ b → Takes spell Law bytes a.0 a.1
    → Takes spell Law bytes b.0 b.1
takes_as {X} spell Law bytes a b e t = subst (λ (p : X × List ℕ). Takes spell Law bytes p.0 p.1) e t

pub bind_some : {A B : Type 0} (m : Option A) (f : A → Option B) (y : B) → (m >>= f) ≡ Some y → (a : A) × (m ≡ Some a) × (f a ≡ Some y)
bind_some None f y e = absurd cc
bind_some (Some a) f y e = (a, refl, e)

-- a test that lets nothing pass where it holds
pub passed : {A : Type 0} (t : Bool) (w : Option A) (y : A) → (if t then None else w) ≡ Some y → (t ≡ false) × (w ≡ Some y)
passed true w y e = absurd cc
passed false w y e = (refl, e)

-- a test that lets nothing pass where it does not hold
pub held : {A : Type 0} (t : Bool) (w : Option A) (y : A) → (if t then w else None) ≡ Some y → (t ≡ true) × (w ≡ Some y)
held true w y e = (refl, e)
held false w y e = absurd cc

pub then_parts : (bytes a b r s : List ℕ) → bytes ≡ a ++ r → r ≡ b ++ s → bytes ≡ (a ++ b) ++ s
then_parts bytes a b r s first next = first ∙ ap (λ (x : List ℕ). a ++ x) next ∙ sym (append_assoc a b s)

pub again_on : {X : Type 0} (spell : X → List ℕ) (Law : X → Type 0) (read : List ℕ → Found X) → IsFormat spell Law read → (x : X) (more rest : List ℕ) → Law x
    → read ((spell x ++ more) ++ rest) ≡ Some (x, more ++ rest)
again_on spell Law read format x more rest law = ap read (append_assoc (spell x) more rest) ∙ format.again x (more ++ rest) law

-- ---- numbers

-- a byte further on is a byte of the number divided
byte_further : (j x : ℕ) → byte_at (suc j) x ≡ byte_at j (x / 256)
byte_further zero x = refl
byte_further (suc j) x = ap (λ (y : ℕ). y % 256) (ap (λ (p : ℕ). x / p) (pow-succ' 256 (suc j)) ∙ sym (div-div-eq-div-mul x 256 (256 ^ suc j)))

bytes_further : (n j x : ℕ) → bytes_low_first (suc j) n x ≡ bytes_low_first j n (x / 256)
bytes_further zero j x = refl
bytes_further (suc n) j x = rw (byte_further j x, bytes_further n (suc j) x) refl

-- the bytes of the number in bytes are these bytes
bytes_of_number : (n : ℕ) (xs : List ℕ) → length xs ≡ n → IsBytes xs → bytes_low_first 0 n (little_from 0 n xs) ≡ xs
bytes_of_number zero [] e fits = refl
bytes_of_number zero (x ∷ xs) e fits = absurd cc
bytes_of_number (suc n) [] e fits = absurd cc
bytes_of_number (suc n) (x ∷ xs) e fits =
    let v = little_from 0 n xs in
    let small : x < 256 = fits 0 in
    let whole : little_from 0 (suc n) (x ∷ xs) ≡ x + 256 * v = ap (λ (r : ℕ). x + 256 * r) (little_from-cons 0 n x xs) in
    let low : (x + 256 * v) % 256 ≡ x = omega arith in
    let high : (x + 256 * v) / 256 ≡ v = omega arith in
    let others : bytes_low_first 0 n v ≡ xs = bytes_of_number n xs (omega arith) (λ i. fits (suc i)) in
    rw (whole, low, bytes_further n 0 (x + 256 * v), high, others) refl

pub number_there : (n : ℕ) (bytes : List ℕ) → n ≤ length bytes → IsBytes bytes
    → Takes (number_bytes n) (λ x. x < 256 ^ n) bytes (little_number n bytes) (drop n bytes)
unfolding number_bytes
number_there n bytes long fits =
    let front : length (take n bytes) ≡ n = length-take-le n bytes long in
    let spelled : number_bytes n (little_number n bytes) ≡ take n bytes =
    ap (λ (x : ℕ). bytes_low_first 0 n x) (sym (little_from-take 0 n n bytes (omega arith)))
    ∙ bytes_of_number n (take n bytes) front (bytes_before n bytes fits) in
    let parts : bytes ≡ number_bytes n (little_number n bytes) ++ drop n bytes =
    sym (take-append-drop n bytes) ∙ ap (λ (r : List ℕ). r ++ drop n bytes) (sym spelled) in
    record {
      parts = parts;
      lawful = little_from-lt 0 n bytes fits;
      others = bytes_after bytes (number_bytes n (little_number n bytes)) (drop n bytes) parts fits;
    }

number_takes : (n : ℕ) (bytes : List ℕ) (x : ℕ) (rest : List ℕ) → IsBytes bytes → number_at n bytes ≡ Some (x, rest)
    → Takes (number_bytes n) (λ x. x < 256 ^ n) bytes x rest
number_takes n bytes x rest fits read =
    let p = passed (nat_lt (length bytes) n) (Some (little_number n bytes, drop n bytes)) (x, rest) read in
    takes_as (number_bytes n) (λ x. x < 256 ^ n) bytes (little_number n bytes, drop n bytes) (x, rest) (found p.1)
    (number_there n bytes (ltb-false (length bytes) n p.0) fits)

number_again : (n x : ℕ) (rest : List ℕ) → x < 256 ^ n → number_at n (number_bytes n x ++ rest) ≡ Some (x, rest)
unfolding number_bytes
number_again n x rest law =
    let size = length-bytes_low_first 0 n x in
    let long : nat_lt (length (number_bytes n x ++ rest)) n ≡ false =
    le-ltb (length (number_bytes n x ++ rest)) n (omega (arith, size, length-append (number_bytes n x) rest)) in
    rw (long, little_number-reads_back n x rest law, drop_at (number_bytes n x) rest n size) refl

pub number_reads : (n x : ℕ) (rest : List ℕ) → x < 256 ^ n → little_number n (number_bytes n x ++ rest) ≡ x
unfolding number_bytes
number_reads n x rest law = little_number-reads_back n x rest law

pub number_format : (n : ℕ) → IsFormat (number_bytes n) (λ x. x < 256 ^ n) (number_at n)
number_format n = record { takes = number_takes n; again = number_again n }

-- ---- runs of bytes

-- a run of bytes of a length within bounds
abbrev pub IsRun : ℕ → ℕ → List ℕ → Type 0
IsRun low high x = (low ≤ length x) × (length x ≤ high)

run_takes : (bytes x rest : List ℕ) → run_at bytes ≡ Some (x, rest) → bytes ≡ text x ++ rest
run_takes [] x rest read = absurd cc
run_takes (n ∷ bytes) x rest read =
    let p = passed (nat_lt (length bytes) n) (Some (take n bytes, drop n bytes)) (x, rest) read in
    let long : n ≤ length bytes = ltb-false (length bytes) n p.0 in
    let there : n ∷ bytes ≡ text (take n bytes) ++ drop n bytes = rw (length-take-le n bytes long, take-append-drop n bytes) refl in
    subst (λ (r : List ℕ × List ℕ). n ∷ bytes ≡ text r.0 ++ r.1) (found p.1) there

pub run_again : (x rest : List ℕ) → run_at (text x ++ rest) ≡ Some (x, rest)
run_again x rest =
    let long : nat_lt (length (x ++ rest)) (length x) ≡ false = le-ltb (length (x ++ rest)) (length x) (omega (arith, length-append x rest)) in
    rw (long, take_at x rest (length x) refl, drop_at x rest (length x) refl) refl

text_takes : (low high : ℕ) (bytes x rest : List ℕ) → IsBytes bytes → text_at low high bytes ≡ Some (x, rest) → Takes text (IsRun low high) bytes x rest
unfolding text_at
text_takes low high bytes x rest fits read =
    let run = bind_some (run_at bytes) (λ run. if nat_lt (length run.0) low then None else if nat_lt high (length run.0) then None else Some
    run) (x, rest) read in
    let above = passed (nat_lt (length run.0.0) low) (if nat_lt high (length run.0.0) then None else Some run.0) (x, rest) run.2 in
    let below = passed (nat_lt high (length run.0.0)) (Some run.0) (x, rest) above.1 in
    let parts = run_takes bytes run.0.0 run.0.1 run.1 in
    takes_as text (IsRun low high) bytes run.0 (x, rest) (found below.1)
    (record {
      parts = parts;
      lawful = (ltb-false (length run.0.0) low above.0, ltb-false high (length run.0.0) below.0);
      others = bytes_after bytes (text run.0.0) run.0.1 parts fits;
    })

text_again : (low high : ℕ) (x rest : List ℕ) → IsRun low high x → text_at low high (text x ++ rest) ≡ Some (x, rest)
unfolding text_at
text_again low high x rest law =
    rw (run_again x rest, le-ltb (length x) low law.0, le-ltb high (length x) law.1) refl

pub text_format : (low high : ℕ) → IsFormat text (IsRun low high) (text_at low high)
text_format low high = record { takes = text_takes low high; again = text_again low high }

-- ---- values

-- a value's length goes into its bytes
pub size_small : (v : ℕ) → value_limit v < 256 ^ value_width v
size_small v = elim (v == 1) as (λ t. (if t then 128 else 512) < 256 ^ (if t then 1 else 2)) [ true ↦ omega arith | false ↦ omega arith ]

abbrev pub IsValue : ℕ → List ℕ → Type 0
IsValue v x = length x ≤ value_limit v

value_takes : (v : ℕ) (bytes x rest : List ℕ) → IsBytes bytes → value_at v bytes ≡ Some (x, rest) → Takes (value_bytes v) (IsValue v) bytes x rest
unfolding value_at
value_takes v bytes x rest fits read =
    let n = bind_some (number_at (value_width v) bytes) (λ size. if nat_lt (value_limit v) size.0 then None else if nat_lt (length size.1) size.0 then None
    else Some (take size.0 size.1, drop size.0 size.1)) (x, rest) read in
    let number = (number_format (value_width v)).takes bytes n.0.0 n.0.1 fits n.1 in
    let below = passed (nat_lt (value_limit v) n.0.0) (if nat_lt (length n.0.1) n.0.0 then None else Some (take n.0.0 n.0.1, drop n.0.0 n.0.1)) (x, rest) n.2 in
    let there = passed (nat_lt (length n.0.1) n.0.0) (Some (take n.0.0 n.0.1, drop n.0.0 n.0.1)) (x, rest) below.1 in
    let long : n.0.0 ≤ length n.0.1 = ltb-false (length n.0.1) n.0.0 there.0 in
    let size : length (take n.0.0 n.0.1) ≡ n.0.0 = length-take-le n.0.0 n.0.1 long in
    let front : bytes ≡ number_bytes (value_width v) (length (take n.0.0 n.0.1)) ++ n.0.1 =
    number.parts ∙ ap (λ (k : ℕ). number_bytes (value_width v) k ++ n.0.1) (sym size) in
    let parts : bytes ≡ value_bytes v (take n.0.0 n.0.1) ++ drop n.0.0 n.0.1 =
    then_parts bytes (number_bytes (value_width v) (length (take n.0.0 n.0.1))) (take n.0.0 n.0.1) n.0.1 (drop n.0.0 n.0.1) front
    (sym (take-append-drop n.0.0 n.0.1)) in
    takes_as (value_bytes v) (IsValue v) bytes (take n.0.0 n.0.1, drop n.0.0 n.0.1) (x, rest) (found there.1)
    (record {
      parts = parts;
      lawful = subst (λ (k : ℕ). k ≤ value_limit v) (sym size) (ltb-false (value_limit v) n.0.0 below.0);
      others = bytes_after bytes (value_bytes v (take n.0.0 n.0.1)) (drop n.0.0 n.0.1) parts fits;
    })

-- a value's length fits its width, and the value is there
pub value_sizes : (v : ℕ) (x rest : List ℕ) → IsValue v x → (length x < 256 ^ value_width v) × (nat_lt (length (x ++ rest)) (length x) ≡ false)
value_sizes v x rest law = ((let all = size_small v in omega arith), le-ltb (length (x ++ rest)) (length x) (omega (arith, length-append x rest)))

value_again : (v : ℕ) (x rest : List ℕ) → IsValue v x → value_at v (value_bytes v x ++ rest) ≡ Some (x, rest)
unfolding value_at
value_again v x rest law =
    let sizes = value_sizes v x rest law in
    rw (
      again_on (number_bytes (value_width v)) (λ n. n < 256 ^ value_width v) (number_at (value_width v)) (number_format (value_width v)) (length x) x
          rest sizes.0,
      le-ltb (value_limit v) (length x) law,
      sizes.1,
      take_at x rest (length x) refl,
      drop_at x rest (length x) refl,
    ) refl

pub value_format : (v : ℕ) → IsFormat (value_bytes v) (IsValue v) (value_at v)
value_format v = record { takes = value_takes v; again = value_again v }
