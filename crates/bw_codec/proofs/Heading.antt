-- What stands at the front of a segment: a header, a part of one, or neither.

use Rattle.std.proofs.Common.{◌≡◌, ℕ, ◌+◌, ◌^◌, ◌<◌, ◌≤◌, ◌==◌, ◌&&◌, ◌||◌, ◌⊎◌, inl, inr, Bool, true, false, if◌then◌else◌, List, ◌++◌, length, drop}
use Rattle.std.proofs.Common.{nat_lt, nat_le, refl, sym, ap}
use Rattle.std.proofs.Common.{subst, ◌∙◌, append_assoc, arith, length-append, length-drop}
use Rattle.std.proofs.lemmas.Bool.{ltb-false, ltb-true, le-ltb, lt-ltb, leb-true, le-leb, eqb-true, and_parts, and_from}
use Rattle.std.proofs.lemmas.List.{drop_at, drop-drop, append_cancel_left}
use Rattle.byteorder.specs.Endian.{little_number}
use Rattle.bw_record.specs.Version.{least_limit, greatest_limit}
use Rattle.bw_codec.specs.Bytes.{number_bytes}
use Rattle.bw_record.specs.Keys.{IsBytes}
use Rattle.bw_codec.specs.Grammar.{segment_word, header_bytes, agrees, is_header, AgreesIn, IsHeader, IsPart, IsHeading}
use Rattle.bw_codec.specs.Laws.{OneHeaderSpelling}
use Rattle.bw_codec.specs.Reading.{version_in, header_in, heading_of}
use Rattle.bw_codec.specs.declared.head.Header.{Header}
use Rattle.bw_codec.specs.declared.head.HeaderRead.{HeaderRead}
use Rattle.bw_codec.specs.declared.head.HeaderRead.TheVariants as heading
use Rattle.bw_codec.proofs.Format.{bytes_after, then_parts, number_there, number_reads}
use Rattle.bw_codec.proofs.FrontFormat.{agrees_begins, agrees_whole, length-number}

-- ---- the tests

-- a number of a format
known : (v : ℕ) → (v == 1 || v == 2) ≡ true → (v ≡ 1) ⊎ (v ≡ 2)
known v is =
    elim (v == 1) as (λ t. (v == 1) ≡ t → (t || v == 2) ≡ true → (v ≡ 1) ⊎ (v ≡ 2)) [
      | true ↦ λ one _. inl (eqb-true v 1 one)
      | false ↦ λ _ two. inr (eqb-true v 2 two)
    ] refl is

is_one : (v : ℕ) → (v ≡ 1) ⊎ (v ≡ 2) → (v == 1 || v == 2) ≡ true
is_one v (inl one) = subst (λ (k : ℕ). (k == 1 || k == 2) ≡ true) (sym one) refl
is_one v (inr two) = subst (λ (k : ℕ). (k == 1 || k == 2) ≡ true) (sym two) refl

-- bytes that begin with a format's word are of that format
of_version : (v : ℕ) (rest : List ℕ) → (v ≡ 1) ⊎ (v ≡ 2) → version_in (segment_word v ++ rest) ≡ v
of_version v rest (inl one) = subst (λ (k : ℕ). version_in (segment_word k ++ rest) ≡ k) (sym one) refl
of_version v rest (inr two) = subst (λ (k : ℕ). version_in (segment_word k ++ rest) ≡ k) (sym two) refl

-- bytes agree with either word where they agree with the one of their version
either_word : (bytes : List ℕ) → agrees bytes (segment_word (version_in bytes)) ≡ true → AgreesIn 1 bytes ⊎ AgreesIn 2 bytes
either_word bytes word =
    elim (agrees bytes (segment_word 1)) as (λ t. agrees bytes (segment_word 1) ≡ t
    → agrees bytes (segment_word (if t then 1 else 2)) ≡ true → AgreesIn 1 bytes ⊎ AgreesIn 2 bytes) [
      | true ↦ λ one _. inl one
      | false ↦ λ _ two. inr two
    ] refl word

word_agrees : (bytes : List ℕ) → AgreesIn 1 bytes ⊎ AgreesIn 2 bytes → agrees bytes (segment_word (version_in bytes)) ≡ true
word_agrees bytes (inl one) = ap (λ (t : Bool). agrees bytes (segment_word (if t then 1 else 2))) one ∙ one
word_agrees bytes (inr two) =
    elim (agrees bytes (segment_word 1)) as (λ t. agrees bytes (segment_word 1) ≡ t
    → agrees bytes (segment_word (if t then 1 else 2)) ≡ true) [
      | true ↦ λ one. one
      | false ↦ λ _. two
    ] refl

tested : (h : Header) → is_header h ≡ true → h.number < 2 ^ 64 → IsHeader h
tested h is number =
    let is_known = h.version == 1 || h.version == 2 in
    let a = and_parts (is_known && nat_lt 0 h.number && nat_le 4 h.m && nat_le h.m 32 && nat_le (least_limit h.version) h.f)
    (nat_le h.f (greatest_limit h.version)) is in
    let b = and_parts (is_known && nat_lt 0 h.number && nat_le 4 h.m && nat_le h.m 32) (nat_le (least_limit h.version) h.f) a.0 in
    let c = and_parts (is_known && nat_lt 0 h.number && nat_le 4 h.m) (nat_le h.m 32) b.0 in
    let d = and_parts (is_known && nat_lt 0 h.number) (nat_le 4 h.m) c.0 in
    let e = and_parts is_known (nat_lt 0 h.number) d.0 in
    record {
      version = known h.version e.0;
      number = (ltb-true 0 h.number e.1, number);
      m = (leb-true 4 h.m d.1, leb-true h.m 32 c.1);
      f = (leb-true (least_limit h.version) h.f b.1, leb-true h.f (greatest_limit h.version) a.1);
    }

passes : (h : Header) → IsHeader h → is_header h ≡ true
passes h law =
    let is_known = h.version == 1 || h.version == 2 in
    and_from (is_known && nat_lt 0 h.number && nat_le 4 h.m && nat_le h.m 32 && nat_le (least_limit h.version) h.f) (nat_le h.f (greatest_limit h.version))
    (and_from (is_known && nat_lt 0 h.number && nat_le 4 h.m && nat_le h.m 32) (nat_le (least_limit h.version) h.f)
    (and_from (is_known && nat_lt 0 h.number && nat_le 4 h.m) (nat_le h.m 32)
    (and_from (is_known && nat_lt 0 h.number) (nat_le 4 h.m)
    (and_from is_known (nat_lt 0 h.number) (is_one h.version law.version) (lt-ltb 0 h.number law.number.0))
    (le-leb 4 h.m law.m.0))
    (le-leb h.m 32 law.m.1))
    (le-leb (least_limit h.version) h.f law.f.0))
    (le-leb h.f (greatest_limit h.version) law.f.1)

-- ---- a header is spelled where one is read

-- a number stands at an offset, and more bytes after it
number_at_offset : (n k j : ℕ) (bytes : List ℕ) → k + n ≡ j → j ≤ length bytes → IsBytes (drop k bytes)
    → (drop k bytes ≡ number_bytes n (little_number n (drop k bytes)) ++ drop j bytes) × (little_number n (drop k bytes) < 256 ^ n) × IsBytes (drop j bytes)
number_at_offset n k j bytes at long fits =
    let there = number_there n (drop k bytes) (omega (arith, length-drop k bytes)) fits in
    let next : drop n (drop k bytes) ≡ drop j bytes = drop-drop n k bytes ∙ ap (λ (i : ℕ). drop i bytes) at in
    (there.parts ∙ ap (λ (r : List ℕ). number_bytes n (little_number n (drop k bytes)) ++ r) next, there.lawful, subst IsBytes next there.others)

header_there : (bytes : List ℕ) → IsBytes bytes → 24 ≤ length bytes → agrees bytes (segment_word (version_in bytes)) ≡ true
    → little_number 2 (drop 18 bytes) ≡ 0
    → is_header (header_in bytes) ≡ true
    → IsHeader (header_in bytes) × (bytes ≡ header_bytes (header_in bytes) ++ drop 24 bytes)
header_there bytes fits long word zero is =
    let front : bytes ≡ segment_word (version_in bytes) ++ drop 8 bytes = agrees_begins (segment_word (version_in bytes)) bytes (omega arith) word in
    let number = number_at_offset 8 8 16 bytes refl (omega arith) (bytes_after bytes (segment_word (version_in bytes)) (drop 8 bytes) front fits) in
    let m = number_at_offset 2 16 18 bytes refl (omega arith) number.2 in
    let none = number_at_offset 2 18 20 bytes refl (omega arith) m.2 in
    let f = number_at_offset 4 20 24 bytes refl long none.2 in
    let h = header_in bytes in
    let none_parts : drop 18 bytes ≡ number_bytes 2 0 ++ drop 20 bytes = none.0 ∙ ap (λ (x : ℕ). number_bytes 2 x ++ drop 20 bytes) zero in
    let p3 = then_parts (drop 18 bytes) (number_bytes 2 0) (number_bytes 4 h.f) (drop 20 bytes) (drop 24 bytes) none_parts f.0 in
    let p2 = then_parts (drop 16 bytes) (number_bytes 2 h.m) (number_bytes 2 0 ++ number_bytes 4 h.f) (drop 18 bytes) (drop 24 bytes) m.0 p3 in
    let p1 = then_parts (drop 8 bytes) (number_bytes 8 h.number) (number_bytes 2 h.m ++ (number_bytes 2 0 ++ number_bytes 4 h.f)) (drop 16 bytes)
    (drop 24 bytes) number.0 p2 in (
      tested h is number.1,
      then_parts bytes (segment_word (version_in bytes)) (number_bytes 8 h.number ++ (number_bytes 2 h.m ++ (number_bytes 2 0 ++ number_bytes 4 h.f)))
          (drop 8 bytes) (drop 24 bytes) front p1,
    )

-- ---- a header is read where one is spelled

pub length-header : (h : Header) → length (header_bytes h) ≡ 24
length-header h =
    omega (
      arith,
      length-number 8 h.number,
      length-number 2 h.m,
      length-number 2 0,
      length-number 4 h.f,
      length-append (number_bytes 8 h.number) (number_bytes 2 h.m ++ (number_bytes 2 0 ++ number_bytes 4 h.f)),
      length-append (number_bytes 2 h.m) (number_bytes 2 0 ++ number_bytes 4 h.f),
      length-append (number_bytes 2 0) (number_bytes 4 h.f),
    )

-- what follows a number at an offset
behind_number : (n x k j : ℕ) (bytes rest : List ℕ) → k + n ≡ j → drop k bytes ≡ number_bytes n x ++ rest → drop j bytes ≡ rest
behind_number n x k j bytes rest at there =
    ap (λ (i : ℕ). drop i bytes) (sym at) ∙ sym (drop-drop n k bytes) ∙ ap (λ (r : List ℕ). drop n r) there
    ∙ drop_at (number_bytes n x) rest n (length-number n x)

-- each frame limit has a number of four bytes
limited : (v : ℕ) → greatest_limit v < 256 ^ 4
limited v = elim (v == 1) as (λ t. (if t then 65536 else 262144) < 256 ^ 4) [ true ↦ omega arith | false ↦ omega arith ]

header_in_is : (h : Header) (rest : List ℕ) → IsHeader h → (header_in (header_bytes h ++ rest) ≡ h) × (little_number 2 (drop 18 (header_bytes h ++ rest)) ≡ 0)
header_in_is h rest law =
    let bytes = header_bytes h ++ rest in
    let r3 = number_bytes 4 h.f ++ rest in
    let r2 = number_bytes 2 0 ++ r3 in
    let r1 = number_bytes 2 h.m ++ r2 in
    let d8 : drop 8 bytes ≡ number_bytes 8 h.number ++ r1 =
    append_assoc (number_bytes 8 h.number) (number_bytes 2 h.m ++ (number_bytes 2 0 ++ number_bytes 4 h.f)) rest
    ∙ ap (λ (r : List ℕ). number_bytes 8 h.number ++ r)
    (append_assoc (number_bytes 2 h.m) (number_bytes 2 0 ++ number_bytes 4 h.f) rest
    ∙ ap (λ (r : List ℕ). number_bytes 2 h.m ++ r) (append_assoc (number_bytes 2 0) (number_bytes 4 h.f) rest)) in
    let d16 : drop 16 bytes ≡ r1 = behind_number 8 h.number 8 16 bytes r1 refl d8 in
    let d18 : drop 18 bytes ≡ r2 = behind_number 2 h.m 16 18 bytes r2 refl d16 in
    let d20 : drop 20 bytes ≡ r3 = behind_number 2 0 18 20 bytes r3 refl d18 in
    let number : little_number 8 (drop 8 bytes) ≡ h.number = ap (λ (r : List ℕ). little_number 8 r) d8 ∙ number_reads 8 h.number r1 law.number.1 in
    let m : little_number 2 (drop 16 bytes) ≡ h.m = ap (λ (r : List ℕ). little_number 2 r) d16 ∙ number_reads 2 h.m r2 (let b = law.m in omega arith) in
    let f : little_number 4 (drop 20 bytes) ≡ h.f = ap (λ (r : List ℕ). little_number 4 r) d20
    ∙ number_reads 4 h.f rest (let b = law.f.1 in let c = limited h.version in omega arith) in
    let version : version_in bytes ≡ h.version =
    of_version h.version ((number_bytes 8 h.number ++ (number_bytes 2 h.m ++ (number_bytes 2 0 ++ number_bytes 4 h.f))) ++ rest) law.version in
    let none : little_number 2 (drop 18 bytes) ≡ 0 = ap (λ (r : List ℕ). little_number 2 r) d18 ∙ number_reads 2 0 r3 (omega arith) in
    (λ i. record { version = version i; number = number i; m = m i; f = f i }, none)

-- a lawful header is read, whatever follows it
pub header_again : (h : Header) (rest : List ℕ) → IsHeader h → heading_of (header_bytes h ++ rest) ≡ heading.Whole h
unfolding heading_of
header_again h rest law =
    let bytes = header_bytes h ++ rest in
    let is = header_in_is h rest law in
    let long : nat_lt (length bytes) 24 ≡ false = le-ltb (length bytes) 24 (omega (arith, length-header h, length-append (header_bytes h) rest)) in
    let lawful : is_header (header_in bytes) ≡ true = ap is_header is.0 ∙ passes h law in
    let version : version_in bytes ≡ h.version = ap (λ (k : Header). k.version) is.0 in
    let word : agrees bytes (segment_word (version_in bytes)) ≡ true = ap (λ (k : ℕ). agrees bytes (segment_word k)) version
    ∙ agrees_whole (segment_word h.version)
    ((number_bytes 8 h.number ++ (number_bytes 2 h.m ++ (number_bytes 2 0 ++ number_bytes 4 h.f))) ++ rest) in
    rw (word, long, is.1, lawful, is.0) refl

-- numbers that are no lawful header
pub no_header_there : (h : Header) (bytes : List ℕ) → agrees bytes (segment_word (version_in bytes)) ≡ true → 24 ≤ length bytes
    → little_number 2 (drop 18 bytes) ≡ 0
    → h ≡ header_in bytes → is_header h ≡ false → heading.Bad ≡ heading_of bytes
unfolding heading_of
no_header_there h bytes word many zero is unlawful =
    let long : nat_lt (length bytes) 24 ≡ false = le-ltb (length bytes) 24 many in
    let bad : is_header (header_in bytes) ≡ false = ap is_header (sym is) ∙ unlawful in
    rw (word, long, zero, bad) refl

-- numbers that are a lawful header
pub header_told : (h : Header) (bytes : List ℕ) → agrees bytes (segment_word (version_in bytes)) ≡ true → 24 ≤ length bytes
    → little_number 2 (drop 18 bytes) ≡ 0
    → h ≡ header_in bytes → is_header h ≡ true → heading.Whole h ≡ heading_of bytes
unfolding heading_of
header_told h bytes word many zero is lawful =
    let long : nat_lt (length bytes) 24 ≡ false = le-ltb (length bytes) 24 many in
    let good : is_header (header_in bytes) ≡ true = ap is_header (sym is) ∙ lawful in
    rw (word, long, zero, good) (ap heading.Whole is)

pub one_header_spelling : OneHeaderSpelling
one_header_spelling a b x y law_a law_b same =
    let reads : heading.Whole a ≡ heading.Whole b = sym (header_again a x law_a) ∙ ap heading_of same ∙ header_again b y law_b in
    let headers : a ≡ b = cc in
    (headers, append_cancel_left (header_bytes b) x y (ap (λ (h : Header). header_bytes h ++ x) (sym headers) ∙ same))

part_again : (bytes : List ℕ) → IsPart bytes → heading_of bytes ≡ heading.Part
unfolding heading_of
part_again bytes part = rw (word_agrees bytes part.2, lt-ltb (length bytes) 24 part.1, lt-ltb 0 (length bytes) part.0) refl

-- ---- all together

bad_there : (bytes : List ℕ) → heading_of bytes ≡ heading.Bad → IsHeading bytes heading.Bad
bad_there bytes e = (
  λ h rest law parts. (let no : heading.Bad ≡ heading.Whole h = sym e ∙ ap heading_of parts ∙ header_again h rest law in cc),
  λ part. (let no : heading.Bad ≡ heading.Part = sym e ∙ part_again bytes part in cc),
)

-- the tests in turn, each with what it says
heading_there : (bytes : List ℕ) → IsBytes bytes → (read : HeaderRead) → heading_of bytes ≡ read → IsHeading bytes read
unfolding heading_of
heading_there bytes fits read e =
    let bad : heading.Bad ≡ read → IsHeading bytes read = λ b. subst (IsHeading bytes) b (bad_there bytes (e ∙ sym b)) in
    elim (agrees bytes (segment_word (version_in bytes))) as (λ t. agrees bytes (segment_word (version_in bytes)) ≡ t
    → (if t then (if nat_lt (length bytes) 24 then (if nat_lt 0 (length bytes) then heading.Part else heading.Bad) else if little_number 2 (drop 18 bytes)
    == 0 then (if is_header (header_in bytes) then heading.Whole (header_in bytes) else heading.Bad) else heading.Bad) else heading.Bad) ≡ read
    → IsHeading bytes read) [
      | false ↦ λ _ b. bad b
      | true ↦ λ word e1. elim (nat_lt (length bytes) 24) as
          (λ t. nat_lt (length bytes) 24 ≡ t → (if t then (if nat_lt 0 (length bytes) then heading.Part else heading.Bad) else if little_number 2
          (drop 18 bytes) == 0 then (if is_header (header_in bytes) then heading.Whole (header_in bytes) else heading.Bad) else heading.Bad) ≡ read
          → IsHeading bytes read) [
            | true ↦ λ short e2. elim (nat_lt 0 (length bytes)) as
                (λ t. nat_lt 0 (length bytes) ≡ t → (if t then heading.Part else heading.Bad) ≡ read → IsHeading bytes read) [
                  | false ↦ λ _ b. bad b
                  | true ↦ λ some part. subst (IsHeading bytes) part (ltb-true 0 (length bytes) some, ltb-true (length bytes) 24 short, either_word bytes word)
                ] refl e2
            | false ↦ λ long e2. elim (little_number 2 (drop 18 bytes) == 0) as
                (λ t. (little_number 2 (drop 18 bytes) == 0) ≡ t
                → (if t then (if is_header (header_in bytes) then heading.Whole (header_in bytes) else heading.Bad) else heading.Bad) ≡ read
                → IsHeading bytes read) [
                  | false ↦ λ _ b. bad b
                  | true ↦ λ none e3. elim (is_header (header_in bytes)) as
                      (λ t. is_header (header_in bytes) ≡ t → (if t then heading.Whole (header_in bytes) else heading.Bad) ≡ read → IsHeading bytes read) [
                        | false ↦ λ _ b. bad b
                        | true ↦ λ lawful whole. (
                            let there = header_there bytes fits (ltb-false (length bytes) 24 long) word
                            (eqb-true (little_number 2 (drop 18 bytes)) 0 none) lawful in
                            subst (IsHeading bytes) whole (there.0, drop 24 bytes, there.1))
                      ] refl e3
                ] refl e2
          ] refl e1
    ] refl e

-- what a header's test finds stands there
pub heading_is : (bytes : List ℕ) → IsBytes bytes → IsHeading bytes (heading_of bytes)
heading_is bytes fits = heading_there bytes fits (heading_of bytes) refl
