-- What a step of a reader of JSON adds to the text that it reads.

use Rattle.std.proofs.Common.{◌≡◌, ℕ, ◌<◌, ◌≤◌, Bool, true, false, cond, ◌&&◌, ◌==◌, nat_lt, List, [], ◌∷◌, ◌++◌, length, Option, Some, None, Result, Ok, Err, OnOk, OnErr, IfOk, IfSome, rules, refl, sym, ap, ◌∙◌, append_assoc, append-nil, subst, length-append, arith}
use Rattle.std.specs.Option.{option_map, option_and_then}
use Rattle.std.specs.Io.KnownBytes.{prepend_known}
use Rattle.std.proofs.lemmas.Bool.Decides.{nat_tests}
use Rattle.bw_pairs.specs.Json.{Found, onto, after, behind, text_of, behind_mark, unit_of, number_from, is_first_half, is_second_half, joined, lettered, escaped, lettered_onto, text_from}
use Rattle.bw_pairs.specs.Json.Within.{Letters, Escape, Number, Half}

-- ---- numbers

-- a text that begins with this number, which is one half of a letter, or all of it
abbrev pub numbered : ℕ × List ℕ → Option Found
numbered read = cond (is_first_half read.0) (text_from (Half read.0) read.1) (lettered_onto read.0 (text_from Letters read.1))

abbrev pub halved : ℕ → ℕ × List ℕ → Option Found
halved first read = cond (is_second_half read.0) (lettered_onto (joined first read.0) (text_from Letters read.1)) None

paired : (f : ℕ × List ℕ → Option Found) (rest : List ℕ) (o : Option ℕ)
    → option_and_then (λ unit. f (unit, rest)) o ≡ option_and_then f (option_map (λ unit. (unit, rest)) o)
paired f rest None = refl
paired f rest (Some unit) = refl

pub from_number : (line : List ℕ) → text_from Number line ≡ option_and_then numbered (number_from line)
from_number [] = refl
from_number (a ∷ []) = refl
from_number (a ∷ b ∷ []) = refl
from_number (a ∷ b ∷ c ∷ []) = refl
from_number (a ∷ b ∷ c ∷ d ∷ rest) = paired numbered rest (unit_of a b c d)

abbrev pub second : ℕ → List ℕ → Option Found
second first line = option_and_then (halved first) (number_from line)

abbrev no_text : Option Found
no_text = None

none : (b : Bool) → no_text ≡ cond b no_text no_text
none true = refl
none false = refl

pair : (first s u : ℕ) (rest : List ℕ)
    → text_from (Half first) (s ∷ u ∷ rest) ≡ cond ((s == 92) && (u == 117)) (second first rest) None
pair first s u [] = none _
pair first s u (a ∷ []) = none _
pair first s u (a ∷ b ∷ []) = none _
pair first s u (a ∷ b ∷ c ∷ []) = none _
pair first s u (a ∷ b ∷ c ∷ d ∷ rest) =
    ap (λ text. cond ((s == 92) && (u == 117)) text None) (paired (halved first) rest (unit_of a b c d))

marked : (p q : Bool) (first u : ℕ) (rest : List ℕ) → u == 117 ≡ q
    → cond (p && q) (second first rest) None ≡ option_and_then (second first) (option_and_then (behind 117) (cond p (Some (u ∷ rest)) None))
marked true true first u rest same = rw same refl
marked true false first u rest same = rw same refl
marked false q first u rest same = refl

single : (p : Bool) (first : ℕ)
    → no_text ≡ option_and_then (second first) (option_and_then (behind 117) (cond p (Some []) None))
single true first = refl
single false first = refl

pub from_half : (first : ℕ) (line : List ℕ) → text_from (Half first) line ≡ option_and_then (second first) (behind_mark line)
from_half first [] = refl
from_half first (s ∷ []) = single (s == 92) first
from_half first (s ∷ u ∷ rest) = pair first s u rest ∙ marked (s == 92) (u == 117) first u rest refl

-- what a half and a number after it are
pub halves : (first second code : ℕ) (old mark new : List ℕ) → behind_mark old ≡ Some mark → number_from mark ≡ Some (second, new)
    → is_second_half second ≡ true → code ≡ joined first second
    → text_from (Half first) old ≡ lettered_onto code (text_from Letters new)
halves first second code old mark new a b c d = from_half first old ∙ rw (a, b, c, d) refl

pub no_mark : (first : ℕ) (old : List ℕ) → behind_mark old ≡ None → text_from (Half first) old ≡ None
no_mark first old a = from_half first old ∙ rw a refl

pub no_number : (first : ℕ) (old mark : List ℕ) → behind_mark old ≡ Some mark → number_from mark ≡ None → text_from (Half first) old ≡ None
no_number first old mark a b = from_half first old ∙ rw (a, b) refl

pub no_half : (first second : ℕ) (old mark new : List ℕ) → behind_mark old ≡ Some mark → number_from mark ≡ Some (second, new)
    → is_second_half second ≡ false → text_from (Half first) old ≡ None
no_half first second old mark new a b c = from_half first old ∙ rw (a, b, c) refl

pub whole : (unit : ℕ) (old new : List ℕ) → number_from old ≡ Some (unit, new) → is_first_half unit ≡ false
    → text_from Number old ≡ lettered_onto unit (text_from Letters new)
whole unit old new a b = from_number old ∙ rw (a, b) refl

pub half : (unit : ℕ) (old new : List ℕ) → number_from old ≡ Some (unit, new) → is_first_half unit ≡ true
    → text_from Number old ≡ text_from (Half unit) new
half unit old new a b = from_number old ∙ rw (a, b) refl

pub no_unit : (old : List ℕ) → number_from old ≡ None → text_from Number old ≡ None
no_unit old a = from_number old ∙ rw a refl

abbrev numbered_to : List ℕ → ℕ → ℕ × List ℕ
numbered_to rest unit = (unit, rest)

shorter_number : (line new : List ℕ) (unit : ℕ) (rest : List ℕ) (o : Option ℕ) → option_map (numbered_to rest) o ≡ Some (unit, new)
    → length rest ≤ length line → length new ≤ length line
shorter_number line new unit rest None h le = cc h
shorter_number line new unit rest (Some n) h le =
    let pair : numbered_to rest n ≡ (unit, new) = cc h in
    let e : rest ≡ new = ap (λ (p : ℕ × List ℕ). p.1) pair in
    rw (← e) le

pub after_number : (line new : List ℕ) (unit : ℕ) → number_from line ≡ Some (unit, new) → length new ≤ length line
after_number [] new unit h = cc h
after_number (a ∷ []) new unit h = cc h
after_number (a ∷ b ∷ []) new unit h = cc h
after_number (a ∷ b ∷ c ∷ []) new unit h = cc h
after_number (a ∷ b ∷ c ∷ d ∷ rest) new unit h = shorter_number (a ∷ b ∷ c ∷ d ∷ rest) new unit rest (unit_of a b c d) h (omega arith)

shorter_behind : (p : Bool) (line rest new : List ℕ) → cond p (Some rest) None ≡ Some new → length rest ≤ length line → length new ≤ length line
shorter_behind true line rest new h le = let e : rest ≡ new = cc h in rw (← e) le
shorter_behind false line rest new h le = cc h

pub after_byte : (byte : ℕ) (line new : List ℕ) → behind byte line ≡ Some new → length new ≤ length line
after_byte byte [] new h = cc h
after_byte byte (first ∷ rest) new h = shorter_behind (first == byte) (first ∷ rest) rest new h (omega arith)

two : (line new : List ℕ) (o : Option (List ℕ)) → option_and_then (behind 117) o ≡ Some new
    → ((mid : List ℕ) → o ≡ Some mid → length mid ≤ length line) → length new ≤ length line
two line new None h le = cc h
two line new (Some mid) h le = omega (arith, after_byte 117 mid new h, le mid refl)

pub after_mark : (line new : List ℕ) → behind_mark line ≡ Some new → length new ≤ length line
after_mark line new h = two line new (behind 92 line) h (λ mid e. after_byte 92 line mid e)

-- ---- what was read, and a text after it

onto_onto : (held more : List ℕ) (o : Option Found) → onto (held ++ more) o ≡ onto held (onto more o)
onto_onto held more None = refl
onto_onto held more (Some text) =
    ap (λ (l : List ℕ). Some (record text { bytes = l })) (append_assoc held more text.bytes)

longer : (room : ℕ) (held more : List ℕ) (o : Option Found) → room < length (held ++ more)
    → IfSome (onto held (onto more o)) (λ all. room < length all.bytes)
longer room held more None h = search
longer room held more (Some text) h =
    omega (arith, h, length-append held more, length-append held (more ++ text.bytes), length-append more text.bytes)

lettered_ok : (held new : List ℕ) (o : Option (List ℕ)) (text : Option Found) → prepend_known held o ≡ Some new
    → onto held (option_and_then (λ letter. onto letter text) o) ≡ onto new text
lettered_ok held new None text h = cc h
lettered_ok held new (Some letter) text h =
    let e : held ++ letter ≡ new = cc h in
    sym (onto_onto held letter text) ∙ ap (λ l. onto l text) e

lettered_err : (room : ℕ) (held : List ℕ) (o : Option (List ℕ)) (text : Option Found)
    → IfSome (prepend_known held o) (λ all. room < length all)
    → IfSome (onto held (option_and_then (λ letter. onto letter text) o)) (λ all. room < length all.bytes)
lettered_err room held None text h = search
lettered_err room held (Some letter) text h = longer room held letter text h

pub number_ok : {E : Type 0} (r : Result Unit E) (held new old rest : List ℕ) (code : ℕ)
    → text_from Number old ≡ lettered_onto code (text_from Letters rest)
    → OnOk r (prepend_known held (lettered code) ≡ Some new)
    → OnOk r (onto held (text_from Number old) ≡ onto new (text_from Letters rest))
number_ok (Ok x) held new old rest code same h = ap (onto held) same ∙ lettered_ok held new (lettered code) (text_from Letters rest) h
number_ok (Err e) held new old rest code same h = search

pub number_err : {E : Type 0} (r : Result Unit E) (room : ℕ) (held old rest : List ℕ) (code : ℕ)
    → text_from Number old ≡ lettered_onto code (text_from Letters rest)
    → OnErr r (IfSome (prepend_known held (lettered code)) (λ all. room < length all))
    → OnErr r (IfSome (onto held (text_from Number old)) (λ all. room < length all.bytes))
number_err (Ok x) room held old rest code same h = search
number_err (Err e) room held old rest code same h =
    rw same (lettered_err room held (lettered code) (text_from Letters rest) h)

-- from here a byte is one of the text's
abbrev pub Adds : Option Found → ℕ → List ℕ → Type 0
Adds text byte rest = text ≡ onto (byte ∷ []) (text_from Letters rest)

pub came : {E : Type 0} (r : Result Unit E) (held new : List ℕ) (byte : ℕ) (text : Option Found) (rest : List ℕ)
    → OnOk r (new ≡ held ++ byte ∷ []) → Adds text byte rest → OnOk r (onto held text ≡ onto new (text_from Letters rest))
came (Ok x) held new byte text rest same adds =
    rw (adds, same) (sym (onto_onto held (byte ∷ []) (text_from Letters rest)))
came (Err e) held new byte text rest same adds = search

pub refused : {E : Type 0} (r : Result Unit E) (room : ℕ) (held : List ℕ) (byte : ℕ) (text : Option Found) (rest : List ℕ)
    → OnErr r (room ≤ length held) → Adds text byte rest
    → OnErr r (IfSome (onto held text) (λ all. room < length all.bytes))
refused (Ok x) room held byte text rest full adds = search
refused (Err e) room held byte text rest full adds =
    rw adds (longer room held (byte ∷ []) (text_from Letters rest) (omega (arith, full, length-append held (byte ∷ []))))

pub one_escaped : (letter byte : ℕ) (old rest : List ℕ) → old ≡ letter ∷ rest → letter == 117 ≡ false → escaped letter ≡ Some byte
    → Adds (text_from Escape old) byte rest
one_escaped letter byte old rest a b c = rw (a, b, c) refl

-- ---- a byte of a text that is no quote

pub escape_ok : {E : Type 0} (r : Result Unit E) (held new : List ℕ) (byte : ℕ) (old rest : List ℕ) → byte ≡ 92
    → OnOk r (onto held (text_from Escape old) ≡ onto new (text_from Letters rest))
    → OnOk r (byte == 34 ≡ false → onto held (text_from Letters (byte ∷ old)) ≡ onto new (text_from Letters rest))
escape_ok (Ok x) held new byte old rest is h = λ no. rw is h
escape_ok (Err e) held new byte old rest is h = search

pub escape_err : {E : Type 0} (r : Result Unit E) (room : ℕ) (held : List ℕ) (byte : ℕ) (old : List ℕ) → byte ≡ 92
    → OnErr r (IfSome (onto held (text_from Escape old)) (λ all. room < length all.bytes))
    → OnErr r (byte == 34 ≡ false → IfSome (onto held (text_from Letters (byte ∷ old))) (λ all. room < length all.bytes))
escape_err (Ok x) room held byte old is h = search
escape_err (Err e) room held byte old is h = λ no. rw is h

plain : (byte : ℕ) (old : List ℕ) → byte == 92 ≡ false → nat_lt byte 32 ≡ false → byte == 34 ≡ false
    → text_from Letters (byte ∷ old) ≡ onto (byte ∷ []) (text_from Letters old)
plain byte old a b c = rw (c, a, b) refl

pub plain_ok : {E : Type 0} (r : Result Unit E) (held new : List ℕ) (byte : ℕ) (old : List ℕ) → byte == 92 ≡ false → nat_lt byte 32 ≡ false
    → OnOk r (new ≡ held ++ byte ∷ [])
    → OnOk r (byte == 34 ≡ false → onto held (text_from Letters (byte ∷ old)) ≡ onto new (text_from Letters old))
plain_ok (Ok x) held new byte old a b h = λ c. came {E = ℕ} (Ok x) held new byte _ old h (plain byte old a b c)
plain_ok (Err e) held new byte old a b h = search

pub plain_err : {E : Type 0} (r : Result Unit E) (room : ℕ) (held : List ℕ) (byte : ℕ) (old : List ℕ) → byte == 92 ≡ false → nat_lt byte 32 ≡ false
    → OnErr r (room ≤ length held)
    → OnErr r (byte == 34 ≡ false → IfSome (onto held (text_from Letters (byte ∷ old))) (λ all. room < length all.bytes))
plain_err (Ok x) room held byte old a b h = search
plain_err {E} (Err e) room held byte old a b h = λ c. refused {E = E} (Err e) room held byte _ old h (plain byte old a b c)

pub differs : (a b : ℕ) → (a ≡ b → ⊥) → a == b ≡ false
differs a b h = grind (arith, nat_tests)

pub no_control : (byte : ℕ) → 32 ≤ byte → nat_lt byte 32 ≡ false
no_control byte h = grind (arith, nat_tests)

control : (byte : ℕ) → byte < 32 → nat_lt byte 32 ≡ true
control byte h = grind (arith, nat_tests)

pub control_err : (room : ℕ) (held : List ℕ) (byte : ℕ) (old : List ℕ) → byte == 92 ≡ false → byte < 32
    → byte == 34 ≡ false → IfSome (onto held (text_from Letters (byte ∷ old))) (λ all. room < length all.bytes)
control_err room held byte old a h b = rw (b, a, control byte h) (search rules)

pub ok_along : {T E : Type 0} (r : Result T E) (o p : Option Found) (f : T → Option Found) → p ≡ o
    → IfOk r (λ x. o ≡ f x) → IfOk r (λ x. p ≡ f x)
ok_along (Ok x) o p f same h = same ∙ h
ok_along (Err e) o p f same h = search

pub err_along : {T E : Type 0} (r : Result T E) (o p : Option Found) → p ≡ o → OnErr r (o ≡ None) → OnErr r (p ≡ None)
err_along r o p same h = rw same h

pub ok_shorter : {T E : Type 0} (r : Result T E) (a b c : ℕ) → b ≤ c → OnOk r (a ≤ b) → OnOk r (a ≤ c)
ok_shorter (Ok x) a b c le h = omega (arith, h)
ok_shorter (Err e) a b c le h = search

pub on_err : {T E : Type 0} (r : Result T E) (P : Type 0) → P → OnErr r P
on_err (Ok x) P p = search
on_err (Err e) P p = p

-- ---- a whole text

-- nothing is left in which a quote could stand
pub ended : (room : ℕ) (held first line old : List ℕ) → length line ≡ 0
    → onto held (text_from Letters line) ≡ onto first (text_from Letters old)
    → IfSome (onto first (text_from Letters old)) (λ all. room < length all.bytes)
ended room held first [] old none same = rw (← same) (search rules)
ended room held first (byte ∷ line) old none same = absurd (omega arith)

pub quoted : (held first line old rest : List ℕ) (byte : ℕ) → byte ≡ 34 → line ≡ byte ∷ rest
    → onto held (text_from Letters line) ≡ onto first (text_from Letters old)
    → onto first (text_from Letters old) ≡ Some (record { bytes = held; rest = rest })
quoted held first line old rest byte is whole same =
    sym same ∙ rw (whole, is) (ap (λ (l : List ℕ). Some (record { bytes = l; rest = rest })) (append-nil held))

more : (least room : ℕ) (o : Option Found) → least ≤ room → IfSome o (λ all. room < length all.bytes)
    → IfSome o (λ all. least < length all.bytes)
more least room None le h = search
more least room (Some text) le h = omega arith

-- a letter that was refused leaves no room for the whole text
pub stopped : (least room byte : ℕ) (held first line old rest : List ℕ) → (byte ≡ 34 → ⊥) → line ≡ byte ∷ rest → least ≤ room
    → onto held (text_from Letters line) ≡ onto first (text_from Letters old)
    → (byte == 34 ≡ false → IfSome (onto held (text_from Letters (byte ∷ rest))) (λ all. room < length all.bytes))
    → IfSome (onto first (text_from Letters old)) (λ all. least < length all.bytes)
stopped least room byte held first line old rest other whole le same h =
    let P : Option Found → Type 0 = λ o. IfSome o (λ all. least < length all.bytes) in
    subst P (ap (λ l. onto held (text_from Letters l)) (sym whole) ∙ same) (more least room _ le (h (differs byte 34 other)))

pub went : (byte : ℕ) (held new first line old rest after : List ℕ) → (byte ≡ 34 → ⊥) → line ≡ byte ∷ rest
    → onto held (text_from Letters line) ≡ onto first (text_from Letters old)
    → (byte == 34 ≡ false → onto held (text_from Letters (byte ∷ rest)) ≡ onto new (text_from Letters after))
    → onto new (text_from Letters after) ≡ onto first (text_from Letters old)
went byte held new first line old rest after other whole same h =
    sym (h (differs byte 34 other)) ∙ ap (λ l. onto held (text_from Letters l)) (sym whole) ∙ same

-- ---- texts for a store

onto-nil : (o : Option Found) → onto [] o ≡ o
onto-nil None = refl
onto-nil (Some text) = refl

pub short_ok : {T E : Type 0} (r : Result T E) (new : List ℕ) (o : Option Found) (f : T → Found) → new ≡ []
    → IfOk r (λ x. onto new o ≡ Some (f x)) → IfOk r (λ x. o ≡ Some (f x))
short_ok (Ok x) new o f none h = sym (rw none (onto-nil o)) ∙ h
short_ok (Err e) new o f none h = search

pub short_err : {T E : Type 0} (r : Result T E) (new : List ℕ) (o : Option Found) (room : ℕ) → new ≡ []
    → OnErr r (IfSome (onto new o) (λ x. room < length x.bytes)) → OnErr r (IfSome o (λ x. room < length x.bytes))
short_err r new o room none h =
    let same : onto new o ≡ o = rw none (onto-nil o) in
    rw (← same) h

pub text_err : {T E : Type 0} (r : Result T E) (room : ℕ) (held old mid : List ℕ) → after 34 old ≡ Some mid
    → OnErr r (IfSome (onto held (text_from Letters mid)) (λ all. room < length all.bytes))
    → OnErr r (IfSome (onto held (text_of old)) (λ all. room < length all.bytes))
text_err r room held old mid same h = rw same h
