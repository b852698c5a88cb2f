-- What one letter more of a line of CSV adds to what was read.

use Rattle.std.proofs.Common.{◌≡◌, ℕ, suc, ◌<◌, ◌≤◌, Bool, true, false, ◌&&◌, ◌==◌, cond, nat_eq, List, [], ◌∷◌, ◌++◌, length, drop, get_or, Option, Some, None, is_none, Result, Ok, Err, OnOk, OnErr, IfOk, IfSome, refl, sym, ap, subst, ◌∙◌, append_assoc, length-append, length-drop, drop-cons, arith}
use Rattle.std.specs.Option.{option_map, option_and_then}
use Rattle.std.specs.List.{starts_with}
use Rattle.std.specs.Result.{result_ok}
use Rattle.std.proofs.lemmas.Bool.Decides.{nat_tests}
use Rattle.hex.specs.Hex.{decode_of}
use Rattle.hex.proofs.HexLemmas.{decode_of-ok}
use Rattle.hex.specs.declared.error.FromHexError.{FromHexError}
use Rattle.bw_record.specs.declared.record.Record.TheVariants.{Del}
use Rattle.bw_pairs.specs.Words.{mark, meant, as_key, as_value, key_meant, value_meant}
use Rattle.bw_pairs.specs.Lines.{put_of}
use Rattle.bw_pairs.specs.Csv.{Read, onto, field_from, is_outside, field_key, field_value, put_with, put_behind}
use Rattle.bw_pairs.specs.declared.csv.At.{At}
use Rattle.bw_pairs.specs.declared.csv.At.TheVariants.{Begin, Bare, Quoted, Closed}
use Rattle.bw_pairs.proofs.Escaping.{no_key, no_value}

joined : (held new : List ℕ) (byte : ℕ) (o : Option Read) → new ≡ held ++ byte ∷ [] → onto new o ≡ onto held (onto (byte ∷ []) o)
joined held new byte None same = refl
joined held new byte (Some r) same =
    ap (λ (l : List ℕ). Some (record r { bytes = l })) (ap (λ l. l ++ r.bytes) same ∙ append_assoc held (byte ∷ []) r.bytes)

longer : (room : ℕ) (held : List ℕ) (byte : ℕ) (o : Option Read) → room ≤ length held
    → IfSome (onto held (onto (byte ∷ []) o)) (λ r. room < length r.bytes)
longer room held byte None full = search
longer room held byte (Some r) full = omega (arith, length-append held (byte ∷ r.bytes))

-- no comma ends the field here
abbrev pub GoesOn : At → ℕ → Type 0
GoesOn at byte = (byte == 44) && is_outside at ≡ false

-- from this state a byte is one of the field's, and the next state comes
abbrev pub Adds : At → ℕ → At → Type 0
Adds at byte after = (rest : List ℕ) → GoesOn at byte → field_from at (byte ∷ rest) ≡ onto (byte ∷ []) (field_from after rest)

pub came : {E : Type 0} (r : Result Unit E) (held new : List ℕ) (at now after : At) (byte : ℕ)
    → OnOk r (new ≡ held ++ byte ∷ []) → now ≡ after → Adds at byte after
    → OnOk r ((rest : List ℕ) → GoesOn at byte → onto new (field_from now rest) ≡ onto held (field_from at (byte ∷ rest)))
came (Ok x) held new at now after byte same is adds =
    λ rest on. rw (is, adds rest on) (joined held new byte (field_from after rest) same)
came (Err e) held new at now after byte same is adds = search

pub refused : {E : Type 0} (r : Result Unit E) (room : ℕ) (held : List ℕ) (at after : At) (byte : ℕ)
    → OnErr r (room ≤ length held) → Adds at byte after
    → OnErr r ((rest : List ℕ) → GoesOn at byte → IfSome (onto held (field_from at (byte ∷ rest))) (λ r. room < length r.bytes))
refused (Ok x) room held at after byte full adds = search
refused (Err e) room held at after byte full adds =
    λ rest on. rw (adds rest on) (longer room held byte (field_from after rest) full)

first_false : (a : Bool) → a && true ≡ false → a ≡ false
first_false true h = cc h
first_false false h = refl

differs : (a b : ℕ) → (a ≡ b → ⊥) → a == b ≡ false
differs a b h = grind (arith, nat_tests)

pub begin : (at : At) (byte : ℕ) → at ≡ Begin → (byte ≡ 34 → ⊥) → Adds at byte Bare
begin at byte is other rest on =
    let comma : byte == 44 ≡ false = first_false (byte == 44) (rw is at on) in
    rw (is, comma, differs byte 34 other) refl

pub bare : (at : At) (byte : ℕ) → at ≡ Bare → Adds at byte Bare
bare at byte is rest on =
    let comma : byte == 44 ≡ false = first_false (byte == 44) (rw is at on) in
    rw (is, comma) refl

pub quoted : (at : At) (byte : ℕ) → at ≡ Quoted → (byte ≡ 34 → ⊥) → Adds at byte Quoted
quoted at byte is other rest on = rw (is, differs byte 34 other) refl

pub closed : (at : At) (byte : ℕ) → at ≡ Closed → byte ≡ 34 → Adds at byte Quoted
closed at byte is quote rest on = rw (is, quote) refl

-- ---- a line that was refused

pub on_err : {T E : Type 0} (r : Result T E) (P : Type 0) → P → OnErr r P
on_err (Ok x) P p = search
on_err (Err e) P p = p

more : (least room : ℕ) (o : Option Read) → least ≤ room → IfSome o (λ r. room < length r.bytes)
    → IfSome o (λ r. least < length r.bytes)
more least room None le h = search
more least room (Some r) le h = omega arith

-- a byte that was refused leaves no room for the whole field
pub stopped : (least room byte i : ℕ) (held first : List ℕ) (at : At) (line : List ℕ) → i < length line → byte ≡ get_or line i 0
    → onto held (field_from at (drop i line)) ≡ onto first (field_from Begin line)
    → least ≤ room → GoesOn at byte
    → ((rest : List ℕ) → GoesOn at byte → IfSome (onto held (field_from at (byte ∷ rest))) (λ r. room < length r.bytes))
    → IfSome (onto first (field_from Begin line)) (λ r. least < length r.bytes)
stopped least room byte i held first at line lt is same le on h =
    let whole : drop i line ≡ byte ∷ drop (suc i) line = rw is (drop-cons line i 0 lt) in
    let P : Option Read → Type 0 = λ o. IfSome o (λ r. least < length r.bytes) in
    subst P (ap (λ l. onto held (field_from at l)) (sym whole) ∙ same) (more least room _ le (h (drop (suc i) line) on))

-- ---- fields for a store

onto-nil : (o : Option Read) → onto [] o ≡ o
onto-nil None = refl
onto-nil (Some r) = refl

pub short_ok : {T E : Type 0} (r : Result T E) (new : List ℕ) (o : Option Read) (f : T → Read) → new ≡ []
    → IfOk r (λ x. onto new o ≡ Some (f x)) → IfOk r (λ x. o ≡ Some (f x))
short_ok (Ok x) new o f none h = sym (rw none (onto-nil o)) ∙ h
short_ok (Err e) new o f none h = search

pub short_err : {T E : Type 0} (r : Result T E) (new : List ℕ) (o : Option Read) (room : ℕ) → new ≡ []
    → OnErr r (IfSome (onto new o) (λ x. room < length x.bytes)) → OnErr r (IfSome o (λ x. room < length x.bytes))
short_err r new o room none h =
    let same : onto new o ≡ o = rw none (onto-nil o) in
    rw (← same) h

-- ---- a field that is too long

long_hex : (text : List ℕ) (r : Result (List ℕ) FromHexError) → decode_of text ≡ r → 1024 < length text
    → IfSome (result_ok r) (λ bytes. 512 < length bytes)
long_hex text (Ok bytes) same h = omega (arith, decode_of-ok text bytes same)
long_hex text (Err e) same h = search

long_meant : (bytes : List ℕ) (b : Bool) → 1026 < length bytes
    → IfSome (cond b (result_ok (decode_of (drop 2 bytes))) (Some bytes)) (λ x. 512 < length x)
long_meant bytes true h = long_hex (drop 2 bytes) (decode_of (drop 2 bytes)) refl (omega (arith, length-drop 2 bytes))
long_meant bytes false h = omega arith

long_key : (bytes : List ℕ) (b : Bool) → 1026 < length bytes → cond b (as_key bytes) (key_meant bytes) ≡ None
long_key bytes true h = no_key (Some bytes) (omega arith)
long_key bytes false h = no_key (meant bytes) (long_meant bytes (starts_with nat_eq bytes mark) h)

long_value : (bytes : List ℕ) (b : Bool) → 1026 < length bytes → cond b (as_value bytes) (value_meant bytes) ≡ None
long_value bytes true h = no_value (Some bytes) (omega arith)
long_value bytes false h = no_value (meant bytes) (long_meant bytes (starts_with nat_eq bytes mark) h)

no_first : (b : Bool) (key : Option (List ℕ)) (second : Read) → key ≡ None
    → cond b (put_of key (field_value second)) None ≡ None
no_first true key second h = rw h refl
no_first false key second h = refl

no_second : (b : Bool) (key value : Option (List ℕ)) → value ≡ None → cond b (put_of key value) None ≡ None
no_second true None value h = refl
no_second true (Some key) value h = rw h refl
no_second false key value h = refl

no_behind : (first : Read) (o : Option Read) → field_key first ≡ None → option_and_then (put_with first) o ≡ None
no_behind first None h = refl
no_behind first (Some second) h = no_first (is_none second.rest) (field_key first) second h

no_rest : (first : Read) (rest : Option (List ℕ)) → field_key first ≡ None → option_and_then (put_behind first) rest ≡ None
no_rest first None h = refl
no_rest first (Some rest) h = no_behind first (field_from Begin rest) h

pub no_put : (o : Option Read) → IfSome o (λ r. 1026 < length r.bytes)
    → option_and_then (λ first. option_and_then (put_behind first) first.rest) o ≡ None
no_put None h = refl
no_put (Some first) h = no_rest first first.rest (long_key first.bytes first.is_quoted h)

pub no_put_behind : (first : Read) (o : Option Read) → IfSome o (λ r. 1026 < length r.bytes) → option_and_then (put_with first) o ≡ None
no_put_behind first None h = refl
no_put_behind first (Some second) h =
    no_second (is_none second.rest) (field_key first) (field_value second) (long_value second.bytes second.is_quoted h)

pub no_del : (o : Option Read) → IfSome o (λ r. 1026 < length r.bytes) → option_map Del (option_and_then field_key o) ≡ None
no_del None h = refl
no_del (Some first) h = ap (option_map Del) (long_key first.bytes first.is_quoted h)
