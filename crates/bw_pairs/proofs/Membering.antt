-- What a member of an object stands for.

use Rattle.std.proofs.Common.{◌≡◌, ℕ, ◌*◌, ◌<◌, ◌≤◌, Bool, true, false, cond, nat_lt, List, [], ◌∷◌, length, Option, Some, None, Ok, Err, IfSome, codes, refl, sym, ap, subst, IsUtf8, is_none, slice_get, length-append, ◌==◌, arith}
use Rattle.std.specs.Option.{option_map, option_and_then}
use Rattle.std.specs.Result.{result_ok}
use Rattle.std.specs.Str.{is_utf8, bytes_eq, chars}
use lib.Pointwise.{bytes_decides}
use lib.Utf8.{encode}
use Rattle.std.proofs.lemmas.Bool.Decides.{nat_tests}
use Rattle.std.proofs.lemmas.Str.{IsUtf8-from_is_utf8}
use Rattle.base64.specs.Decode.{or_else, or_error, bytes_fit, decode_outcome, decoded_bytes, lone_error, groups_error, suffix_error, groups_before_last, groups_bytes, suffix_bytes, decode_error}
use Rattle.base64.specs.GeneralPurpose.{decode_slice_of}
use Rattle.base64.specs.Engines.{standard}
use Rattle.base64.specs.declared.decode.DecodeError.{DecodeError}
use Rattle.base64.specs.declared.decode.DecodeSliceError.{DecodeSliceError}
use Rattle.base64.specs.declared.decode.DecodeSliceError.TheVariants.{OutputSliceTooSmall}
use Rattle.bw_pairs.specs.declared.json.Members.{Members}
use Rattle.base64.proofs.Decoding.{length-groups_bytes}
use Rattle.bw_pairs.specs.Words.{as_key, as_value}
use Rattle.bw_pairs.specs.Json.{Found, after_blanks, behind, after, text_of, unbased, keyed, valued, with_key, with_value, noted, read_to, read_with, read_named, read_member, read_more, closed}
use Rattle.bw_pairs.proofs.Blanks.{again}
use Rattle.bw_pairs.proofs.Escaping.{no_key, no_value}

-- ---- base64

no_room : (b : Bool) (bytes : List ℕ) (e : DecodeSliceError) → nat_lt 684 (length bytes) ≡ b
    → cond b (Err OutputSliceTooSmall) (Ok (length bytes)) ≡ Err e → 512 < length bytes
no_room true bytes e same h = grind (arith, nat_tests)
no_room false bytes e same h = cc h

refused : (first rest : Option DecodeError) (bytes : List ℕ) (e : DecodeSliceError)
    → or_error first (or_error rest (bytes_fit (length bytes) 684)) ≡ Err e
    → IfSome (result_ok (decode_outcome (or_else first rest) bytes)) (λ all. 512 < length all)
refused (Some x) rest bytes e h = search
refused None (Some x) bytes e h = search
refused None None bytes e h = no_room (nat_lt 684 (length bytes)) bytes e refl h

refused_for : (b : Bool) (first rest : Option DecodeError) (bytes : List ℕ) (e : DecodeSliceError) → b ≡ false
    → or_error first (cond b (Err OutputSliceTooSmall) (or_error rest (bytes_fit (length bytes) 684))) ≡ Err e
    → IfSome (result_ok (decode_outcome (or_else first rest) bytes)) (λ all. 512 < length all)
refused_for true first rest bytes e enough h = cc enough
refused_for false first rest bytes e enough h = refused first rest bytes e h

-- bytes in base64 that a value's room does not take are too many for one
pub too_long : (letters : List ℕ) (room : ℕ) (e : DecodeSliceError) → decode_slice_of standard letters room ≡ Err e
    → room ≡ 684 → length letters ≤ 684 → IfSome (unbased letters) (λ all. 512 < length all)
too_long letters room e h same le =
    let enough : nat_lt 228 (groups_before_last (length letters)) ≡ false = grind (arith, nat_tests) in
    let dec = standard.decode_table in
    let pad = standard.padding.value in
    let groups = groups_before_last (length letters) in
    let allow = standard.config.decode_allow_trailing_bits in
    let mode = standard.config.decode_padding_mode in
    refused_for (nat_lt 228 groups) (lone_error dec pad letters)
    (or_else (groups_error dec letters groups) (suffix_error dec pad allow mode (4 * groups) letters)) (decoded_bytes dec pad letters)
    e enough (subst (λ n. decode_slice_of standard letters n ≡ Err e) same h)

-- ---- names

differs : (name other : List ℕ) (b : Bool) → bytes_eq name other ≡ b → IsUtf8 other → (IsUtf8 name → ⊥)
    → bytes_eq name other ≡ false
differs name other true same text none = absurd (none (subst IsUtf8 (sym ((bytes_decides name other).0 same)) text))
differs name other false same text none = same

other : (name text : List ℕ) → is_utf8 text ≡ true → (IsUtf8 name → ⊥) → bytes_eq name text ≡ false
other name text is none = differs name text (bytes_eq name text) refl (IsUtf8-from_is_utf8 text is) none

-- a name that is no text is none of a member's
pub no_name : (members : Members) (name letters : List ℕ) → (IsUtf8 name → ⊥) → noted members name letters ≡ None
unfolding is_utf8 chars encode
no_name members name letters none =
    rw (
      other name (codes "key") refl none,
      other name (codes "value") refl none,
      other name (codes "key_base64") refl none,
      other name (codes "value_base64") refl none,
    ) refl

-- ---- too long for a pair

unequal : (name other : List ℕ) (b : Bool) → bytes_eq name other ≡ b → length other < length name → bytes_eq name other ≡ false
unequal name other true same h =
    let e = (bytes_decides name other).0 same in
    absurd (omega (arith, ap length e))
unequal name other false same h = same

longer : (name text : List ℕ) → length text < length name → bytes_eq name text ≡ false
longer name text h = unequal name text (bytes_eq name text) refl h

long_name : (members : Members) (name letters : List ℕ) → 684 < length name → noted members name letters ≡ None
long_name members name letters h =
    rw (
      longer name (codes "key") (omega arith),
      longer name (codes "value") (omega arith),
      longer name (codes "key_base64") (omega arith),
      longer name (codes "value_base64") (omega arith),
    ) refl

never : {A B : Type 0} (f : A → Option B) (o : Option A) → ((x : A) → f x ≡ None) → option_and_then f o ≡ None
never f None h = refl
never f (Some x) h = h x

pub no_named : (members : Members) (o : Option Found) → IfSome o (λ name. 684 < length name.bytes)
    → option_and_then (read_named members) o ≡ None
no_named members None h = refl
no_named members (Some name) h =
    never (read_with members name.bytes) (option_and_then text_of (after 58 name.rest))
    (λ letters. ap (option_map (read_to letters.rest)) (long_name members name.bytes letters.bytes h))

no_option : (b : Bool) (o : Option Members) → o ≡ None → cond b o None ≡ None
no_option true o h = h
no_option false o h = refl

no_with_key : (members : Members) (key : Option (List ℕ)) → key ≡ None → with_key members key ≡ None
no_with_key members key h = no_option (is_none members.key) (option_map (keyed members) key) (ap (option_map (keyed members)) h)

no_with_value : (members : Members) (value : Option (List ℕ)) → value ≡ None → with_value members value ≡ None
no_with_value members value h = no_option (is_none members.value) (option_map (valued members) value) (ap (option_map (valued members)) h)

chosen : (a b c d : Bool) (p q r s : Option Members) → p ≡ None → q ≡ None → r ≡ None → s ≡ None
    → cond a p (cond b q (cond c r (cond d s None))) ≡ None
chosen true b c d p q r s e f g h = e
chosen false true c d p q r s e f g h = f
chosen false false true d p q r s e f g h = g
chosen false false false true p q r s e f g h = h
chosen false false false false p q r s e f g h = refl

outcome : (error : Option DecodeError) (bytes : List ℕ) → 512 < length bytes
    → IfSome (result_ok (decode_outcome error bytes)) (λ all. 512 < length all)
outcome None bytes h = h
outcome (Some e) bytes h = search

-- more letters than those of the longest value stand for more bytes, if for any
many : (letters : List ℕ) → 684 < length letters → IfSome (unbased letters) (λ all. 512 < length all)
many letters h =
    let dec = standard.decode_table in
    let pad = standard.padding.value in
    let groups = groups_before_last (length letters) in
    let enough : 171 ≤ groups = omega arith in
    let fewer = length-append (groups_bytes dec letters groups) (suffix_bytes dec pad (4 * groups) letters) in
    let count = length-groups_bytes dec letters groups in
    outcome (decode_error dec pad standard.config.decode_allow_trailing_bits standard.config.decode_padding_mode letters)
    (decoded_bytes dec pad letters) (omega arith)

long_letters : (members : Members) (name letters : List ℕ) → 684 < length letters → noted members name letters ≡ None
long_letters members name letters h =
    let key : as_key letters ≡ None = no_key (Some letters) (omega arith) in
    let value : as_value letters ≡ None = no_value (Some letters) (omega arith) in
    let based = many letters h in
    chosen (bytes_eq name (codes "key")) (bytes_eq name (codes "value")) (bytes_eq name (codes "key_base64"))
    (bytes_eq name (codes "value_base64")) _ _ _ _ (no_with_key members (as_key letters) key) (no_with_value members (as_value letters) value)
    (no_with_key members (option_and_then as_key (unbased letters)) (no_key (unbased letters) based))
    (no_with_value members (option_and_then as_value (unbased letters)) (no_value (unbased letters) based))

long_text : (members : Members) (name : List ℕ) (o : Option Found) → IfSome o (λ letters. 684 < length letters.bytes)
    → option_and_then (read_with members name) o ≡ None
long_text members name None h = refl
long_text members name (Some letters) h =
    ap (option_map (read_to letters.rest)) (long_letters members name letters.bytes h)

pub no_text : (members : Members) (line name rest behind : List ℕ) → text_of line ≡ Some (record { bytes = name; rest = rest })
    → after 58 rest ≡ Some behind → IfSome (text_of behind) (λ letters. 684 < length letters.bytes)
    → read_member members line ≡ None
no_text members line name rest behind a b h = rw (a, b) (long_text members name (text_of behind) h)

-- ---- a second member

no_first : (line : List ℕ) (byte : ℕ) → slice_get line 0 ≡ Some byte → (byte ≡ 44 → ⊥) → behind 44 line ≡ None
no_first [] byte first differs = refl
no_first (x ∷ line) byte first differs =
    let same : x ≡ byte = cc first in
    let other : x == 44 ≡ false = grind (arith, nat_tests) in
    rw other refl

no_comma : (members : Members) (line : List ℕ) → behind 44 (after_blanks line) ≡ None
    → option_and_then closed (read_more (record { members = members; rest = line })) ≡ closed (record { members = members; rest = after_blanks line })
no_comma members line none = rw (none, again line) refl

pub other_byte : (members : Members) (line : List ℕ) (byte : ℕ) → slice_get (after_blanks line) 0 ≡ Some byte → (byte ≡ 44 → ⊥)
    → option_and_then closed (read_more (record { members = members; rest = line })) ≡ closed (record { members = members; rest = after_blanks line })
other_byte members line byte first differs = no_comma members line (no_first (after_blanks line) byte first differs)
