-- An object of JSON stands for the pair of which it was made.

use Rattle.std.proofs.Common.{◌≡◌, ℕ, ◌<◌, Bool, true, false, cond, List, [], ◌∷◌, ◌++◌, codes, Some, None, IsUtf8, refl, ap, append_assoc, arith}
use Rattle.std.specs.List.{flat_map}
use Rattle.std.specs.Result.{result_ok}
use Rattle.std.specs.Str.{is_utf8, chars}
use Rattle.std.proofs.lemmas.Str.{IsUtf8-from_is_utf8, is_utf8-from_IsUtf8, IsUtf8-append, IsUtf8-from_ascii}
use lib.Utf8.{encode}
use Rattle.base64.specs.GeneralPurpose.{encode_of}
use Rattle.base64.specs.Engines.{standard}
use Rattle.base64.proofs.EngineFacts.{decode_of-encode_of}
use Rattle.bw_record.specs.Keys.{IsBytes}
use Rattle.bw_record.specs.declared.record.Record.TheVariants.{Put, Del}
use Rattle.bw_pairs.specs.declared.json.Members.{Members}
use Rattle.bw_pairs.specs.Words.{as_key, as_value}
use Rattle.bw_pairs.specs.Json.{letter, text, based, name_of, member, object, nothing, keyed, valued, read_to, read_member, unbased, members_of, json_put, json_del}
use Rattle.bw_pairs.specs.Laws.{JsonLinesAreReadBack}
use Rattle.bw_pairs.proofs.LineLaws.{as_key-lawful, as_value-lawful}
use Rattle.std.proofs.lemmas.Str.Ascii.{IsAscii-nil, IsAscii-cons}
use Rattle.bw_pairs.proofs.JsonTexts.{text_back, based_back}
use Rattle.bw_pairs.proofs.JsonLetters.{text-utf8, based-utf8}

-- ---- members

abbrev text_member : List ℕ → List ℕ → List ℕ
text_member name bytes = name_of name true ++ text bytes

abbrev based_member : List ℕ → List ℕ → List ℕ
based_member name bytes = name_of name false ++ based bytes

unbased_back : (bytes : List ℕ) → IsBytes bytes → unbased (encode_of standard bytes) ≡ Some bytes
unbased_back bytes h = ap result_ok (decode_of-encode_of standard bytes refl h)

key_of : (b : Bool) (key rest : List ℕ) → IsBytes key → as_key key ≡ Some key
    → read_member nothing ((name_of (codes "key") b ++ cond b (text key) (based key)) ++ rest) ≡ Some (read_to rest (keyed nothing key))
key_of true key rest bytes lawful =
    rw (append_assoc (flat_map letter key) (34 ∷ []) rest, text_back key rest, lawful) refl
key_of false key rest bytes lawful =
    rw (append_assoc (encode_of standard key) (34 ∷ []) rest, based_back key rest bytes, unbased_back key bytes, lawful) refl

key_back : (key rest : List ℕ) → IsBytes key → as_key key ≡ Some key
    → read_member nothing (member (codes "key") key ++ rest) ≡ Some (read_to rest (keyed nothing key))
key_back key rest = key_of (is_utf8 key) key rest

value_of : (b : Bool) (value rest key : List ℕ) → IsBytes value → as_value value ≡ Some value
    → read_member (keyed nothing key) ((name_of (codes "value") b ++ cond b (text value) (based value)) ++ rest)
    ≡ Some (read_to rest (valued (keyed nothing key) value))
value_of true value rest key bytes lawful =
    rw (append_assoc (flat_map letter value) (34 ∷ []) rest, text_back value rest, lawful) refl
value_of false value rest key bytes lawful =
    rw (append_assoc (encode_of standard value) (34 ∷ []) rest, based_back value rest bytes, unbased_back value bytes, lawful) refl

value_back : (value rest key : List ℕ) → IsBytes value → as_value value ≡ Some value
    → read_member (keyed nothing key) (member (codes "value") value ++ rest) ≡ Some (read_to rest (valued (keyed nothing key) value))
value_back value rest key = value_of (is_utf8 value) value rest key

-- ---- objects

text_of_member : (b : Bool) (name bytes : List ℕ) → ((c : Bool) → IsUtf8 (name_of name c)) → is_utf8 bytes ≡ b
    → IsUtf8 (name_of name b ++ cond b (text bytes) (based bytes))
text_of_member true name bytes named same =
    IsUtf8-append (name_of name true) (text bytes) (named true) (text-utf8 bytes (IsUtf8-from_is_utf8 bytes same))
text_of_member false name bytes named same = IsUtf8-append (name_of name false) (based bytes) (named false) (based-utf8 bytes)

key_named : (b : Bool) → IsUtf8 (name_of (codes "key") b)
unfolding is_utf8 chars encode
key_named true = IsUtf8-from_is_utf8 _ refl
key_named false = IsUtf8-from_is_utf8 _ refl

value_named : (b : Bool) → IsUtf8 (name_of (codes "value") b)
unfolding is_utf8 chars encode
value_named true = IsUtf8-from_is_utf8 _ refl
value_named false = IsUtf8-from_is_utf8 _ refl

key_text : (key : List ℕ) → IsUtf8 (member (codes "key") key)
key_text key = text_of_member (is_utf8 key) (codes "key") key key_named refl

value_text : (value : List ℕ) → IsUtf8 (member (codes "value") value)
value_text value = text_of_member (is_utf8 value) (codes "value") value value_named refl

sign : (byte : ℕ) → byte < 128 → IsUtf8 (byte ∷ [])
sign byte h = IsUtf8-from_ascii (byte ∷ []) (IsAscii-cons byte [] h IsAscii-nil)

within : (middle : List ℕ) → IsUtf8 middle → is_utf8 (123 ∷ middle ++ 125 ∷ []) ≡ true
within middle u =
    is_utf8-from_IsUtf8 (123 ∷ middle ++ 125 ∷ [])
    (IsUtf8-append (123 ∷ []) (middle ++ 125 ∷ []) (sign 123 (omega arith)) (IsUtf8-append middle (125 ∷ []) u (sign 125 (omega arith))))

-- an object of one member, and of two, if each is read back whatever stands after it
one : (first : List ℕ) (a : Members) → IsUtf8 first → ((rest : List ℕ) → read_member nothing (first ++ rest) ≡ Some (read_to rest a))
    → members_of (123 ∷ first ++ 125 ∷ []) ≡ Some a
one first a u back = rw (within first u, back (125 ∷ [])) refl

two : (first second : List ℕ) (a b : Members) → IsUtf8 first → IsUtf8 second
    → ((rest : List ℕ) → read_member nothing (first ++ rest) ≡ Some (read_to rest a))
    → ((rest : List ℕ) → read_member a (second ++ rest) ≡ Some (read_to rest b))
    → members_of (123 ∷ (first ++ 44 ∷ second) ++ 125 ∷ []) ≡ Some b
two first second a b u v back again =
    let all = IsUtf8-append first (44 ∷ second) u (IsUtf8-append (44 ∷ []) second (sign 44 (omega arith)) v) in
    rw (within (first ++ 44 ∷ second) all, append_assoc first (44 ∷ second) (125 ∷ []), back (44 ∷ second ++ 125 ∷ []), again (125 ∷ [])) refl

put_from : (line key value : List ℕ) → members_of line ≡ Some (valued (keyed nothing key) value) → json_put line ≡ Some (Put key value)
put_from line key value h = rw h refl

del_from : (line key : List ℕ) (m : Members) → members_of line ≡ Some m → m.key ≡ Some key → json_del line ≡ Some (Del key)
del_from line key m h k = rw (h, k) refl

pub json : JsonLinesAreReadBack
json pair lawful =
    let key = λ (rest : List ℕ). key_back pair.0 rest lawful.1 (as_key-lawful pair.0 lawful.0.0) in
    let value = λ (rest : List ℕ). value_back pair.1 rest pair.0 lawful.2 (as_value-lawful pair.1 lawful.0.1) in
    let alone : members_of (object (Some pair.0) None) ≡ Some (keyed nothing pair.0) =
    one (member (codes "key") pair.0) (keyed nothing pair.0) (key_text pair.0) key in
    let whole : members_of (object (Some pair.0) (Some pair.1)) ≡ Some (valued (keyed nothing pair.0) pair.1) =
    two (member (codes "key") pair.0) (member (codes "value") pair.1) (keyed nothing pair.0) (valued (keyed nothing pair.0) pair.1)
    (key_text pair.0) (value_text pair.1) key value in (
      put_from (object (Some pair.0) (Some pair.1)) pair.0 pair.1 whole,
      del_from (object (Some pair.0) (Some pair.1)) pair.0 (valued (keyed nothing pair.0) pair.1) whole refl,
      del_from (object (Some pair.0) None) pair.0 (keyed nothing pair.0) alone refl,
    )
