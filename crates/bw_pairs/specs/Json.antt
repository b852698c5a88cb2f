-- JSON: a pair as an object of texts, or of base64 if bytes are no text, and the pair for which a
-- line of JSON stands.

use Rattle.std.specs.Prelude.{ℕ, Bool, ◌+◌, ◌*◌, ◌%◌, ◌&&◌, ◌||◌, ◌==◌, nat_le, nat_lt, if◌then◌else◌, codes, List, [], ◌∷◌, ◌++◌, flat_map, Option, Some, None, is_none, option_map, option_and_then}
use Rattle.std.specs.Char.{is_ascii_whitespace, encode_utf8}
use Rattle.std.specs.Option.{option_zip}
use Rattle.std.specs.Result.{result_ok}
use Rattle.std.specs.Str.{is_utf8, bytes_eq}
use lib.Utf8.{scalar}
use Rattle.hex.specs.Hex.{encode_lower, hex_digit_value}
use Rattle.base64.specs.GeneralPurpose.{encode_of, decode_of}
use Rattle.base64.specs.Engines.{standard}
use Rattle.bw_record.specs.declared.record.Record.{Record}
use Rattle.bw_record.specs.declared.record.Record.TheVariants.{Del}
use Rattle.bw_pairs.specs.declared.json.Members.{Members}
use Rattle.bw_pairs.specs.Words.{as_key, as_value}
use Rattle.bw_pairs.specs.Lines.{put_of}

-- ---- out

-- a byte of a text between quotes: quotes, backslashes and control characters have an escape
abbrev pub letter : ℕ → List ℕ
letter byte =
    if byte == 34 then codes "\\\"" else if byte == 92 then codes "\\\\" else if byte == 10 then codes "\\n"
    else if byte == 13 then codes "\\r" else if byte == 9 then codes "\\t"
    else if nat_lt byte 32 then codes "\\u00" ++ encode_lower (byte ∷ []) else byte ∷ []

-- a text, and bytes in base64, between quotes
abbrev pub text : List ℕ → List ℕ
text bytes = 34 ∷ flat_map letter bytes ++ 34 ∷ []

abbrev pub based : List ℕ → List ℕ
based bytes = 34 ∷ encode_of standard bytes ++ 34 ∷ []

-- the name of a member, whose bytes stand in base64 or not
abbrev pub name_of : List ℕ → Bool → List ℕ
name_of name is_text = 34 ∷ name ++ (if is_text then codes "\":" else codes "_base64\":")

-- a member of an object
abbrev pub member : List ℕ → List ℕ → List ℕ
member name bytes = name_of name (is_utf8 bytes) ++ (if is_utf8 bytes then text bytes else based bytes)

-- the members that are there, with a comma between two
abbrev pub members : Option (List ℕ) → Option (List ℕ) → List ℕ
members None None = []
members (Some key) None = member (codes "key") key
members None (Some value) = member (codes "value") value
members (Some key) (Some value) = member (codes "key") key ++ 44 ∷ member (codes "value") value

-- the object of a key, a value, or both
abbrev pub object : Option (List ℕ) → Option (List ℕ) → List ℕ
object key value = 123 ∷ members key value ++ 125 ∷ []

-- ---- in: blanks

-- what stands after blanks
abbrev pub after_blanks : List ℕ → List ℕ
after_blanks [] = []
after_blanks (byte ∷ rest) = if is_ascii_whitespace byte then after_blanks rest else byte ∷ rest

-- what stands after a byte that has to come first
abbrev pub behind : ℕ → List ℕ → Option (List ℕ)
behind byte [] = None
behind byte (first ∷ rest) = if first == byte then Some rest else None

-- what stands after a byte, if it is the next one after blanks
abbrev pub after : ℕ → List ℕ → Option (List ℕ)
after byte line = behind byte (after_blanks line)

-- ---- in: texts

-- a text that was read, and what stands after it
pub record Found : Type 0 where
  pub bytes : List ℕ
  pub rest : List ℕ

-- bytes that come before those of a text
abbrev pub begun_with : List ℕ → Found → Found
begun_with bytes text = record text { bytes = bytes ++ text.bytes }

abbrev pub onto : List ℕ → Option Found → Option Found
onto bytes text = option_map (begun_with bytes) text

-- a number with a hex digit more
abbrev pub with_digit : Option ℕ → ℕ → Option ℕ
with_digit number digit = option_map (λ both. both.0 * 16 + both.1) (option_zip number (hex_digit_value digit))

-- the number of four hex digits
abbrev pub unit_of : ℕ → ℕ → ℕ → ℕ → Option ℕ
unit_of a b c d = with_digit (with_digit (with_digit (hex_digit_value a) b) c) d

-- what stands after four hex digits, and their number
abbrev pub number_from : List ℕ → Option (ℕ × List ℕ)
number_from (a ∷ b ∷ c ∷ d ∷ rest) = option_map (λ unit. (unit, rest)) (unit_of a b c d)
number_from short = None

-- what stands after `\\u`
abbrev pub behind_mark : List ℕ → Option (List ℕ)
behind_mark line = option_and_then (behind 117) (behind 92 line)

-- whether a number is the first or the second half of a letter that has two
abbrev pub is_first_half : ℕ → Bool
is_first_half unit = nat_le 0xd800 unit && nat_le unit 0xdbff

abbrev pub is_second_half : ℕ → Bool
is_second_half unit = nat_le 0xdc00 unit && nat_le unit 0xdfff

-- the letter of two halves: ten bits of each
abbrev pub joined : ℕ → ℕ → ℕ
joined first second = 0x10000 + first % 1024 * 1024 + second % 1024

-- a letter in UTF-8, by its number; a half is none
abbrev pub lettered : ℕ → Option (List ℕ)
lettered code = if scalar code then Some (encode_utf8 code) else None

-- what a letter after a backslash stands for, but for the `u` of a number
abbrev pub escaped : ℕ → Option ℕ
escaped letter =
    if letter == 110 then Some 10 else if letter == 114 then Some 13 else if letter == 116 then Some 9
    else if letter == 98 then Some 8 else if letter == 102 then Some 12
    else if (letter == 34) || (letter == 92) || (letter == 47) then Some letter else None

-- a text that begins with such a letter, and one that begins with the letter of a number
abbrev pub escaped_onto : ℕ → Option Found → Option Found
escaped_onto letter text = option_and_then (λ byte. onto (byte ∷ []) text) (escaped letter)

abbrev pub lettered_onto : ℕ → Option Found → Option Found
lettered_onto code text = option_and_then (λ letter. onto letter text) (lettered code)

-- where in a text a reader stands: among its letters, after a backslash, after `\u`, or after the
-- first half of a letter that has two
pub data Within : Type 0 where
  Letters : Within
  Escape : Within
  Number : Within
  Half : ℕ → Within

-- a text up to the quote after it: neither control characters nor halves of letters stand there
abbrev pub text_from : Within → List ℕ → Option Found
text_from Letters [] = None
text_from Letters (byte ∷ rest) =
    if byte == 34 then Some (record { bytes = []; rest = rest })
    else if byte == 92 then text_from Escape rest
    else if nat_lt byte 32 then None else onto (byte ∷ []) (text_from Letters rest)
text_from Escape [] = None
text_from Escape (letter ∷ rest) =
    if letter == 117 then text_from Number rest else escaped_onto letter (text_from Letters rest)
text_from Number (a ∷ b ∷ c ∷ d ∷ rest) =
    option_and_then (λ unit. if is_first_half unit then text_from (Half unit) rest
    else lettered_onto unit (text_from Letters rest)) (unit_of a b c d)
text_from Number short = None
text_from (Half first) (s ∷ u ∷ a ∷ b ∷ c ∷ d ∷ rest) =
    if (s == 92) && (u == 117)
    then option_and_then (λ second. if is_second_half second
    then lettered_onto (joined first second) (text_from Letters rest) else None) (unit_of a b c d)
    else None
text_from (Half first) short = None

-- a text between quotes
abbrev pub text_of : List ℕ → Option Found
text_of line = option_and_then (text_from Letters) (after 34 line)

-- ---- in: members

abbrev pub nothing : Members
nothing = record { key = None; value = None }

-- a key, or a value, which is the only one
abbrev pub keyed : Members → List ℕ → Members
keyed members bytes = record members { key = Some bytes }

abbrev pub valued : Members → List ℕ → Members
valued members bytes = record members { value = Some bytes }

abbrev pub with_key : Members → Option (List ℕ) → Option Members
with_key members key = if is_none members.key then option_map (keyed members) key else None

abbrev pub with_value : Members → Option (List ℕ) → Option Members
with_value members value = if is_none members.value then option_map (valued members) value else None

-- the bytes of a text in base64
abbrev pub unbased : List ℕ → Option (List ℕ)
unbased letters = result_ok (decode_of standard letters)

-- a member more, by its name
abbrev pub noted : Members → List ℕ → List ℕ → Option Members
noted members name letters =
    if bytes_eq name (codes "key") then with_key members (as_key letters)
    else if bytes_eq name (codes "value") then with_value members (as_value letters)
    else if bytes_eq name (codes "key_base64") then with_key members (option_and_then as_key (unbased letters))
    else if bytes_eq name (codes "value_base64") then with_value members (option_and_then as_value (unbased letters))
    else None

-- members that were read, and what stands after them
pub record Read : Type 0 where
  pub members : Members
  pub rest : List ℕ

abbrev pub read_to : List ℕ → Members → Read
read_to rest members = record { members = members; rest = rest }

-- a member more: its name, a colon, its text
abbrev pub read_with : Members → List ℕ → Found → Option Read
read_with members name letters = option_map (read_to letters.rest) (noted members name letters.bytes)

abbrev pub read_named : Members → Found → Option Read
read_named members name =
    option_and_then (read_with members name.bytes) (option_and_then text_of (after 58 name.rest))

abbrev pub read_member : Members → List ℕ → Option Read
read_member members line = option_and_then (read_named members) (text_of line)

-- a second member, if a comma follows
abbrev pub or_more : Read → Option (List ℕ) → Option Read
or_more read None = Some read
or_more read (Some line) = read_member read.members line

abbrev pub read_more : Read → Option Read
read_more read = or_more read (after 44 read.rest)

-- nothing but blanks stands after an object
abbrev pub alone : Members → List ℕ → Option Members
alone members [] = Some members
alone members (byte ∷ rest) = None

abbrev pub closed : Read → Option Members
closed read = option_and_then (λ rest. alone read.members (after_blanks rest)) (after 125 read.rest)

-- the members of an object that has one or two of them
abbrev pub members_of : List ℕ → Option Members
members_of line =
    if is_utf8 line
    then option_and_then closed (option_and_then read_more (option_and_then (read_member nothing) (after 123 line)))
    else None

-- the put of a key and a value
abbrev pub json_put : List ℕ → Option Record
json_put line = option_and_then (λ members. put_of members.key members.value) (members_of line)

-- the delete of a key, which may have no value
abbrev pub json_del : List ℕ → Option Record
json_del line = option_map Del (option_and_then (λ members. members.key) (members_of line))
