-- Headers: what the header of a dump says of the letters after it, line by line.

use Rattle.std.specs.Prelude.{ℕ, Bool, ◌==◌, ◌&&◌, ◌||◌, nat_lt, if◌then◌else◌, codes, List, length, Result, Ok, Err}
use Rattle.std.specs.List.{before_first, after_first, position_or_len}
use Rattle.std.specs.Str.{is_utf8, bytes_eq}
use Rattle.bw_pairs.specs.declared.dump.Letters.{Letters}
use Rattle.bw_pairs.specs.declared.dump.Letters.TheVariants.{Hex, Print}
use Rattle.bw_pairs.specs.declared.dump.Header.{Header}
use Rattle.bw_pairs.specs.declared.dump.Header.TheVariants.{First, Rest, End}
use Rattle.bw_pairs.specs.declared.fault.LineFault.{LineFault}
use Rattle.bw_pairs.specs.declared.fault.LineFault.TheVariants.{NoVersion, BadHeader, BadFormat, BadType, Duplicates}

-- the letters that a format names
abbrev pub letters_named : List ℕ → Result Letters LineFault
letters_named value =
    if bytes_eq value (codes "bytevalue") then Ok Hex else if bytes_eq value (codes "print") then Ok Print else Err BadFormat

-- more of the header comes, after letters that are known
abbrev pub rest_of : Result Letters LineFault → Result Header LineFault
rest_of (Ok letters) = Ok (Rest letters)
rest_of (Err fault) = Err fault

-- what `HEADER` and `type` say by their value
abbrev pub ended_by : Letters → List ℕ → Result Header LineFault
ended_by letters value = if bytes_eq value (codes "END") then Ok (End letters) else Err BadHeader

abbrev pub typed_by : Letters → List ℕ → Result Header LineFault
typed_by letters value =
    if bytes_eq value (codes "btree") || bytes_eq value (codes "hash") then Ok (Rest letters) else Err BadType

-- what a name and its value say. A list by numbers and several values of a key are refused; what is
-- not known is read over
abbrev pub named_by : Letters → List ℕ → List ℕ → Result Header LineFault
named_by letters name value =
    if bytes_eq name (codes "HEADER") then ended_by letters value
    else if bytes_eq name (codes "format") then rest_of (letters_named value)
    else if bytes_eq name (codes "type") then typed_by letters value
    else if bytes_eq name (codes "keys") && bytes_eq value (codes "0") then Err BadType
    else if (bytes_eq name (codes "duplicates") || bytes_eq name (codes "dupsort")) && bytes_eq value (codes "1") then Err Duplicates
    else Ok (Rest letters)

-- the byte between a name and its value
abbrev pub is_equals : ℕ → Bool
is_equals byte = byte == 61

-- what a line after the first one says: its first `=` parts it
abbrev pub parted_by : Letters → List ℕ → Result Header LineFault
parted_by letters line =
    if nat_lt (position_or_len is_equals line) (length line)
    then named_by letters (before_first is_equals line) (after_first is_equals line) else Err BadHeader

-- what is known once a line more is read
abbrev pub known_by : Header → List ℕ → Result Header LineFault
known_by First line = if bytes_eq line (codes "VERSION=3") then Ok (Rest Hex) else Err NoVersion
known_by (Rest letters) line = parted_by letters line
known_by (End letters) line = Ok (End letters)

abbrev pub header_by : Header → List ℕ → Result Header LineFault
header_by header line = if is_utf8 line then known_by header line else Err BadHeader
