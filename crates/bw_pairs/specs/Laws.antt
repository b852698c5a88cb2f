-- What holds of the spellings themselves.

use Rattle.std.specs.Prelude.{Bool, ◌==◌, ◌||◌, ◌≤◌, length, ℕ, ◌≡◌, ◌≢◌, List, Some, None, false, ◌∷◌, ◌++◌}
use Rattle.std.specs.List.{list_any}
use Rattle.bw_record.specs.Keys.{IsBytes}
use Rattle.bw_record.specs.Lawful.{IsPair}
use Rattle.bw_record.specs.declared.record.Record.TheVariants.{Put, Del}
use Rattle.bw_pairs.specs.declared.spelling.Spelling.{Spelling}
use Rattle.bw_pairs.specs.declared.spelling.Spelling.TheVariants.{Raw}
use Rattle.bw_pairs.specs.declared.input.TheConstants.{LONGEST}
use Rattle.bw_pairs.specs.Words.{word, meant}
use Rattle.bw_pairs.specs.Inputs.{line_of, after_line}
use Rattle.bw_pairs.specs.Lines.{Pair, tab_line, tab_put, raw_put, is_tab}
use Rattle.bw_pairs.specs.Dumps.{dump_line, dump_key, dump_value}
use Rattle.bw_pairs.specs.Csv.{csv_line, csv_put}
use Rattle.bw_pairs.specs.Json.{object, json_put, json_del}
use Rattle.bw_pairs.specs.declared.dump.Letters.{Letters}

-- a pair's key and value are bytes, no more and no fewer than a store takes
abbrev pub IsLawful : Pair → Type 0
IsLawful pair = IsPair pair × IsBytes pair.0 × IsBytes pair.1

-- bytes that were written as text, or in hex, are read back
abbrev pub WordsAreReadBack : Type 0
WordsAreReadBack = (way : Spelling) (bytes : List ℕ) → way ≢ Raw → IsBytes bytes → meant (word way bytes) ≡ Some bytes

-- the line of a pair is read back, whatever bytes it has
abbrev pub TabLinesAreReadBack : Type 0
TabLinesAreReadBack = (way : Spelling) (pair : Pair) → way ≢ Raw → IsLawful pair
    → tab_put (tab_line way pair) ≡ Some (Put pair.0 pair.1)

-- bytes as they are are read back if the key has no tab
abbrev pub RawLinesAreReadBack : Type 0
RawLinesAreReadBack = (pair : Pair) → IsLawful pair → list_any is_tab pair.0 ≡ false
    → raw_put (tab_line Raw pair) ≡ Some (Put pair.0 pair.1)

-- the two lines of a pair in a dump are read back, whatever bytes they have
abbrev pub DumpLinesAreReadBack : Type 0
DumpLinesAreReadBack = (letters : Letters) (pair : Pair) → IsLawful pair
    → (dump_key letters (dump_line letters pair.0) ≡ Some pair.0) × (dump_value letters (dump_line letters pair.1) ≡ Some pair.1)

-- the line of a pair in CSV is read back, whatever bytes it has
abbrev pub CsvLinesAreReadBack : Type 0
CsvLinesAreReadBack = (pair : Pair) → IsLawful pair → csv_put (csv_line pair) ≡ Some (Put pair.0 pair.1)

-- the object of a pair in JSON is read back, whatever bytes it has, as a put and as the delete of its
-- key, and so is that of only a key
abbrev pub JsonLinesAreReadBack : Type 0
JsonLinesAreReadBack = (pair : Pair) → IsLawful pair
    → (json_put (object (Some pair.0) (Some pair.1)) ≡ Some (Put pair.0 pair.1))
    × (json_del (object (Some pair.0) (Some pair.1)) ≡ Some (Del pair.0))
    × (json_del (object (Some pair.0) None) ≡ Some (Del pair.0))

-- ---- lines

-- a byte that may end a line
abbrev pub is_end : ℕ → Bool
is_end byte = (byte == 10) || (byte == 13)

-- a line has none, and is no longer than a reader of lines takes
abbrev pub IsLine : List ℕ → Type 0
IsLine line = (list_any is_end line ≡ false) × (length line ≤ LONGEST)

-- what is written of a pair is whole lines, but for bytes that are written as they are
abbrev pub TabLinesAreLines : Type 0
TabLinesAreLines = (way : Spelling) (pair : Pair) → way ≢ Raw → IsLawful pair → IsLine (tab_line way pair)

abbrev pub CsvLinesAreLines : Type 0
CsvLinesAreLines = (pair : Pair) → IsLawful pair → IsLine (csv_line pair)

abbrev pub DumpLinesAreLines : Type 0
DumpLinesAreLines = (letters : Letters) (pair : Pair) → IsLawful pair
    → IsLine (dump_line letters pair.0) × IsLine (dump_line letters pair.1)

abbrev pub JsonLinesAreLines : Type 0
JsonLinesAreLines = (pair : Pair) → IsLawful pair
    → IsLine (object (Some pair.0) (Some pair.1)) × IsLine (object (Some pair.0) None)

-- a line that was written with an LF is read, and what was written after it is left
abbrev pub WrittenLinesAreRead : Type 0
WrittenLinesAreRead = (line rest : List ℕ) → IsLine line
    → (line_of LONGEST (line ++ 10 ∷ rest) ≡ line) × (after_line (line ++ 10 ∷ rest) ≡ rest)
