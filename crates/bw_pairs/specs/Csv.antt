-- CSV: a pair as a line with a comma, and the pair for which such a line stands.

use Rattle.std.specs.Prelude.{ℕ, Bool, true, false, ◌&&◌, ◌||◌, ◌==◌, if◌then◌else◌, List, [], ◌∷◌, ◌++◌, flat_map, Option, Some, None, is_none, option_map, option_and_then}
use Rattle.std.specs.List.{list_any}
use Rattle.bw_record.specs.declared.record.Record.{Record}
use Rattle.bw_record.specs.declared.record.Record.TheVariants.{Del}
use Rattle.bw_pairs.specs.declared.spelling.Spelling.TheVariants.{Words}
use Rattle.bw_pairs.specs.declared.csv.At.{At}
use Rattle.bw_pairs.specs.declared.csv.At.TheVariants.{Begin, Bare, Quoted, Closed}
use Rattle.bw_pairs.specs.Words.{is_text, word, as_key, as_value, key_meant, value_meant}
use Rattle.bw_pairs.specs.Lines.{Pair, put_of}

-- ---- out

-- whether a byte is a comma or a quote
abbrev pub is_apart : ℕ → Bool
is_apart byte = (byte == 44) || (byte == 34)

-- a byte between quotes: a quote is written twice
abbrev pub doubled : ℕ → List ℕ
doubled byte = if byte == 34 then 34 ∷ 34 ∷ [] else byte ∷ []

abbrev pub quoted : List ℕ → List ℕ
quoted bytes = 34 ∷ flat_map doubled bytes ++ 34 ∷ []

-- bytes as a field: text that has a comma or a quote stands between quotes
abbrev pub field : List ℕ → List ℕ
field bytes = if list_any is_apart bytes && is_text bytes then quoted bytes else word Words bytes

-- the only field of a line, which is none without quotes if it is empty
abbrev pub lone_field : List ℕ → List ℕ
lone_field [] = 34 ∷ 34 ∷ []
lone_field (byte ∷ bytes) = field (byte ∷ bytes)

-- the key, a comma, the value
abbrev pub csv_line : Pair → List ℕ
csv_line pair = field pair.0 ++ 44 ∷ field pair.1

-- ---- in

-- a field that was read
pub record Read : Type 0 where
  pub bytes : List ℕ
  pub is_quoted : Bool
  -- what stands after its comma, if it has one
  pub rest : Option (List ℕ)

-- what ends a field, with or without quotes
abbrev pub ended : Bool → Option (List ℕ) → Option Read
ended is_quoted rest = Some (record { bytes = []; is_quoted = is_quoted; rest = rest })

-- bytes that come before those of a field
abbrev pub prepended : List ℕ → Read → Read
prepended bytes read = record read { bytes = bytes ++ read.bytes }

abbrev pub onto : List ℕ → Option Read → Option Read
onto bytes read = option_map (prepended bytes) read

-- the first field of a line, from before it, in it, between its quotes, or after a quote: a comma
-- ends it, but for one between quotes; a quote between quotes is written twice
abbrev pub field_from : At → List ℕ → Option Read
field_from Begin [] = ended false None
field_from Bare [] = ended false None
field_from Quoted [] = None
field_from Closed [] = ended true None
field_from Begin (byte ∷ rest) =
    if byte == 44 then ended false (Some rest)
    else if byte == 34 then field_from Quoted rest else onto (byte ∷ []) (field_from Bare rest)
field_from Bare (byte ∷ rest) = if byte == 44 then ended false (Some rest) else onto (byte ∷ []) (field_from Bare rest)
field_from Quoted (byte ∷ rest) = if byte == 34 then field_from Closed rest else onto (byte ∷ []) (field_from Quoted rest)
field_from Closed (byte ∷ rest) =
    if byte == 44 then ended true (Some rest)
    else if byte == 34 then onto (byte ∷ []) (field_from Quoted rest) else None

-- whether a comma ends a field here, and whether it has quotes
abbrev pub is_outside : At → Bool
is_outside Quoted = false
is_outside Begin = true
is_outside Bare = true
is_outside Closed = true

abbrev pub is_closed : At → Bool
is_closed Begin = false
is_closed Bare = false
is_closed Quoted = true
is_closed Closed = true

-- a field, whatever stands after it
abbrev pub read_of : List ℕ → Bool → Read
read_of bytes is_quoted = record { bytes = bytes; is_quoted = is_quoted; rest = None }

-- the key and the value for which a field stands: between quotes its bytes, else what the word means
abbrev pub field_key : Read → Option (List ℕ)
field_key read = if read.is_quoted then as_key read.bytes else key_meant read.bytes

abbrev pub field_value : Read → Option (List ℕ)
field_value read = if read.is_quoted then as_value read.bytes else value_meant read.bytes

-- the put of two fields, if nothing stands after the second
abbrev pub put_with : Read → Read → Option Record
put_with first second = if is_none second.rest then put_of (field_key first) (field_value second) else None

-- the put of a first field and of what stands after its comma
abbrev pub put_behind : Read → List ℕ → Option Record
put_behind first rest = option_and_then (put_with first) (field_from Begin rest)

-- the put of a line of two fields
abbrev pub csv_put : List ℕ → Option Record
csv_put line = option_and_then (λ first. option_and_then (put_behind first) first.rest) (field_from Begin line)

-- the delete of its first field
abbrev pub csv_del : List ℕ → Option Record
csv_del line = option_map Del (option_and_then field_key (field_from Begin line))
