-- What a record makes of a plain map.

use Rattle.std.specs.Prelude.{ℕ, List, [], ◌∷◌, ◌++◌, cond, Option, Some, None}
use Rattle.std.specs.List.{fold}
use Rattle.std.specs.Option.{option_and_then}
use Rattle.bw_record.specs.declared.record.Record.{Record}
use Rattle.bw_record.specs.declared.record.Record.TheVariants.{Put, Del}
use Rattle.bw_rows.specs.Spelling.{Bytes, same, doomed_key, aside_key, row_key, head_of}
use Rattle.bw_rows.specs.Meaning.{Plain}

-- a map with another value at one key
abbrev pub with : Plain → Bytes → Option Bytes → Plain
with p key value q = cond (same q key) value (p q)

abbrev pub changed : Plain → Record → Plain
changed p (Put key value) = with p key (Some value)
changed p (Del key) = with p key None

-- after records, one after the other
abbrev pub after : Plain → List Record → Plain
after p records = fold changed p records

-- ---- the records of a step

-- what a row names
abbrev pub head_in : Option Bytes → Option (Bytes × ℕ)
head_in row = option_and_then head_of row

abbrev pub row_change : Bytes → Option Bytes → Record
row_change place None = Del (row_key place)
row_change place (Some row) = Put (row_key place) row

-- a number is doomed no more
abbrev pub spared : Option (Bytes × ℕ) → List Record
spared None = []
spared (Some head) = Del (doomed_key head.0) ∷ []

-- a number is doomed from now on
abbrev pub dooms : Option (Bytes × ℕ) → List Record
dooms None = []
dooms (Some head) = Put (doomed_key head.0) [] ∷ []

-- the records of a row: it changes, the next number is spared, the old one is doomed
abbrev pub row_group : Bytes → Option Bytes → Option (Bytes × ℕ) → Option (Bytes × ℕ) → List Record
row_group place row next old = row_change place row ∷ (spared next ++ dooms old)

-- the records of a row that stood aside: it changes, the row aside goes away, the next number is
-- spared, the old one is doomed
abbrev pub aside_group : Bytes → Option Bytes → Option (Bytes × ℕ) → Option (Bytes × ℕ) → List Record
aside_group place row next old = row_change place row ∷ Del (aside_key place) ∷ (spared next ++ dooms old)

-- the group that makes a step, if the row before it named this
abbrev pub step_of : Bytes → Option Bytes → Option (Bytes × ℕ) → List Record
step_of place row old = row_group place row (head_in row) old

-- the group that carries out a row aside
abbrev pub carry_of : Bytes → Option Bytes → Option (Bytes × ℕ) → List Record
carry_of place row old = aside_group place row (head_in row) old
