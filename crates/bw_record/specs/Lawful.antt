-- Which pairs and which records are lawful in a format.

use Rattle.std.specs.Prelude.{ℕ, ◌≤◌, List, length}
use Rattle.bw_record.specs.Version.{latest, value_limit}
use Rattle.bw_record.specs.Keys.{IsKeyIn}
use Rattle.bw_record.specs.declared.record.Record.{Record}
use Rattle.bw_record.specs.declared.record.Record.TheVariants.{Put, Del}

abbrev pub IsPairIn : ℕ → List ℕ × List ℕ → Type 0
IsPairIn v p = IsKeyIn v p.0 × (length p.1 ≤ value_limit v)

abbrev pub IsOpIn : ℕ → Record → Type 0
IsOpIn v (Put key value) = IsKeyIn v key × (length value ≤ value_limit v)
IsOpIn v (Del key) = IsKeyIn v key

-- ---- what may be written

abbrev pub IsPair : List ℕ × List ℕ → Type 0
IsPair p = IsPairIn latest p

abbrev pub IsOp : Record → Type 0
IsOp op = IsOpIn latest op
