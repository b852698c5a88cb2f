-- Faults: which of them are those of a line.

use Rattle.std.specs.Prelude.{ℕ, Bool, true, Option, Some, None, is_some, Result, Ok, Err}
use Rattle.bw_pairs.specs.declared.fault.LineFault.{LineFault}
use Rattle.bw_pairs.specs.declared.fault.PairsFault.{PairsFault}
use Rattle.bw_pairs.specs.declared.fault.PairsFault.TheVariants as faults

-- the line that is at fault, and how; none if the input could not be read, or if there was no memory
-- for it
abbrev pub fault_line : PairsFault → Option (ℕ × LineFault)
fault_line (faults.Line number fault) = Some (number, fault)
fault_line faults.NoMemory = None
fault_line faults.Input = None

-- the input was read, and there was memory for it
abbrev pub was_read : {T : Type 0} → Result T PairsFault → Bool
was_read (Ok answer) = true
was_read (Err fault) = is_some (fault_line fault)
