-- The numbers that the calls answer, and which fault is answered as which.

use Rattle.std.specs.Prelude.{◌≡◌, ℤ, negsuc}
use Rattle.bw_lines.specs.declared.cause.RecoverCause.{RecoverCause}
use Rattle.bw_lines.specs.declared.cause.RecoverCause.TheVariants as cause
use Rattle.bw_reading.specs.declared.answer.Fault.{Fault}
use Rattle.bw_reading.specs.declared.answer.Fault.TheVariants.{NoMemory, NoStore, Damaged}

-- a fault as a number below 0: negsuc n is - (n + 1)
abbrev pub number_of : Fault → ℤ
number_of NoMemory = negsuc 0
number_of NoStore = negsuc 11
number_of Damaged = negsuc 12

-- an answer says that there are no pairs
abbrev pub IsRefusal : ℤ → Type 0
IsRefusal answer = (fault : Fault) × (answer ≡ number_of fault)

-- what is answered for what recovery says
abbrev pub fault_of : RecoverCause → Fault
fault_of cause.NoMemory = NoMemory
fault_of cause.Empty = NoStore
fault_of cause.BadConfig = Damaged
fault_of (cause.Device lease) = Damaged
fault_of cause.Spent = Damaged
fault_of (cause.BadBytes segment at) = Damaged
fault_of cause.Gap = Damaged
fault_of cause.Mixed = Damaged
fault_of (cause.BadLink page) = Damaged
fault_of (cause.Unlawful page) = Damaged
