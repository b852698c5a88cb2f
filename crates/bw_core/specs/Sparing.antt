-- Which spares a flush may take.

use Rattle.std.specs.Prelude.{Bool, true, false}
use Rattle.bw_core.specs.declared.flush.Spares.{Spares}
use Rattle.bw_core.specs.declared.flush.Spares.TheVariants.{ButLast, All}

-- the last is among them
abbrev pub takes_last : Spares → Bool
takes_last ButLast = false
takes_last All = true
