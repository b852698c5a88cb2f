-- What a home with tables stands for: all that was put counts, also what waits in its queue.

use Rattle.std.specs.Prelude.{Bool, true, false, cond, Option}
use Rattle.std.specs.FinMap as finite
use Rattle.bw_device.specs.Holding.{Holding}
use Rattle.bw_rows.specs.Spelling.{Bytes}
use Rattle.bw_rows.specs.Meaning.{Plain, Tables, tables_of, with_value}
use Rattle.bw_rows.specs.Laws.{IsTables, HasNumber}
use Rattle.bw_home.specs.Maps.{maps_of}
use Rattle.bw_home.specs.declared.fault.MapFault.{MapFault}
use Rattle.bw_home.specs.declared.fault.MapFault.TheVariants as map_fault
use Rattle.bw_home.specs.declared.home.Home.{Home}
use Rattle.bw_calls.specs.declared.fault.TableFault.{TableFault}
use Rattle.bw_calls.specs.declared.fault.TableFault.TheVariants.{Waits}

module _ {I : Type 0} {H : I → Type 0} where
  -- what a home has at each key
  abbrev pub plain_in : Home I H → ((i : I) × H i → Holding) → Plain
  plain_in h v q = finite.get (maps_of h v).put q

  -- its tables
  abbrev pub tables_in : Home I H → ((i : I) × H i → Holding) → Tables
  tables_in h v = tables_of (plain_in h v)

-- whether a change of a home was put all the same, and waits
abbrev pub is_waiting : MapFault → Bool
is_waiting map_fault.Writers = false
is_waiting (map_fault.NotPut cause) = false
is_waiting (map_fault.Waits cause) = true
is_waiting (map_fault.NotKept cause) = false

-- whether the step of a call was, and waits
abbrev pub waits : TableFault → Bool
waits (Waits cause) = true
waits other = false

-- what a call leaves that was refused: the tables as they were, or changed, if the change waits
abbrev pub IsLeftBy : TableFault → Tables → Tables → Plain → Type 0
IsLeftBy fault was changed p = IsTables (cond (waits fault) changed was) p

-- if a change of one key was refused
abbrev pub IsNotSet : TableFault → Plain → Bytes → Bytes → Option Bytes → Plain → Type 0
IsNotSet fault p t key value new =
    (name : Bytes) → HasNumber p name t → IsLeftBy fault (tables_of p) (with_value (tables_of p) name key value) new
