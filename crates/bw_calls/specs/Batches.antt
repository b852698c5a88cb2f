-- What a batch makes of tables.

use Rattle.std.specs.Prelude.{◌≡◌, ℕ, List, Option, None, Bool, true, false}
use Rattle.std.specs.List.{fold}
use Rattle.std.specs.Option.{option_map}
use Rattle.std.specs.declared.alloc.Global.{Global}
use Rattle.std.specs.declared.vec.Vec.{Vec}
use Rattle.bw_record.specs.declared.record.Record.{Record}
use Rattle.bw_rows.specs.Spelling.{Bytes, name_key, row_place}
use Rattle.bw_rows.specs.Meaning.{Plain, Tables, value_of, with_value}
use Rattle.bw_rows.specs.Law.{head_at}
use Rattle.bw_rows.specs.Steps.{after, head_in, row_change}
use Rattle.bw_rows.specs.Laws.{HasNumber, IsTables}
use Rattle.bw_rows.specs.Batches.{IsGathering, IsLeft}
use Rattle.bw_calls.specs.declared.batching.Change.{Change}
use Rattle.bw_calls.specs.declared.fault.TableFault.{TableFault}
use Rattle.bw_calls.specs.Standing.{waits}

-- the bytes of a value, if there is one
abbrev pub bytes_in : Option (Vec ℕ Global) → Option Bytes
bytes_in value = option_map {T = Vec ℕ Global} {U = Bytes} (λ v. v.items) value

-- one change is made
abbrev pub with_change : Tables → Change → Tables
with_change tables change = with_value tables change.table change.key (bytes_in change.value)

-- all changes are made, in their order
abbrev pub with_changes : Tables → List Change → Tables
with_changes tables changes = fold with_change tables changes

-- whatever a batch makes so far, it gives this key of the table of a number this value too, or none
abbrev pub Gathers : Plain → Bytes → Bytes → Option Bytes → Plain → Type 0
Gathers p t key value new =
    (tables next : Tables) (name : Bytes) → IsGathering tables next p → HasNumber p name t → IsGathering tables (with_value next name key value) new

-- ---- a small batch is one group

-- a record of a change: the value stands in its row, or the row goes away
pub record IsShort (t : Bytes) (change : Change) (r : Record) : Type 0 where
  pub row : Option Bytes
  pub is : r ≡ row_change (row_place t change.key) row
  pub head : head_in row ≡ None
  pub value : (p : Plain) → option_map (value_of p) row ≡ bytes_in change.value

-- and the row before it names nothing
pub record IsOneRecord (p : Plain) (change : Change) (r : Record) : Type 0 where
  pub t : Bytes
  pub number : HasNumber p change.table t
  pub old : head_at p (row_place t change.key) ≡ None
  pub short : IsShort t change r

-- a group makes these tables, and a row names only what it named before
pub record IsUpTo (p : Plain) (tables : Tables) (group : List Record) : Type 0 where
  pub its : IsTables tables (after p group)
  pub names : (name : Bytes) → after p group (name_key name) ≡ p (name_key name)
  pub heads : (k : Bytes) → head_at p k ≡ None → head_at (after p group) k ≡ None

-- what a batch leaves that was refused: if its step waits, its tables, and else those that were
abbrev pub LeftBy : Bool → Tables → Tables → Plain → Type 0
LeftBy true was changed p = IsLeft changed p
LeftBy false was changed p = IsTables was p

abbrev pub IsBatchLeftBy : TableFault → Tables → Tables → Plain → Type 0
IsBatchLeftBy fault was changed p = LeftBy (waits fault) was changed p
