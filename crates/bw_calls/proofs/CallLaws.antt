-- What a call leaves, by its answer.

use Rattle.std.proofs.Common.{◌≡◌, Option, Some, sym, subst}
use Rattle.std.specs.Prelude.{Result, Ok, Err, OnOk, IfErr}
use Rattle.std.specs.Option.{option_map}
use Rattle.bw_leaf.specs.Changed.{Map}
use Rattle.bw_rows.specs.Spelling.{Bytes, name_key}
use Rattle.bw_rows.specs.Meaning.{Plain, tables_of, table_in, with_value}
use Rattle.bw_rows.specs.Laws.{IsTables}
use Rattle.bw_calls.specs.Changes.{IsSet}
use Rattle.bw_calls.specs.Standing.{IsLeftBy, IsNotSet}
use Rattle.bw_calls.specs.declared.fault.TableFault.{TableFault}
use Rattle.bw_calls.proofs.PlainLaws.{plain_of, set_by}

pub finished : {A E : Type 0} (r : Result A E) (m m1 : Map) (name t key : Bytes) (value : Option Bytes) (new : Plain) → m1 ≡ m
    → Some t ≡ option_map table_in (plain_of m (name_key name)) → OnOk r (IsSet (plain_of m1) t key value new)
    → OnOk r (IsTables (with_value (tables_of (plain_of m)) name key value) new)
finished (Ok x) m m1 name t key value new same e set = set_by m m1 name t key value new same e set
finished (Err fault) m m1 name t key value new same e set = tt

left : (fault : TableFault) (m m1 : Map) (name t key : Bytes) (value : Option Bytes) (new : Plain) → m1 ≡ m
    → Some t ≡ option_map table_in (plain_of m (name_key name)) → IsNotSet fault (plain_of m1) t key value new
    → IsLeftBy fault (tables_of (plain_of m)) (with_value (tables_of (plain_of m)) name key value) new
left fault m m1 name t key value new same e not_set =
    let there : IsNotSet fault (plain_of m) t key value new = subst (λ (x : Map). IsNotSet fault (plain_of x) t key value new) same not_set in
    there name (sym e)

pub refused : {A : Type 0} (r : Result A TableFault) (m m1 : Map) (name t key : Bytes) (value : Option Bytes) (new : Plain) → m1 ≡ m
    → Some t ≡ option_map table_in (plain_of m (name_key name)) → IfErr r (λ fault. IsNotSet fault (plain_of m1) t key value new)
    → IfErr r (λ fault. IsLeftBy fault (tables_of (plain_of m)) (with_value (tables_of (plain_of m)) name key value) new)
refused (Ok x) m m1 name t key value new same e set = tt
refused (Err fault) m m1 name t key value new same e set = left fault m m1 name t key value new same e set
