use Rattle.bw_calls.proofs.PlainLaws.{moved, behind}
use Rattle.bw_calls.proofs.LeaveLaws.{in_its}
use Rattle.bw_calls.proofs.NameLaws.{asides_moved, asides_then, none_gone_moved}
use Rattle.bw_calls.proofs.naming.clear_gone.Goals as goal

pub tables-preserved : goal.tables-preserved
tables-preserved g c = (
  c.clear.ensures.ready,
  λ lawful.
      let h = moved _ _ _ (c.tables.invariant.1 lawful) c.first_gone.ensures.same in
      behind _ _ _ h (c.clear.ensures.stays h.lawful),
  λ lawful ts among stops.
      let h = moved _ _ _ (c.tables.invariant.1 lawful) c.first_gone.ensures.same in
      c.clear.ensures.leaves h.lawful ts (in_its ts _ _ h among) (c.first_gone.ensures.leaves ts (c.tables.invariant.2 lawful ts among stops)),
  asides_then _ _ _ (asides_then _ _ _ c.tables.invariant.3 (asides_moved _ _ c.first_gone.ensures.same)) c.in_ok-clear-in-Some.ensures.asides,
)

pub returns-in_err-table-clause-stays : goal.returns-in_err-table-clause-stays
returns-in_err-table-clause-stays g c = λ lawful. moved _ _ _ (c.tables.invariant.1 lawful) c.first_gone.ensures.same

pub returns-in_err-clear-in-Some-clause-stays : goal.returns-in_err-clear-in-Some-clause-stays
returns-in_err-clear-in-Some-clause-stays g c = λ lawful.
    let h = moved _ _ _ (c.tables.invariant.1 lawful) c.first_gone.ensures.same in
    behind _ _ _ h (c.clear.ensures.stays h.lawful)

pub returns-in-None-clause-stays : goal.returns-in-None-clause-stays
returns-in-None-clause-stays g c = λ lawful. moved _ _ _ (c.tables.invariant.1 lawful) c.first_gone.ensures.same

pub returns-in_err-table-clause-leaves : goal.returns-in_err-table-clause-leaves
returns-in_err-table-clause-leaves g c = λ lawful ts among stops. c.first_gone.ensures.leaves ts (c.tables.invariant.2 lawful ts among stops)

pub returns-in_err-clear-in-Some-clause-leaves : goal.returns-in_err-clear-in-Some-clause-leaves
returns-in_err-clear-in-Some-clause-leaves g c = λ lawful ts among stops.
    let h = moved _ _ _ (c.tables.invariant.1 lawful) c.first_gone.ensures.same in
    c.clear.ensures.leaves h.lawful ts (in_its ts _ _ h among) (c.first_gone.ensures.leaves ts (c.tables.invariant.2 lawful ts among stops))

pub returns-in-None-clause-leaves : goal.returns-in-None-clause-leaves
returns-in-None-clause-leaves g c = λ lawful ts among stops. c.first_gone.ensures.leaves ts (c.tables.invariant.2 lawful ts among stops)

pub returns-in-None-clause-asides : goal.returns-in-None-clause-asides
returns-in-None-clause-asides g c = asides_then _ _ _ c.tables.invariant.3 (asides_moved _ _ c.first_gone.ensures.same)

pub returns-in-None-clause-none : goal.returns-in-None-clause-none
returns-in-None-clause-none g c = none_gone_moved _ _ c.first_gone.ensures.same (c.in_ok-table.ensures.none c.in-None.is)
