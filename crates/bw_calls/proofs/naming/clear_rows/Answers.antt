use Rattle.std.proofs.Common.{inl}
use Rattle.bw_calls.proofs.PlainLaws.{moved, behind}
use Rattle.bw_calls.proofs.LeaveLaws.{in_its}
use Rattle.bw_calls.proofs.NameLaws.{asides_in, asides_then, marks_moved, marks_then, none_moved, still_no_table}
use Rattle.bw_calls.proofs.OtherLaws.{on_any}
use Rattle.bw_calls.proofs.naming.clear_rows.Goals as goal

pub returns-in_err-key-clause-stays : goal.returns-in_err-key-clause-stays
returns-in_err-key-clause-stays g c = λ lawful none. moved _ _ _ (c.rows.invariant.1 lawful none) c.first_row.ensures.same

pub returns-in_err-key-clause-leaves : goal.returns-in_err-key-clause-leaves
returns-in_err-key-clause-leaves g c = λ lawful none ts among stops. c.first_row.ensures.leaves ts (c.rows.invariant.2 lawful none ts among stops)

pub returns-in_err-drop_key-in-Some-clause-stays : goal.returns-in_err-drop_key-in-Some-clause-stays
returns-in_err-drop_key-in-Some-clause-stays g c = λ lawful none.
    let h = moved _ _ _ (c.rows.invariant.1 lawful none) c.first_row.ensures.same in
    let still = still_no_table _ _ c.args.table.bytes (marks_then _ _ _ c.rows.invariant.3 (marks_moved _ _ c.first_row.ensures.same)) none in
    behind _ _ _ h (c.drop_key.ensures.stays h.lawful still)

pub returns-in_err-drop_key-in-Some-clause-leaves : goal.returns-in_err-drop_key-in-Some-clause-leaves
returns-in_err-drop_key-in-Some-clause-leaves g c = λ lawful none ts among stops.
    let h = moved _ _ _ (c.rows.invariant.1 lawful none) c.first_row.ensures.same in
    let still = still_no_table _ _ c.args.table.bytes (marks_then _ _ _ c.rows.invariant.3 (marks_moved _ _ c.first_row.ensures.same)) none in
    c.drop_key.ensures.leaves h.lawful still ts (in_its ts _ _ h among) (c.first_row.ensures.leaves ts (c.rows.invariant.2 lawful none ts among stops))

pub returns-in-None-clause-stays : goal.returns-in-None-clause-stays
returns-in-None-clause-stays g c = λ lawful none.
    let h = moved _ _ _ (c.rows.invariant.1 lawful none) c.first_row.ensures.same in
    behind _ _ _ h (c.forget.ensures.stays h.lawful (inl (none_moved _ _ c.args.table.bytes c.first_row.ensures.same (c.in_ok-key.ensures.none c.in-None.is))))

pub returns-in-None-clause-leaves : goal.returns-in-None-clause-leaves
returns-in-None-clause-leaves g c = λ lawful none ts among stops.
    let h = moved _ _ _ (c.rows.invariant.1 lawful none) c.first_row.ensures.same in
    c.forget.ensures.leaves h.lawful (inl (none_moved _ _ c.args.table.bytes c.first_row.ensures.same (c.in_ok-key.ensures.none c.in-None.is))) ts (in_its ts _ _ h among) (c.first_row.ensures.leaves ts (c.rows.invariant.2 lawful none ts among stops))

pub rows-preserved : goal.rows-preserved
rows-preserved g c = (
  c.drop_key.ensures.ready,
  λ lawful none.
      let h = moved _ _ _ (c.rows.invariant.1 lawful none) c.first_row.ensures.same in
      let still = still_no_table _ _ c.args.table.bytes (marks_then _ _ _ c.rows.invariant.3 (marks_moved _ _ c.first_row.ensures.same)) none in
      behind _ _ _ h (c.drop_key.ensures.stays h.lawful still),
  λ lawful none ts among stops.
      let h = moved _ _ _ (c.rows.invariant.1 lawful none) c.first_row.ensures.same in
      let still = still_no_table _ _ c.args.table.bytes (marks_then _ _ _ c.rows.invariant.3 (marks_moved _ _ c.first_row.ensures.same)) none in
      c.drop_key.ensures.leaves h.lawful still ts (in_its ts _ _ h among) (c.first_row.ensures.leaves ts (c.rows.invariant.2 lawful none ts among stops)),
  marks_then _ _ _ (marks_then _ _ _ c.rows.invariant.3 (marks_moved _ _ c.first_row.ensures.same)) c.drop_key.ensures.marks,
)

pub returns-in-None-clause-asides : goal.returns-in-None-clause-asides
returns-in-None-clause-asides g c =
    on_any c.forget.result (asides_then _ _ _ (asides_in _ _ (marks_then _ _ _ c.rows.invariant.3 (marks_moved _ _ c.first_row.ensures.same))) c.forget.ensures.asides)
