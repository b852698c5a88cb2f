use Rattle.std.proofs.Common.{inr}
use Rattle.bw_calls.proofs.PlainLaws.{itself, moved, behind}
use Rattle.bw_calls.proofs.LeaveLaws.{in_moved}
use Rattle.bw_calls.proofs.NameLaws.{asides_moved, asides_then, no_table_moved, table_moved}
use Rattle.bw_calls.proofs.OtherLaws.{on_any, on_then}
use Rattle.bw_calls.proofs.naming.clear.Goals as goal

pub returns-in_err-has_table-clause-stays : goal.returns-in_err-has_table-clause-stays
returns-in_err-has_table-clause-stays g c = λ lawful. moved _ _ _ (itself _ lawful) c.has_table.ensures.same

pub returns-in_err-has_table-clause-leaves : goal.returns-in_err-has_table-clause-leaves
returns-in_err-has_table-clause-leaves g c = λ lawful ts among stops. c.has_table.ensures.leaves ts stops

pub returns-then-branch-clause-stays : goal.returns-then-branch-clause-stays
returns-then-branch-clause-stays g c = λ lawful.
    let h = moved _ _ _ (itself _ lawful) c.has_table.ensures.same in
    behind _ _ _ h (c.forget.ensures.stays h.lawful (inr (table_moved _ _ c.args.table.bytes c.has_table.ensures.same (c.in_ok-has_table.ensures.has c.if-branch.true))))

pub returns-then-branch-clause-leaves : goal.returns-then-branch-clause-leaves
returns-then-branch-clause-leaves g c = λ lawful ts among stops.
    let h = moved _ _ _ (itself _ lawful) c.has_table.ensures.same in
    c.forget.ensures.leaves h.lawful (inr (table_moved _ _ c.args.table.bytes c.has_table.ensures.same (c.in_ok-has_table.ensures.has c.if-branch.true))) ts (in_moved ts _ _ c.has_table.ensures.same among) (c.has_table.ensures.leaves ts stops)

pub returns-clause-stays : goal.returns-clause-stays
returns-clause-stays g c = λ lawful.
    let h = moved _ _ _ (itself _ lawful) c.has_table.ensures.same in
    let none = no_table_moved _ _ c.args.table.bytes c.has_table.ensures.same (c.in_ok-has_table.ensures.none c.if-branch.false) in
    behind _ _ _ h (c.clear_rows.ensures.stays h.lawful none)

pub returns-clause-leaves : goal.returns-clause-leaves
returns-clause-leaves g c = λ lawful ts among stops.
    let h = moved _ _ _ (itself _ lawful) c.has_table.ensures.same in
    let none = no_table_moved _ _ c.args.table.bytes c.has_table.ensures.same (c.in_ok-has_table.ensures.none c.if-branch.false) in
    c.clear_rows.ensures.leaves h.lawful none ts (in_moved ts _ _ c.has_table.ensures.same among) (c.has_table.ensures.leaves ts stops)

pub returns-then-branch-clause-asides : goal.returns-then-branch-clause-asides
returns-then-branch-clause-asides g c = on_any c.forget.result (asides_then _ _ _ (asides_moved _ _ c.has_table.ensures.same) c.forget.ensures.asides)

pub returns-clause-asides : goal.returns-clause-asides
returns-clause-asides g c = on_then c.clear_rows.result (asides_then _ _ _ (asides_moved _ _ c.has_table.ensures.same)) c.clear_rows.ensures.asides
