use Rattle.std.proofs.Common.{inl}
use Rattle.bw_tables.specs.Writing.{named}
use Rattle.bw_calls.proofs.PlainLaws.{itself, moved, kept_by, wrote}
use Rattle.bw_calls.proofs.NameLaws.{dropped_row, marks_after, marks_moved, marks_then}
use Rattle.bw_calls.proofs.naming.take_row.Goals as goal

pub returns-in_err-old-clause-stays : goal.returns-in_err-old-clause-stays
returns-in_err-old-clause-stays g c = λ lawful none. moved _ _ _ (itself _ lawful) c.head_of.ensures.same

pub returns-in_err-old-clause-marks : goal.returns-in_err-old-clause-marks
returns-in_err-old-clause-marks g c = marks_moved _ _ c.head_of.ensures.same

pub returns-in_err-old-clause-leaves : goal.returns-in_err-old-clause-leaves
returns-in_err-old-clause-leaves g c = λ lawful none ts among stops. c.head_of.ensures.leaves ts stops

pub returns-in_err-prepare-clause-stays : goal.returns-in_err-prepare-clause-stays
returns-in_err-prepare-clause-stays g c = λ lawful none.
    let group = c.drop_row.result in
    let done = dropped_row _ _ c.args.table.bytes c.args.key.now (named c.in_ok-old.old) group c.drop_row.ensures.drops lawful none c.head_of.ensures.same c.in_ok-old.ensures.head in
    kept_by _ _ _ _ (moved _ _ _ (itself _ lawful) c.head_of.ensures.same) done (wrote c.prepare.result _ _ _ c.prepare.ensures.changed c.prepare.ensures.refused)

pub returns-in_err-prepare-clause-marks : goal.returns-in_err-prepare-clause-marks
returns-in_err-prepare-clause-marks g c = marks_then _ _ _ (marks_moved _ _ c.head_of.ensures.same) (marks_after _ _ c.drop_row.result c.prepare.result c.drop_row.ensures.marks c.prepare.ensures.changed c.prepare.ensures.refused)

pub returns-in_err-prepare-clause-leaves : goal.returns-in_err-prepare-clause-leaves
returns-in_err-prepare-clause-leaves g c = λ lawful none ts among stops.
    let group = c.drop_row.result in
    let done = dropped_row _ _ c.args.table.bytes c.args.key.now (named c.in_ok-old.old) group c.drop_row.ensures.drops lawful none c.head_of.ensures.same c.in_ok-old.ensures.head in
    c.prepare.ensures.leaves ts (_, among, inl done) (c.head_of.ensures.leaves ts stops)

pub returns-clause-stays : goal.returns-clause-stays
returns-clause-stays g c = λ lawful none.
    let group = c.drop_row.result in
    let done = dropped_row _ _ c.args.table.bytes c.args.key.now (named c.in_ok-old.old) group c.drop_row.ensures.drops lawful none c.head_of.ensures.same c.in_ok-old.ensures.head in
    kept_by _ _ _ _ (moved _ _ _ (itself _ lawful) c.head_of.ensures.same) done (wrote c.prepare.result _ _ _ c.prepare.ensures.changed c.prepare.ensures.refused)

pub returns-clause-marks : goal.returns-clause-marks
returns-clause-marks g c = marks_then _ _ _ (marks_moved _ _ c.head_of.ensures.same) (marks_after _ _ c.drop_row.result c.prepare.result c.drop_row.ensures.marks c.prepare.ensures.changed c.prepare.ensures.refused)

pub returns-clause-leaves : goal.returns-clause-leaves
returns-clause-leaves g c = λ lawful none ts among stops.
    let group = c.drop_row.result in
    let done = dropped_row _ _ c.args.table.bytes c.args.key.now (named c.in_ok-old.old) group c.drop_row.ensures.drops lawful none c.head_of.ensures.same c.in_ok-old.ensures.head in
    c.prepare.ensures.leaves ts (_, among, inl done) (c.head_of.ensures.leaves ts stops)
