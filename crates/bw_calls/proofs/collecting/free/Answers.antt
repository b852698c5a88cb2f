use Rattle.std.proofs.Common.{inl}
use Rattle.bw_calls.proofs.PlainLaws.{freed}
use Rattle.bw_calls.proofs.PlainLaws.{itself}
use Rattle.bw_calls.proofs.NameLaws.{marks_after}
use Rattle.bw_calls.proofs.collecting.free.Goals as goal

pub returns-clause-stays : goal.returns-clause-stays
returns-clause-stays g c = λ lawful none.
    freed _ _ c.args.number.bytes c.free_group.result c.prepare.result c.free_group.ensures.frees lawful none c.prepare.ensures.changed c.prepare.ensures.refused

pub returns-clause-leaves : goal.returns-clause-leaves
returns-clause-leaves g c = λ lawful none ts among stops.
    c.prepare.ensures.leaves ts (_, among, inl (c.free_group.ensures.frees _ _ (itself _ lawful) none)) stops

pub returns-clause-marks : goal.returns-clause-marks
returns-clause-marks g c = marks_after _ _ c.free_group.result c.prepare.result c.free_group.ensures.marks c.prepare.ensures.changed c.prepare.ensures.refused
