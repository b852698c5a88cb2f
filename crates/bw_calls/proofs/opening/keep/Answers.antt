use Rattle.bw_calls.proofs.LeaveLaws.{kept_some, reads_by}
use Rattle.bw_calls.proofs.opening.keep.Goals as goal

pub returns-in-Ok-clause-kept : goal.returns-in-Ok-clause-kept
returns-in-Ok-clause-kept g c = λ lawful is. kept_some _ _ _ lawful c.keep.ensures.stays is c.in-Ok.ensures.kept

pub returns-in-Ok-clause-leaves : goal.returns-in-Ok-clause-leaves
returns-in-Ok-clause-leaves g c = reads_by _ _ _ c.keep.ensures.stays

pub returns-in-Err-clause-leaves : goal.returns-in-Err-clause-leaves
returns-in-Err-clause-leaves g c = reads_by _ _ _ c.keep.ensures.stays
