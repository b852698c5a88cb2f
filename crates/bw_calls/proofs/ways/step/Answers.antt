use Rattle.bw_calls.proofs.WayLaws.{put_is, step_is}
use Rattle.bw_calls.proofs.LeaveLaws.{writes_by}
use Rattle.bw_calls.proofs.ways.step.Goals as goal

pub returns-in-Ok-clause-changed : goal.returns-in-Ok-clause-changed
returns-in-Ok-clause-changed g c = put_is _ _ c.args.group c.in-Ok.ensures.changed.put

pub returns-in-Err-clause-refused : goal.returns-in-Err-clause-refused
returns-in-Err-clause-refused g c = step_is c.in-Err.fault _ _ _ c.args.group c.step_fault.ensures c.in-Err.ensures.refused

pub returns-in-Ok-clause-leaves : goal.returns-in-Ok-clause-leaves
returns-in-Ok-clause-leaves g c = writes_by c.args.home.now c.change.new.self (λ z. (goal.Segment-dyn g z).holding z.1) c.change.result c.args.group c.change.ensures.map c.change.ensures.cuts

pub returns-in-Err-clause-leaves : goal.returns-in-Err-clause-leaves
returns-in-Err-clause-leaves g c = writes_by c.args.home.now c.change.new.self (λ z. (goal.Segment-dyn g z).holding z.1) c.change.result c.args.group c.change.ensures.map c.change.ensures.cuts
