use Rattle.std.proofs.Common.{◌∙◌, sym}
use Rattle.bw_leaf.proofs.Seeking.{sought_at}
use Rattle.bw_leaf.proofs.hollow.Hollow.delete.Goals as goal
use Rattle.std.specs.Prelude.{Ok, Err}

pub returns-in-Ok : goal.returns-in-Ok
returns-in-Ok c = c.remove.ensures ∙ (sought_at c.args.key.now c.args.self.now (Ok c.in-Ok.at) (sym c.in-Ok.is ∙ c.find.ensures.found)).1

pub returns-in-Err : goal.returns-in-Err
returns-in-Err c = (sought_at c.args.key.now c.args.self.now (Err c.in-Err.field-0) (sym c.in-Err.is ∙ c.find.ensures.found)).1
