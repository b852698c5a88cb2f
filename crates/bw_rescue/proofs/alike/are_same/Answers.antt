use Rattle.bw_rescue.proofs.SameFiles.{alike}
use Rattle.bw_rescue.proofs.alike.are_same.Goals as goal

pub returns-then-are_held-clause-alike : goal.returns-then-are_held-clause-alike
returns-then-are_held-clause-alike c = λ held.
    alike c.args.images.now c.args.read.now (c.are_held.ensures.0 c.if-are_held.true) (c.are_held-then-are_held.ensures.0 held)
