use Rattle.std.proofs.Common.{◌∙◌, arith}
use Rattle.log_tests.proofs.FilledExample.{one_more, last_one}
use Rattle.log_tests.proofs.tests.log.filled.puts.Goals as goal

pub loop-init : goal.loop-init
loop-init c = c.new-ops.ensures.items

pub loop-preserved : goal.loop-preserved
loop-preserved c = one_more _ _ _ _ c.loop.invariant c.in_ok-packed_of.ensures c.in-Ok.ensures.items

pub returns-in-Ok-push : goal.returns-in-Ok-push
returns-in-Ok-push c =
    c.of.ensures ∙ last_one _ _ _ _ c.loop.invariant (omega arith) c.in_ok-packed_of-2.ensures c.in-Ok-push.ensures.items
