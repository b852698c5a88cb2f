use Rattle.std.proofs.Common.{◌≡◌, replicate}
use Rattle.log_tests.specs.Examples.{long_put}
use Rattle.log_tests.proofs.tests.log.filled.puts.Given as goal

abbrev pub invariant-loop : goal.invariant-loop
invariant-loop l = l.ops.items ≡ replicate l.counter long_put
