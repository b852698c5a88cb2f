use Rattle.std.proofs.Common.{◌≡◌, ◌++◌, map}
use Rattle.bw_file.specs.Settled.{all_calls}
use Rattle.bw_file.specs.FileHolding.{owes}
use Rattle.bw_file.proofs.unsettled.settle_all.Given as goal

-- all that was owed to those before was paid
abbrev pub invariant-loop-one : goal.invariant-loop-one
invariant-loop-one g l = (l.all.value ≡ l.fn.all.value ++ all_calls (map owes l.yielded)) × (l.fn.waiting.items ≡ l.yielded ++ l.one-iterator.rest.items)
