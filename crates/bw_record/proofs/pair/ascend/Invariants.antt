use Rattle.std.proofs.Common.{◌≡◌, drop}
use Rattle.std.specs.Option.{option_copied}
use Rattle.bw_record.specs.Keys.{ascends}
use Rattle.bw_record.proofs.SideBySide.{ascends_after}
use Rattle.bw_record.proofs.pair.ascend.Given as goal

abbrev pub invariant-loop-pair : goal.invariant-loop-pair
invariant-loop-pair l = ascends_after (option_copied l.last) (drop l.pair-index l.pairs) ≡ ascends l.pairs
