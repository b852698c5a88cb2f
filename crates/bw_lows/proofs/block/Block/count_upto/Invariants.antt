use Rattle.std.proofs.Common.{◌-◌, length}
use Rattle.bw_record.specs.Keys.{is_below}
use Rattle.bw_lows.specs.Rows.{low_at, IsBetween}
use Rattle.bw_lows.proofs.block.Block.count_upto.Given as goal

abbrev pub invariant-loop-from : goal.invariant-loop-from
invariant-loop-from l = IsBetween (λ i. is_below l.key (low_at l.self i)) (length l.self) l.from l.to

abbrev pub decreases-loop-from : goal.decreases-loop-from
decreases-loop-from l = l.to - l.from
