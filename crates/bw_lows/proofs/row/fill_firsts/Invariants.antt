-- A head for each first low so far, each of which begins with the bytes.
use Rattle.std.proofs.Common.{take}
use Rattle.bw_lows.specs.LowRow.{IsWholeRow}
use Rattle.bw_lows.specs.Flat.{firsts}
use Rattle.bw_lows.proofs.row.fill_firsts.Given as goal

abbrev pub invariant-loop-block : goal.invariant-loop-block
invariant-loop-block l = IsWholeRow l.shared l.row.items (take l.block-index (firsts l.blocks))
