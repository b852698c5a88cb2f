-- A head for each low so far, each of which begins with the bytes.
use Rattle.std.proofs.Common.{◌≡◌, List, take}
use Rattle.bw_lows.specs.Rows.{Low, keys}
use Rattle.bw_lows.specs.LowRow.{IsWholeRow}
use Rattle.bw_lows.proofs.row.fill.Given as goal

abbrev pub invariant-loop-entry : goal.invariant-loop-entry
invariant-loop-entry l = (lows : List Low) → keys lows ≡ l.entries → IsWholeRow l.shared l.row.items (take l.entry-index lows)
