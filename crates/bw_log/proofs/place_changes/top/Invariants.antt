use Rattle.std.proofs.Common.{◌≡◌, max, drop}
use Rattle.bw_log.specs.PageTable.{top_page}
use Rattle.bw_log.proofs.place_changes.top.Given as goal

abbrev pub invariant-loop-index : goal.invariant-loop-index
invariant-loop-index l = max l.best (top_page (drop l.index l.buffer.blocks)) ≡ top_page l.buffer.blocks
