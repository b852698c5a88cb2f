use Rattle.std.proofs.Common.{◌≡◌, take}
use Rattle.bw_buffer.specs.Joining.{open_records, added}
use Rattle.bw_buffer.proofs.buffer.Buffer.records_behind.Given as goal

abbrev pub invariant-loop-block : goal.invariant-loop-block
invariant-loop-block l = l.records ≡ open_records l.page (added l.self.blocks (take l.block-index l.others))
