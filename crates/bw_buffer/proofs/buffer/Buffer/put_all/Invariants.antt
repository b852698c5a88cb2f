use Rattle.std.proofs.Common.{◌≡◌, take}
use Rattle.bw_buffer.specs.Filling.{with_all}
use Rattle.bw_buffer.proofs.buffer.Buffer.put_all.Given as goal

abbrev pub invariant-loop-block : goal.invariant-loop-block
invariant-loop-block l = l.self ≡ with_all l.initial.self (take l.block-index l.blocks)
