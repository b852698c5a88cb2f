use Rattle.std.proofs.Common.{◌≡◌, take}
use Rattle.bw_reading.specs.Images.{image_bytes}
use Rattle.bw_reading.proofs.image.bytes_of.Given as goal

abbrev pub invariant-loop-pair : goal.invariant-loop-pair
invariant-loop-pair l = l.image.items ≡ image_bytes (take l.pair-index l.pairs)
