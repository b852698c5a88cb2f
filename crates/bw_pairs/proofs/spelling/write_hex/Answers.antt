use Rattle.std.proofs.KnownBytes.{Appends-nil, Appends-trans}
use Rattle.hex.specs.Hex.{encode_with}
use Rattle.bw_pairs.proofs.Writing.{hex_more}
use Rattle.bw_pairs.proofs.spelling.write_hex.Goals as goal

pub loop-byte-init : goal.loop-byte-init
unfolding encode_with
loop-byte-init g c = Appends-nil _

pub loop-byte-preserved : goal.loop-byte-preserved
loop-byte-preserved g c =
    rw (hex_more c.args.bytes.now c.loop-byte.byte-index c.loop-byte-test.true)
    (Appends-trans _ _ _ _ _ c.loop-byte.invariant c.in_ok-write_digits.ensures)
