use Rattle.std.proofs.KnownBytes.{Appends-nil, Appends-trans}
use Rattle.bw_pairs.specs.Dumps.{escape}
use Rattle.bw_pairs.proofs.Writing.{flat_more}
use Rattle.bw_pairs.proofs.dump.write_escaped.Goals as goal

pub loop-byte-init : goal.loop-byte-init
loop-byte-init g c = Appends-nil _

pub loop-byte-preserved : goal.loop-byte-preserved
loop-byte-preserved g c =
    rw (flat_more escape c.args.bytes.now c.loop-byte.byte-index c.loop-byte-test.true)
    (Appends-trans _ _ _ _ _ c.loop-byte.invariant c.in_ok-write_letter.ensures)
