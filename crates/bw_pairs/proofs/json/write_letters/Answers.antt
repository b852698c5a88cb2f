use Rattle.std.proofs.KnownBytes.{Appends-nil, Appends-trans}
use Rattle.bw_pairs.specs.Json.{letter}
use Rattle.bw_pairs.proofs.Writing.{flat_more}
use Rattle.bw_pairs.proofs.json.write_letters.Goals as goal

pub loop-byte-init : goal.loop-byte-init
loop-byte-init g c = Appends-nil _

pub loop-byte-preserved : goal.loop-byte-preserved
loop-byte-preserved g c =
    rw (flat_more letter c.args.text.now c.loop-byte.byte-index c.loop-byte-test.true)
    (Appends-trans _ _ _ _ _ c.loop-byte.invariant c.in_ok-write_letter.ensures)
