use Rattle.std.proofs.Common.{[]}
use Rattle.bw_log.specs.Segments.{segment_frames}
use Rattle.bw_care.proofs.SpelledAhead.{nothing_read, read_says}
use Rattle.bw_care.proofs.copies.pages_in.Goals as goal

pub returns-in-Ok : goal.returns-in-Ok
returns-in-Ok c =
    read_says (segment_frames c.args.bytes.now) c.read_segment.new.lines
    (c.in-Ok.ensures.ok [] (nothing_read 18446744073709551615 c.new-lines.result c.new-lines.ensures.empty)).lines
