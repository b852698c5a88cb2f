use Rattle.std.proofs.Common.{◌-◌, List, length}
use Rattle.bw_record.specs.declared.block.Frame.{Frame}
use Rattle.bw_care.proofs.FrontsRead.{IsReadTo}
use Rattle.bw_care.specs.Spelling.{frame_first}
use Rattle.bw_care.proofs.scan.read_behind.Given as goal

-- some frames were read, and no one holds them
abbrev pub invariant-frames : goal.invariant-frames
invariant-frames l = (done : List Frame) × IsReadTo l.header l.bytes l.at done l.lines.items

abbrev pub decreases-frames : goal.decreases-frames
decreases-frames l = length l.bytes - l.at

-- the frame that these bytes spell
abbrev pub ghost-line_of : goal.ghost-line_of
ghost-line_of a = frame_first a.header.now a.bytes.now
