use Rattle.bw_file.proofs.segment.FileSegmentSegment.read.Goals as goal

pub returns-clause-bytes : goal.returns-clause-bytes
returns-clause-bytes g c = c.read.ensures.bytes
