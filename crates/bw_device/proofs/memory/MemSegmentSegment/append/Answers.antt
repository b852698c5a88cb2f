use Rattle.bw_device.proofs.memory.MemSegmentSegment.append.Goals as goal

pub returns-clause-added : goal.returns-clause-added
returns-clause-added c = c.add.ensures
