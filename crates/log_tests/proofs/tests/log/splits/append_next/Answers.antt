use Rattle.std.proofs.Common.{ap}
use Rattle.bw_buffer.specs.Filling.{Filling, frame_of}
use Rattle.log_tests.proofs.SplitExample.{split_follows, split_counts}
use Rattle.log_tests.proofs.tests.log.splits.append_next.Goals as goal

pub append-requires-clause-follows : goal.append-requires-clause-follows
append-requires-clause-follows g c =
    split_follows _ _ _ c.requires.from c.requires.to (ap (λ (f : Filling). frame_of f) c.in_ok-frame.ensures) c.requires.counts

pub returns-in-Ok : goal.returns-in-Ok
returns-in-Ok g c =
    split_counts _ _ _ _ c.requires.from c.requires.to (ap (λ (f : Filling). frame_of f) c.in_ok-frame.ensures) c.requires.counts c.in-Ok.ensures
