use Rattle.std.proofs.Common.{arith, rules}
use Rattle.bw_drive.proofs.Ends.{none_wrote}
use Rattle.bw_drive.proofs.Runs.{runs_none}
use Rattle.bw_drive.proofs.driver.drive.Goals as goal

pub returns-in-Err-clause-wrote : goal.returns-in-Err-clause-wrote
returns-in-Err-clause-wrote g c =
    let one_each = c.requires.one_each in
    none_wrote c.args.feeds.items _ c.args.scripts.items (omega arith) c.in-Err.ensures.back

pub returns-in-Err-clause-runs : goal.returns-in-Err-clause-runs
returns-in-Err-clause-runs g c = runs_none _ _

pub returns-clause-refused : goal.returns-clause-refused
returns-clause-refused g c = rw (c.store-1.given.1 (search rules)) (c.finish.ensures.refused _ (search rules) (search rules))

pub returns-clause-runs : goal.returns-clause-runs
returns-clause-runs g c = rw (c.store-1.given.1 (search rules)) (c.finish.ensures.runs _ (search rules))

pub returns-clause-settled : goal.returns-clause-settled
returns-clause-settled g c = rw (c.store-1.given.1 (search rules)) c.finish.ensures.settled

pub returns-clause-sound : goal.returns-clause-sound
returns-clause-sound g c = rw (c.store-1.given.1 (search rules)) c.finish.ensures.sound
