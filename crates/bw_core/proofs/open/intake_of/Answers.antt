use Rattle.bw_core.proofs.open.intake_of.Goals as goal

pub returns-clause-unused : goal.returns-clause-unused
returns-clause-unused c = record { nothing = c.in_ok-open.ensures.nothing; rooms = c.in_ok-open.ensures.rooms }
