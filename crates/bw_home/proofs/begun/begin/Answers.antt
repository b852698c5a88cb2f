use Rattle.bw_home.proofs.begun.begin.Goals as goal

pub returns-clause-begins : goal.returns-clause-begins
returns-clause-begins g c = λ old. c.in_ok-reopen.ensures.begins _ c.in_ok-found.ensures.found
