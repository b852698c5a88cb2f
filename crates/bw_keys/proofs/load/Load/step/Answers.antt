use Rattle.std.proofs.Common.{refl, ap, map}
use Rattle.bw_ring.specs.Ends.{accepted}
use Rattle.bw_keys.proofs.Loading.{idle, if_so, no_end, none_read, read_then_put, whatever}
use Rattle.bw_keys.proofs.load.Load.step.Goals as goal

pub returns-in-Over-clause-puts : goal.returns-in-Over-clause-puts
returns-in-Over-clause-puts g c = λ all. whatever _ _ (idle _ _ _ _ _ _ refl c.close.ensures.queues refl)

pub returns-in-Some-clause-puts : goal.returns-in-Some-clause-puts
returns-in-Some-clause-puts g c = λ all. if_so _ _ _
    (read_then_put _ _ _ _ _ _ _ _ _ c.in-Some.ensures.came c.put.ensures.given (ap (λ f. map accepted f.items) c.in-Some.ensures.feeds)) c.put.ensures.puts

pub returns-in-Some-clause-stored : goal.returns-in-Some-clause-stored
returns-in-Some-clause-stored g c = no_end _ _ c.put.ensures.goes_on

pub returns-in-Some-clause-empty : goal.returns-in-Some-clause-empty
returns-in-Some-clause-empty g c = no_end _ _ c.put.ensures.goes_on

pub returns-in-Some-2-clause-stored : goal.returns-in-Some-2-clause-stored
returns-in-Some-2-clause-stored g c = no_end _ _ c.put_if_wanted.ensures.goes_on

pub returns-in-Some-2-clause-empty : goal.returns-in-Some-2-clause-empty
returns-in-Some-2-clause-empty g c = no_end _ _ c.put_if_wanted.ensures.goes_on

pub returns-in-None-clause-puts : goal.returns-in-None-clause-puts
returns-in-None-clause-puts g c = λ all.
    none_read _ _ _ _ _ _ c.in-None.ensures.came (ap (λ f. map accepted f.items) c.in-None.ensures.feeds) c.in-None.ensures.empty
