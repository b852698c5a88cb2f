use Rattle.std.proofs.Common.{subst, sym}
use Rattle.bw_store.specs.Kept.{Kept}
use Rattle.bw_drive.specs.Ran.{Runs}
use Rattle.bw_drive.specs.Settling.{HasSettled}
use Rattle.bw_drive.proofs.Runs.{runs_kept, stops_last}
use Rattle.bw_drive.proofs.driver.finish.Goals as goal

pub returns-in-Ok-clause-runs : goal.returns-in-Ok-clause-runs
returns-in-Ok-clause-runs g c = λ first ran.
    subst (Runs c.args.plan.clean_at first) (sym c.tell.ensures.same) (runs_kept _ first _ _ ran c.settle.ensures.sequel.follows c.settle.ensures.sequel.boxes)

pub returns-in-Err-settle-clause-runs : goal.returns-in-Err-settle-clause-runs
returns-in-Err-settle-clause-runs g c = λ first ran. runs_kept _ first _ _ ran c.settle.ensures.sequel.follows c.settle.ensures.sequel.boxes

pub returns-in-Err-settle-clause-refused : goal.returns-in-Err-settle-clause-refused
returns-in-Err-settle-clause-refused g c =
    λ first ran before. stops_last _ _ _ first _ _ c.in-Err-settle.cause ran c.in-Err-settle.ensures.refused

pub returns-in-Ok-clause-settled : goal.returns-in-Ok-clause-settled
returns-in-Ok-clause-settled g c =
    let e = c.in-Ok.ensures.goal.base in
    subst (λ (s : Kept). HasSettled s c.settle.new.feeds.items c.in-Ok.entries) (sym c.tell.ensures.same) (record {
      exactly = e.exactly;
      writers = e.writers;
      settled = record { stands = e.stand; whole = e.whole; cut = e.last_cut };
      shares = e.shares;
      answer = e.answer;
      published = c.in-Ok.ensures.goal.published;
    })
