-- One writer more has ended, and at last all have.

use Rattle.std.proofs.Common.{ℕ, ◌≡◌, [], ◌∷◌, ◌++◌, ap, ◌∙◌, length, map, sym, subst, arith, List}
use Rattle.bw_ring.specs.declared.feed.Feed.{Feed}
use Rattle.bw_drive.specs.declared.writers.Job.{Job}
use Rattle.bw_drive.specs.Pending.{job_of}
use Rattle.bw_drive.specs.Written.{after_scripts, ring_of_job, given_before, script_of}
use Rattle.bw_drive.proofs.Ends.{HaveEnded, one_more, all_done}
use Rattle.bw_drive.proofs.writer_threads.end_all.Goals as goal

pub ends-preserved : goal.ends-preserved
ends-preserved g c =
    let jobs : List Job = map job_of c.args.writers.items in
    let rest : List Job = map job_of c.pop_front.new.self.items in
    let first : map job_of c.ends.writers.items ≡ job_of c.in-Some.writer ∷ rest = ap (map job_of) c.in-Some.ensures.items in
    let had = subst (λ (js : List Job). HaveEnded jobs js c.ends.feeds.items c.ends.counts.items) first c.ends.invariant.some in
    let more = one_more jobs rest c.ends.feeds.items c.ends.counts.items (job_of c.in-Some.writer) c.end_one-feed.result had c.end_one-feed.ensures in
    record {
      some = subst (λ (fs : List Feed). HaveEnded jobs rest fs c.push_reserved-in-Some.new.self.items) (sym c.push_reserved.ensures.items)
          (subst (λ (ks : List ℕ). HaveEnded jobs rest (c.ends.feeds.items ++ c.end_one-feed.result.feed ∷ []) ks)
          (sym c.push_reserved-in-Some.ensures.items) more);
      feeds_room = omega (arith, ap length c.in-Some.ensures.items);
      counts_room = omega (arith, ap length c.in-Some.ensures.items);
    }

pub returns-clause-rings : goal.returns-clause-rings
returns-clause-rings g c =
    let had = c.ends.invariant.some in
    had.rings ∙ ap (map ring_of_job) (all_done _ _ _ _ had (omega (arith, c.ends.writers.ok, c.in_default.ensures.cases.0)))

pub returns-clause-accepted : goal.returns-clause-accepted
returns-clause-accepted g c =
    let had = c.ends.invariant.some in
    had.gave ∙ ap (λ js. after_scripts (map given_before js) (map script_of js) c.ends.counts.items)
    (all_done _ _ _ _ had (omega (arith, c.ends.writers.ok, c.in_default.ensures.cases.0)))
