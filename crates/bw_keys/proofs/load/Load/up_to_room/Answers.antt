use Rattle.std.proofs.Common.{refl, ap, map}
use Rattle.bw_ring.specs.Ends.{accepted}
use Rattle.bw_keys.proofs.Loading.{and_then, from_same, idle}
use Rattle.bw_keys.proofs.load.Load.up_to_room.Goals as goal

pub returns-then-branch-clause-puts : goal.returns-then-branch-clause-puts
returns-then-branch-clause-puts g c = λ all. idle _ _ _ _ _ _ refl (ap (λ f. map accepted f.items) c.in_ok-first_look.ensures.feeds) refl

pub steps-init : goal.steps-init
steps-init g c = record {
  ready = c.in_ok-first_look.ensures.ready;
  puts = λ all. idle _ _ _ _ _ _ refl refl refl;
}

pub returns-then-ne-clause-puts : goal.returns-then-ne-clause-puts
returns-then-ne-clause-puts g c = λ all. from_same _ _ _ _ _ _ _ (ap (λ f. map accepted f.items) c.in_ok-first_look.ensures.feeds)
    (and_then _ _ _ _ _ _ _ _ _ (c.steps.invariant.puts all) (c.in_ok-step.ensures.puts all))

pub steps-preserved : goal.steps-preserved
steps-preserved g c = record {
  ready = c.in_ok-step.ensures.ready;
  puts = λ all. and_then _ _ _ _ _ _ _ _ _ (c.steps.invariant.puts all) (c.in_ok-step.ensures.puts all);
}
