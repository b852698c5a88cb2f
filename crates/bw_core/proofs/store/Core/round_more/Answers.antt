use Rattle.std.proofs.Common.{refl, ◌∙◌, arith}
use Rattle.std.proofs.lemmas.Result.{err_from_is_err_and}
use Rattle.bw_core.proofs.FollowMore.{refused_within, still_within}
use Rattle.bw_history.proofs.Laned.{all_dry, dry_further}
use Rattle.bw_core.proofs.RoundsMore.{end_round, fair_of}
use Rattle.bw_core.proofs.store.Core.round_more.Goals as goal

pub lanes-init : goal.lanes-init
lanes-init g c = record {
  sound = c.requires.sound;
  count = refl;
  turned = λ first x. x;
  low = omega arith;
  within = c.requires.within;
  few = c.requires.few;
  dry = λ none i lt. absurd (omega arith);
  noted = refl;
  rounds = λ first_lanes first rounds x. x;
}

pub lanes-preserved : goal.lanes-preserved
lanes-preserved g c = record {
  sound = c.in_ok-so_far.ensures.quiet.sound;
  count = c.in_ok-so_far.ensures.count ∙ c.lanes.invariant.count;
  turned = λ first x. c.in_ok-so_far.ensures.turned first (c.lanes.invariant.turned first x);
  low = (let a = c.in_ok-so_far.ensures.within.0 in let b = c.lanes.invariant.low in omega arith);
  within = still_within c.lanes.so_far.groups c.in_ok-so_far.so_far.groups c.args.limit c.if-so_far-limit.false c.lanes.invariant.within
      c.in_ok-so_far.ensures.within.1;
  few = c.in_ok-so_far.ensures.few;
  noted = c.in_ok-so_far.ensures.quiet.noted ∙ c.lanes.invariant.noted;
  rounds = λ first_lanes first rounds x. c.in_ok-so_far.ensures.rounds first_lanes first rounds (c.lanes.invariant.rounds first_lanes first rounds x);
  dry = dry_further _ _ c.lanes.lane c.args.taken.groups c.lanes.so_far.groups c.in_ok-so_far.so_far.groups c.lanes.invariant.low
      c.in_ok-so_far.ensures.within.0 c.lanes.invariant.dry c.in_ok-so_far.ensures.dry;
}

pub returns-in_err-so_far-clause-turned : goal.returns-in_err-so_far-clause-turned
returns-in_err-so_far-clause-turned g c = λ first x. (
    let p = err_from_is_err_and c.from_residual.result c.from_residual.ensures.1 in
    rw (p.1, p.2) (refused_within c.lanes.so_far.groups c.args.limit _ _ first _ _ c.if-so_far-limit.false c.lanes.invariant.within
    (c.in_err-so_far.ensures.turned first (c.lanes.invariant.turned first x))))

pub returns-then-so_far-limit-clause-turned : goal.returns-then-so_far-limit-clause-turned
returns-then-so_far-limit-clause-turned g c = λ first x. c.lanes.invariant.turned first x

pub returns-clause-turned : goal.returns-clause-turned
returns-clause-turned g c = λ first x. c.lanes.invariant.turned first x

pub returns-clause-dry : goal.returns-clause-dry
returns-clause-dry g c = λ none some. all_dry _ (λ i lt. (
    let end = c.lanes-test.false in
    let count = c.lanes.invariant.count in
    let shown = c.writers-lanes.ensures in
    c.lanes.invariant.dry none i (omega arith)))

pub returns-in_err-so_far-clause-rounds : goal.returns-in_err-so_far-clause-rounds
returns-in_err-so_far-clause-rounds g c = λ first_lanes first rounds x. (
    let p = err_from_is_err_and c.from_residual.result c.from_residual.ensures.1 in
    rw p.1 (c.in_err-so_far.ensures.rounds first_lanes first rounds (c.lanes.invariant.rounds first_lanes first rounds x), tt))

pub returns-then-so_far-limit-clause-rounds : goal.returns-then-so_far-limit-clause-rounds
returns-then-so_far-limit-clause-rounds g c = λ first_lanes first rounds x. (
  fair_of first_lanes first _ _ (c.lanes.invariant.rounds first_lanes first rounds x),
  (let full = c.if-so_far-limit.true in λ less. absurd (omega arith)),
)

pub returns-clause-rounds : goal.returns-clause-rounds
returns-clause-rounds g c = λ first_lanes first rounds x. (
    let end = c.lanes-test.false in
    let count = c.lanes.invariant.count in
    let shown = c.writers-lanes.ensures in
    let done = c.lanes.invariant.rounds first_lanes first rounds x in
    (fair_of first_lanes first _ _ done, λ less. end_round c.lanes.lane first_lanes first _ _ (omega arith) done))
