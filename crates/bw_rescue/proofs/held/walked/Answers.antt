use Rattle.std.proofs.Common.{rules, Bool, refl, subst, arith}
use Rattle.bw_rescue.specs.Hurt.{is_hurt}
use Rattle.bw_rescue.specs.Taken.{spots_from}
use Rattle.bw_rescue.proofs.RowTaken.{way_begins, way_goes_on, way_ends, way_is_done, StepsOver}
use Rattle.bw_rescue.proofs.held.walked.Goals as goal

pub steps-init : goal.steps-init
steps-init c = record {
  taken = search rules;
  all = λ sums pieces frames stand. way_begins c.args.header c.args.bytes.now sums frames (record { pieces = c.args.pieces; spots = c.new.result; at = 24; last = 0 }) stand pieces
      refl refl c.new.ensures.items;
}

pub steps-preserved : goal.steps-preserved
steps-preserved c = record {
  taken = search rules;
  all = λ sums pieces frames stand. way_goes_on c.args.header c.args.bytes.now (is_hurt c.args.bytes.now sums) (spots_from (is_hurt c.args.bytes.now sums) c.args.header.version 24 frames)
      c.steps.counter c.in_ok-step.field-0 c.steps.walk c.step.new.self (c.steps.invariant.all sums pieces frames stand) c.in_ok-step.ensures.kept c.in_ok-step.ensures.goes;
}

pub returns-then-not-branch-clause-all : goal.returns-then-not-branch-clause-all
returns-then-not-branch-clause-all c = λ sums pieces frames stand.
    way_ends c.args.header c.args.bytes.now (is_hurt c.args.bytes.now sums) (spots_from (is_hurt c.args.bytes.now sums) c.args.header.version 24 frames)
    c.steps.counter c.steps.walk c.step.new.self (c.steps.invariant.all sums pieces frames stand) c.in_ok-step.ensures.kept
    (subst (λ (b : Bool). StepsOver c.args.header c.args.bytes.now b c.steps.walk c.step.new.self) c.if-not-branch.true c.in_ok-step.ensures.goes)

pub returns-clause-all : goal.returns-clause-all
returns-clause-all c = λ sums pieces frames stand.
    way_is_done c.args.header c.args.bytes.now (is_hurt c.args.bytes.now sums) (spots_from (is_hurt c.args.bytes.now sums) c.args.header.version 24 frames)
    c.steps.counter c.steps.walk (c.steps.invariant.all sums pieces frames stand) (let over = c.steps-test.false in omega (arith, over))
