use Rattle.std.proofs.Common.{◌≡◌, subst, arith}
use Rattle.bw_tables.specs.Writing.{IsWriting}
use Rattle.bw_calls.specs.Standing.{plain_in}
use Rattle.bw_calls.proofs.PlainLaws.{same_then, on_err}
use Rattle.bw_calls.proofs.OtherLaws.{others_then}
use Rattle.bw_calls.proofs.writing.add_all.Goals as goal

pub returns-in_err-add-clause-stays : goal.returns-in_err-add-clause-stays
returns-in_err-add-clause-stays g c = λ tables h.
    on_err c.from_residual.result (c.in_err-add.ensures.stays tables (c.groups.invariant.1.0.writing tables h))

pub groups-preserved : goal.groups-preserved
groups-preserved g c =
    let so_far = c.groups.invariant.1.0 in (
      c.add.ensures.ready,
      (
        record {
          writing = λ tables h. c.in_ok-add.ensures.goes_on tables (so_far.writing tables h);
          same = same_then _ _ _ so_far.same c.in_ok-add.ensures.rows;
          others = others_then _ _ _ _ so_far.others c.in_ok-add.ensures.others;
        },
        c.end_of-end.ensures.2,
      ),
      λ tables h ts among stops. c.add.ensures.leaves tables (so_far.writing tables h) ts among (c.groups.invariant.2 tables h ts among stops),
    )

pub returns-clause-goes_on : goal.returns-clause-goes_on
returns-clause-goes_on g c = λ tables h.
    let upto = c.groups.invariant.1.1 in
    let not_below = c.groups-test.false in
    let e : c.groups.at ≡ c.args.to = omega arith in
    subst (IsWriting tables (plain_in c.groups.home (λ z. (goal.Segment-dyn g z).holding z.1)) c.args.number.bytes c.args.value.now) e (c.groups.invariant.1.0.writing tables h)

pub returns-in_err-add-clause-leaves : goal.returns-in_err-add-clause-leaves
returns-in_err-add-clause-leaves g c = λ tables h ts among stops.
    c.add.ensures.leaves tables (c.groups.invariant.1.0.writing tables h) ts among (c.groups.invariant.2 tables h ts among stops)

pub returns-clause-leaves : goal.returns-clause-leaves
returns-clause-leaves g c = c.groups.invariant.2
