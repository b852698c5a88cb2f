use Rattle.std.proofs.Common.{◌≡◌, ◌-◌, None, sym, ◌∙◌, subst, arith}
use Rattle.std.proofs.lemmas.Result.{err_from_is_err_and}
use Rattle.bw_codec.specs.Reading.{pair_at}
use Rattle.bw_codec.specs.Checking.{keyed, rising_after}
use Rattle.bw_codec.proofs.Checked.{rising_on, rising_stop, rising_not, rising_end}
use Rattle.bw_codec.proofs.Many.{fault_goes_on}
use Rattle.bw_codec.proofs.check.check_rising.Goals as goal

pub returns-in_err-next-clause-gives : goal.returns-in_err-next-clause-gives
returns-in_err-next-clause-gives c =
    let p = err_from_is_err_and c.from_residual.result c.from_residual.ensures.1 in
    let stops = λ (none : keyed (pair_at c.args.version c.loop-i.rest.now) ≡ None). sym c.loop-i.invariant
    ∙ rising_stop c.args.version c.args.count c.loop-i._i c.loop-i.before.now c.loop-i.rest.now c.loop-i-test.true none in
    rw (p.1, p.2) (fault_goes_on c.in_err-next.field-0.0 (keyed (pair_at c.args.version c.loop-i.rest.now))
    (rising_after c.args.version c.args.count c.args.key.now c.args.bytes.now) stops
    c.in_err-next.ensures.gives)

pub returns-then-not-is_before-clause-gives : goal.returns-then-not-is_before-clause-gives
returns-then-not-is_before-clause-gives c =
    sym c.loop-i.invariant ∙ rising_not c.args.version c.args.count c.loop-i._i c.loop-i.before.now c.loop-i.rest.now c.in_ok-next.next.now
    c.in_ok-next.others.now c.loop-i-test.true c.in_ok-next.ensures.gives (sym c.is_before.ensures ∙ c.if-not-is_before.true)

pub loop-i-preserved : goal.loop-i-preserved
loop-i-preserved c =
    sym (rising_on c.args.version c.args.count c.loop-i._i c.loop-i.before.now c.loop-i.rest.now c.in_ok-next.next.now
    c.in_ok-next.others.now c.loop-i-test.true c.in_ok-next.ensures.gives (sym c.is_before.ensures ∙ c.if-not-is_before.false)) ∙ c.loop-i.invariant

pub returns-clause-gives : goal.returns-clause-gives
returns-clause-gives c =
    let all : c.loop-i._i ≡ c.args.count = omega arith in
    let last = subst (λ i. rising_after c.args.version (c.args.count - i) c.loop-i.before.now c.loop-i.rest.now
    ≡ rising_after c.args.version c.args.count c.args.key.now c.args.bytes.now) all c.loop-i.invariant in
    sym last ∙ rising_end c.args.version c.args.count c.loop-i.before.now c.loop-i.rest.now
