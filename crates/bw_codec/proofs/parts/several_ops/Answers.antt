use Rattle.std.proofs.Common.{◌≡◌, ◌-◌, None, sym, ◌∙◌, append-nil, subst, arith, refl}
use Rattle.std.proofs.lemmas.Result.{err_from_is_err_and}
use Rattle.bw_codec.specs.Reading.{many_at, op_at}
use Rattle.bw_codec.proofs.Many.{prefixed, many_goes_on, many_stops, many_ends, many_begins, fault_goes_on}
use Rattle.bw_codec.proofs.parts.several_ops.Goals as goal

pub loop-i-init : goal.loop-i-init
loop-i-init c = rw c.in_ok-items.ensures.items (many_begins (op_at c.args.version) c.args.count c.args.bytes.now)

pub returns-in_err-op : goal.returns-in_err-op
returns-in_err-op c =
    let p = err_from_is_err_and c.from_residual-in_err-op.result c.from_residual-in_err-op.ensures.1 in
    let stops = λ (none : (op_at c.args.version) c.loop-i.rest.now ≡ None). sym c.loop-i.invariant
    ∙ many_stops (op_at c.args.version) c.args.count c.loop-i._i c.loop-i.items.items c.loop-i.rest.now c.loop-i-test.true none in
    rw (p.1, p.2) (fault_goes_on c.in_err-op.field-0.0 ((op_at c.args.version) c.loop-i.rest.now)
    (many_at (op_at c.args.version) c.args.count c.args.bytes.now) stops c.in_err-op.ensures)

pub loop-i-preserved : goal.loop-i-preserved
loop-i-preserved c =
    rw c.in_ok-push.ensures.items (sym (many_goes_on (op_at c.args.version) c.args.count c.loop-i._i c.loop-i.items.items c.loop-i.rest.now
    c.in_ok-op.op c.in_ok-op.others.now
    c.loop-i-test.true c.in_ok-op.ensures) ∙ c.loop-i.invariant)

pub returns : goal.returns
returns c =
    let all : c.loop-i._i ≡ c.args.count = omega arith in
    let last = subst (λ i. prefixed c.loop-i.items.items (many_at (op_at c.args.version) (c.args.count - i) c.loop-i.rest.now) ≡ many_at
    (op_at c.args.version) c.args.count c.args.bytes.now) all
    c.loop-i.invariant in
    sym last ∙ many_ends (op_at c.args.version) c.args.count c.loop-i.items.items c.loop-i.rest.now ∙ rw (append-nil c.loop-i.items.items, c.of.ensures) refl
