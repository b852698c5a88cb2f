use Rattle.std.proofs.Common.{◌≡◌, None, ap, ◌∙◌}
use Rattle.std.proofs.lemmas.Result.{err_from_is_err_and}
use Rattle.bw_codec.specs.Reading.{many_at, op_at}
use Rattle.bw_codec.proofs.Many.{many_of_one, many_none, fault_goes_on}
use Rattle.bw_codec.proofs.parts.some_ops.Goals as goal

pub returns-in_err-op : goal.returns-in_err-op
returns-in_err-op c =
    let p = err_from_is_err_and c.from_residual.result c.from_residual.ensures.1 in
    let stops = λ (none : op_at c.args.version c.args.bytes.now ≡ None).
    ap (λ n. many_at (op_at c.args.version) n c.args.bytes.now) c.if-count-eq1.true ∙ many_none (op_at c.args.version) 0 c.args.bytes.now none in
    rw (p.1, p.2) (fault_goes_on c.in_err-op.field-0.0 (op_at c.args.version c.args.bytes.now)
    (many_at (op_at c.args.version) c.args.count c.args.bytes.now) stops c.in_err-op.ensures)

pub returns-then-count-eq1 : goal.returns-then-count-eq1
returns-then-count-eq1 c =
    ap (λ n. many_at (op_at c.args.version) n c.args.bytes.now) c.if-count-eq1.true
    ∙ (rw c.single.ensures (many_of_one (op_at c.args.version) c.args.bytes.now c.in_ok-op.op c.in_ok-op.rest.now c.in_ok-op.ensures))
