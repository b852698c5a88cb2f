use Rattle.std.proofs.Common.{◌≡◌, sym, ◌∙◌, arith}
use Rattle.std.proofs.lemmas.Result.{err_from_is_err_and}
use Rattle.bw_codec.specs.Reading.{block_at}
use Rattle.bw_codec.specs.Checking.{past}
use Rattle.bw_codec.proofs.Checked.{past_fault, past_done}
use Rattle.bw_codec.proofs.Stepping.{steps_on}
use Rattle.bw_codec.proofs.check.check_blocks.Goals as goal

pub returns-in_err-rest-clause-gives : goal.returns-in_err-rest-clause-gives
returns-in_err-rest-clause-gives c =
    let p = err_from_is_err_and c.from_residual.result c.from_residual.ensures.1 in
    rw (p.1, p.2) (past_fault (block_at c.args.version c.args.m) c.args.count c.loop-i._i c.args.bytes.now c.loop-i.rest.now c.in_err-rest.field-0.0
    c.loop-i-test.true c.loop-i.invariant c.in_err-rest.ensures.gives)

pub loop-i-preserved : goal.loop-i-preserved
loop-i-preserved c =
    sym (steps_on (λ b. past (block_at c.args.version c.args.m b)) c.args.count c.loop-i._i c.loop-i.rest.now c.in_ok-rest.rest.now
    c.loop-i-test.true c.in_ok-rest.ensures.gives) ∙ c.loop-i.invariant

pub returns-clause-gives : goal.returns-clause-gives
returns-clause-gives c =
    let all : c.loop-i._i ≡ c.args.count = omega arith in
    past_done (block_at c.args.version c.args.m) c.args.count c.loop-i._i c.args.bytes.now c.loop-i.rest.now all c.loop-i.invariant
