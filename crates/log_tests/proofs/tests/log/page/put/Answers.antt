use Rattle.std.proofs.Common.{rules, lit≤, arith}
use Rattle.log_tests.proofs.OnePage.{put_on, put_left, holds_refused}
use Rattle.log_tests.proofs.tests.log.page.put.Goals as goal

pub append-requires-clause-follows : goal.append-requires-clause-follows
append-requires-clause-follows g c =
    put_on _ c.in-Some-Some.number c.in-Some-Some.back c.args.key c.args.value _ _ c.in_ok-change_of.change_of c.requires c.in-Some-Some.ensures'
    (omega (arith, c.if-number-eq0.false)) (search rules) (c.in-Some-Some.ensures.some (lit≤ tt))
    (record { frame = (omega (arith, c.if-back-eq0.false), search rules); index = search rules })
    c.in_ok-change_of.ensures (omega (arith, c.count_after.ensures, c.if-count_after-gt4.false)) c.bytes.ensures.fits c.in_ok-buffer.ensures.made

pub returns-in-Ok-change : goal.returns-in-Ok-change
returns-in-Ok-change g c =
    put_left _ _ c.in-Some-Some.number c.in-Some-Some.back c.args.key c.args.value _ _ _ c.in_ok-change_of.change_of c.requires c.in_ok-change_of.ensures
    (omega (arith, c.count_after.ensures, c.if-count_after-gt4.false)) c.in_ok-buffer.ensures.made c.in-Ok.ensures c.in-Ok-change.ensures.ok

pub returns : goal.returns
returns g c = holds_refused _ _ _ _ c.in-Err.fault _ c.requires c.in-Err.ensures
