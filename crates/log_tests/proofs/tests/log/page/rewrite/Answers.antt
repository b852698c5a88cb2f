use Rattle.std.proofs.Common.{rules, arith}
use Rattle.log_tests.proofs.OnePage.{base_on, base_after}
use Rattle.log_tests.proofs.tests.log.page.rewrite.Goals as goal

pub append-requires-clause-follows : goal.append-requires-clause-follows
append-requires-clause-follows g c =
    base_on _ c.in_ok-number.number _ c.in-Ok.copy _ _ c.requires c.in_ok-number.ensures (omega (arith, c.if-number-eq0.false)) (search rules)
    c.bytes.ensures.fits c.in_ok-buffer.ensures (search rules) c.in-Ok.ensures

pub returns : goal.returns
returns g c = base_after _ _ c.in_ok-number.number _ c.in-Ok.copy _ _ _ c.requires c.in_ok-buffer.ensures (search rules) c.in-Ok.ensures c.append.ensures
