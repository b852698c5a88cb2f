use Rattle.std.proofs.Common.{◌≡◌, ◌+◌, ◌-◌, Some, None, sym, ap, ◌∙◌}
use Rattle.std.specs.FinMap.Entries.{by_order}
use Rattle.std.specs.declared.cmp.Ordering.TheVariants.{Greater}
use Rattle.bw_leaf.specs.Changed.{order}
use Rattle.bw_log.specs.Lent.{value_found}
use Rattle.bw_log.proofs.LentLoops.{value_on}
use Rattle.bw_log.proofs.lent.value_among.Goals as goal

pub loop-i-preserved : goal.loop-i-preserved
loop-i-preserved c =
    let step = value_on c.args.version c.args.key.now c.args.count c.loop-i._i c.loop-i.rest.now (c.in_ok-own.own.now, c.in_ok-own.value.now)
    c.in_ok-own.behind.now c.loop-i-test.true c.in_ok-own.ensures.gives in
    let above : order c.args.key.now c.in_ok-own.own.now ≡ Greater = cc (c.in-Greater.ensures) in
    sym (step ∙ ap (λ o. by_order o (Some None) (Some (Some c.in_ok-own.value.now))
    (value_found c.args.version c.args.key.now (c.args.count - (c.loop-i._i + 1)) c.in_ok-own.behind.now)) above) ∙ c.loop-i.invariant
