use Rattle.std.proofs.Common.{◌-◌, ◌+◌, ◌∙◌, sym, ap}
use Rattle.bw_record.specs.declared.leaf.Leaf.{Leaf}
use Rattle.bw_found.specs.Lent.{pairs_into}
use Rattle.bw_found.proofs.LentLaws.{pair_on}
use Rattle.bw_found.proofs.lent.push_each.Goals as goal

pub loop-i-preserved : goal.loop-i-preserved
loop-i-preserved c =
    ap (λ (l : Leaf). pairs_into c.args.version l (c.args.count - (c.loop-i._i + 1)) c.in-Ok.behind.now) c.in_ok-push.ensures.ok
    ∙ sym (pair_on c.args.version c.loop-i.page c.args.count c.loop-i._i c.loop-i.rest.now (c.in-Ok.key.now, c.in-Ok.value.now) c.in-Ok.behind.now
    c.loop-i-test.true c.in-Ok.ensures.gives)
    ∙ c.loop-i.invariant
