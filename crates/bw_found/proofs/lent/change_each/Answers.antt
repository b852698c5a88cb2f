use Rattle.std.proofs.Common.{◌-◌, ◌+◌, ◌∙◌, sym, ap}
use Rattle.std.specs.Option.{option_map}
use Rattle.bw_record.specs.declared.leaf.Leaf.{Leaf}
use Rattle.bw_codec.specs.Lent.{record_of}
use Rattle.bw_found.specs.Lent.{ops_into}
use Rattle.bw_found.proofs.LentLaws.{op_on}
use Rattle.bw_found.proofs.lent.change_each.Goals as goal

pub loop-i-preserved : goal.loop-i-preserved
loop-i-preserved c =
    ap (λ (l : Leaf). ops_into c.args.version l (c.args.count - (c.loop-i._i + 1)) c.in-Ok.behind.now) c.in_ok-apply.ensures
    ∙ sym (op_on c.args.version c.loop-i.draft c.args.count c.loop-i._i c.loop-i.rest.now
    (record_of c.in-Ok.key.now (option_map (λ v. v.now) c.in-Ok.value)) c.in-Ok.behind.now c.loop-i-test.true c.in-Ok.ensures.gives)
    ∙ c.loop-i.invariant
