use Rattle.bw_calls.proofs.PlainLaws.{gone_on, gone_on_in_vain, gone_on_same}
use Rattle.std.proofs.Common.{inl, ◌≡◌, ◌-◌, length, rules}
use Rattle.bw_calls.proofs.OtherLaws.{gone_on_others}
use Rattle.bw_calls.proofs.writing.add.Goals as goal

pub returns-clause-goes_on : goal.returns-clause-goes_on
returns-clause-goes_on g c = λ tables h.
    gone_on tables _ _ c.args.number.bytes c.args.value.now c.args.from c.args.to c.chunk_group.result c.prepare.result c.chunk_group.ensures.goes_on h c.prepare.ensures.changed

pub returns-clause-rows : goal.returns-clause-rows
returns-clause-rows g c =
    gone_on_same _ _ c.args.number.bytes c.args.value.now c.args.from (c.args.to - c.args.from) c.chunk_group.result c.prepare.result c.chunk_group.ensures.records c.prepare.ensures.changed

pub returns-clause-stays : goal.returns-clause-stays
returns-clause-stays g c = λ tables h.
    gone_on_in_vain tables _ _ c.args.number.bytes c.args.value.now c.args.from c.args.to c.chunk_group.result c.prepare.result c.chunk_group.ensures.goes_on h
    c.prepare.ensures.changed c.prepare.ensures.refused

pub returns-clause-leaves : goal.returns-clause-leaves
returns-clause-leaves g c = λ tables h ts among stops.
    let written = c.chunk_group.ensures.goes_on tables _ h in
    c.prepare.ensures.leaves ts (tables, among, inl written.stays) stops

pub returns-clause-others : goal.returns-clause-others
returns-clause-others g c =
    let wide : length c.args.number.bytes ≡ 8 = search rules in
    gone_on_others _ _ c.args.number.bytes c.args.value.now c.args.from (c.args.to - c.args.from) c.chunk_group.result c.prepare.result wide c.chunk_group.ensures.records c.prepare.ensures.changed
