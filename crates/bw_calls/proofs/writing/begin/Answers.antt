use Rattle.std.proofs.Common.{inl, ◌≡◌, length, rules}
use Rattle.bw_calls.proofs.PlainLaws.{begun, begun_in_vain, begun_same, itself}
use Rattle.bw_calls.proofs.OtherLaws.{begun_others}
use Rattle.bw_calls.proofs.writing.begin.Goals as goal

pub returns-clause-begins : goal.returns-clause-begins
returns-clause-begins g c = λ lawful unnamed.
    begun _ _ c.args.number.bytes c.args.value.now c.args.to c.first_group.result c.prepare.result c.first_group.ensures.begins lawful unnamed c.prepare.ensures.changed

pub returns-clause-rows : goal.returns-clause-rows
returns-clause-rows g c =
    begun_same _ _ c.args.number.bytes c.args.value.now c.args.to c.first_group.result c.prepare.result c.first_group.ensures.records c.prepare.ensures.changed

pub returns-clause-stays : goal.returns-clause-stays
returns-clause-stays g c = λ lawful unnamed.
    begun_in_vain _ _ c.args.number.bytes c.args.value.now c.args.to c.first_group.result c.prepare.result c.first_group.ensures.begins lawful unnamed
    c.prepare.ensures.changed c.prepare.ensures.refused

pub returns-clause-leaves : goal.returns-clause-leaves
returns-clause-leaves g c = λ lawful unnamed ts among stops.
    let written = c.first_group.ensures.begins _ _ (itself _ lawful) unnamed in
    c.prepare.ensures.leaves ts (_, among, inl written.stays) stops

pub returns-clause-others : goal.returns-clause-others
returns-clause-others g c =
    let wide : length c.args.number.bytes ≡ 8 = search rules in
    begun_others _ _ c.args.number.bytes c.args.value.now c.args.to c.first_group.result c.prepare.result wide c.first_group.ensures.records c.prepare.ensures.changed
