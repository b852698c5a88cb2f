use Rattle.std.proofs.Common.{[], ◌∷◌, refl}
use Rattle.bw_ring.proofs.Joins.{one-more, given-kept}
use Rattle.bw_ring.proofs.Rings.{more-alone, whole-alone, known-alone, some-shown, some-first, group-shown}
use Rattle.bw_ring.proofs.lane.Lane.pass_alone.Goals as goal

pub pop_known-requires : goal.pop_known-requires
pop_known-requires c = some-first _ _ (some-shown _ _ c.requires)

pub invariant_of-self : goal.invariant_of-self
invariant_of-self c = record {
  whole = whole-alone c.args.self.now.firsts.end.past c.pop_known.new.self.end.past c.args.self.now.rests.end.past c.pop_known.result c.in-Alone.field-0
      c.args.self.now.whole c.pop_known.ensures.received.0 c.in-Alone.is;
}

pub returns-in-Alone-clause-added : goal.returns-in-Alone-clause-added
returns-in-Alone-clause-added c =
    let item = c.args.item.now in
    let first = known-alone c.args.self.now.firsts.end.ahead c.pop_known.new.self.end.ahead c.args.self.now.rests.end.ahead c.pop_known.result
    c.in-Alone.field-0
    (c.in-Alone.field-0 ∷ []) c.pop_known.ensures.received.1 c.in-Alone.is refl in
    one-more _ _ (item ∷ [])
    (more-alone c.args.self.now.firsts.end.past c.pop_known.new.self.end.past c.args.self.now.rests.end.past c.pop_known.result c.in-Alone.field-0 (item ∷ [])
    c.args.self.now.whole c.pop_known.ensures.received.0 c.in-Alone.is (group-shown _ _ _ _ c.requires first))

pub returns-in-Alone-clause-given : goal.returns-in-Alone-clause-given
returns-in-Alone-clause-given c =
    let item = c.args.item.now in
    let first = known-alone c.args.self.now.firsts.end.ahead c.pop_known.new.self.end.ahead c.args.self.now.rests.end.ahead c.pop_known.result
    c.in-Alone.field-0
    (c.in-Alone.field-0 ∷ []) c.pop_known.ensures.received.1 c.in-Alone.is refl in
    let same = group-shown _ _ _ _ c.requires first in
    given-kept _ _ _ _ (item ∷ [])
    (more-alone c.args.self.now.firsts.end.past c.pop_known.new.self.end.past c.args.self.now.rests.end.past c.pop_known.result c.in-Alone.field-0 (item ∷ [])
    c.args.self.now.whole c.pop_known.ensures.received.0 c.in-Alone.is same)
    (known-alone c.args.self.now.firsts.end.ahead c.pop_known.new.self.end.ahead c.args.self.now.rests.end.ahead c.pop_known.result
    c.in-Alone.field-0 (item ∷ [])
    c.pop_known.ensures.received.1 c.in-Alone.is same)
