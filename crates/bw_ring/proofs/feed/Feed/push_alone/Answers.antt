use Rattle.std.proofs.Common.{refl, [], ◌∷◌}
use Rattle.bw_ring.specs.declared.slots.First.TheVariants.{Alone}
use Rattle.bw_ring.proofs.Joins.{one-more}
use Rattle.bw_ring.proofs.Rings.{more-alone, whole-alone}
use Rattle.bw_ring.proofs.feed.Feed.push_alone.Goals as goal

pub invariant_of-self : goal.invariant_of-self
invariant_of-self c = record {
  whole = whole-alone c.args.self.now.firsts.end.past c.push_reserved.new.self.end.past c.args.self.now.rests.end.past (Alone c.args.item) c.args.item
      c.args.self.now.whole c.push_reserved.ensures.sent.0 refl;
}

pub returns-clause-added : goal.returns-clause-added
returns-clause-added c = one-more _ _ (c.args.item ∷ [])
    (more-alone c.args.self.now.firsts.end.past c.push_reserved.new.self.end.past c.args.self.now.rests.end.past (Alone c.args.item) c.args.item
    (c.args.item ∷ [])
    c.args.self.now.whole c.push_reserved.ensures.sent.0 refl refl)
