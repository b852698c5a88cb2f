use Rattle.std.proofs.Common.{refl, ◌∷◌}
use Rattle.bw_ring.specs.Rings.{rest_of}
use Rattle.bw_ring.specs.declared.slots.First.TheVariants.{Leads}
use Rattle.bw_ring.proofs.Joins.{one-more}
use Rattle.bw_ring.proofs.Rings.{more-led, whole-led}
use Rattle.bw_ring.proofs.feed.Feed.push_led.Goals as goal

pub invariant_of-self : goal.invariant_of-self
invariant_of-self c = record {
  whole = whole-led c.args.self.now.firsts.end.past c.push_reserved-2.new.self.end.past c.args.self.now.rests.end.past c.push_reserved.new.self.end.past
      (Leads c.args.item) c.args.item c.args.rest c.args.self.now.whole c.push_reserved-2.ensures.sent.0 refl c.push_reserved.ensures.sent.0;
}

pub returns-clause-added : goal.returns-clause-added
returns-clause-added c = one-more _ _ (c.args.item ∷ rest_of c.args.rest)
    (more-led c.args.self.now.firsts.end.past c.push_reserved-2.new.self.end.past c.args.self.now.rests.end.past c.push_reserved.new.self.end.past
    (Leads c.args.item) c.args.item c.args.rest (c.args.item ∷ rest_of c.args.rest)
    c.args.self.now.whole c.push_reserved-2.ensures.sent.0 refl c.push_reserved.ensures.sent.0 refl)
