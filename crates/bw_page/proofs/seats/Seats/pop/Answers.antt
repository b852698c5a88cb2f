use Rattle.std.proofs.Common.{◌∙◌, ap, sym}
use Rattle.bw_page.specs.Seats.{Seating}
use Rattle.bw_page.specs.Seating.{evicted_from}
use Rattle.bw_page.proofs.Seating.{evicted-push, last_here}
use Rattle.bw_page.proofs.seats.Seats.pop.Goals as goal

pub into_leaf-requires : goal.into_leaf-requires
into_leaf-requires c = last_here c.self.inside c.args.self.now c.self.view_is c.pop.new.self.items c.in-Some.seat c.in-Some.ensures.items c.requires.here

pub returns-clause-evicted : goal.returns-clause-evicted
returns-clause-evicted c =
    sym (evicted-push 1 c.in-Some.seat c.pop.new.self.items
    (last_here c.self.inside c.args.self.now c.self.view_is c.pop.new.self.items c.in-Some.seat c.in-Some.ensures.items c.requires.here))
    ∙ ap (evicted_from 1) (sym c.in-Some.ensures.items) ∙ ap (λ (v : Seating). v.evicted) c.self.view_is
