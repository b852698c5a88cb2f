use Rattle.std.proofs.Common.{◌≡◌, ◌∙◌, Some, None, false, cond, ap, sym}
use Rattle.std.specs.Prelude.{slice_set}
use Rattle.std.proofs.lemmas.List.{map-set}
use Rattle.bw_page.specs.Seats.{Seated, Seating}
use Rattle.bw_page.specs.Seating.{leaves_of}
use Rattle.bw_page.proofs.Seating.{evicted-kept, evicted_is, evicted_there}
use Rattle.bw_page.proofs.seats.Seats.exchange.Goals as goal

pub unreachable-requires : goal.unreachable-requires
unreachable-requires c =
    let seat = c.index_mut.result.now in
    let here : seat.is_evicted ≡ false =
    evicted_there c.self.inside c.args.self.now c.self.view_is c.args.at seat c.requires.within c.index_mut.ensures.value ∙ c.requires.here in
    let some : None ≡ Some seat.leaf = c.in-None.ensures.was ∙ ap (λ b. cond b None (Some seat.leaf)) here in
    cc

pub returns-clause-items : goal.returns-clause-items
returns-clause-items c =
    map-set (λ (s : Seated). s.leaf) c.self.inside.seats.items c.args.at c.put.new.self
    ∙ ap (λ (s : Seated). slice_set (leaves_of c.self.inside.seats.items) c.args.at s.leaf) c.put.ensures.now
    ∙ ap (λ (v : Seating). slice_set v.items c.args.at c.args.leaf) c.self.view_is

pub returns-clause-evicted : goal.returns-clause-evicted
returns-clause-evicted c =
    evicted-kept 1 c.args.at c.put.new.self c.self.inside.seats.items
    (ap (λ (s : Seated). s.is_evicted) c.put.ensures.now
    ∙ sym (sym (evicted_is c.self.inside c.args.self.now c.self.view_is c.args.at) ∙ c.requires.here))
    ∙ ap (λ (v : Seating). v.evicted) c.self.view_is
