use Rattle.std.proofs.Common.{◌∙◌, ◌++◌, ◌∷◌, [], List, ap}
use Rattle.bw_page.specs.Seats.{Seated, Seating}
use Rattle.bw_page.specs.Seating.{evicted_from}
use Rattle.bw_page.proofs.Seating.{evicted-push}
use Rattle.bw_page.proofs.seats.Seats.push.Goals as goal

pub returns-clause-evicted : goal.returns-clause-evicted
returns-clause-evicted c =
    let seat = c.settle.new.self in
    ap (evicted_from 1) c.push_reserved.ensures.items
    ∙ ap (λ (ss : List Seated). evicted_from 1 (ss ++ seat ∷ [])) c.reserve.ensures.items
    ∙ evicted-push 1 seat c.self.inside.seats.items (ap (λ (s : Seated). s.is_evicted) (c.settle.ensures ∙ c.of-seat.ensures))
    ∙ ap (λ (v : Seating). v.evicted) c.self.view_is
