use Rattle.std.proofs.Common.{◌∙◌, ap, ◌++◌, ◌+◌, ◌∷◌, [], length}
use Rattle.bw_page.specs.Seats.{Seated}
use Rattle.bw_page.specs.Seating.{evicted_from}
use Rattle.bw_page.proofs.Seating.{evicted-away}
use Rattle.bw_page.proofs.seats.Seats.push_away.Goals as goal

pub returns-clause-evicted : goal.returns-clause-evicted
returns-clause-evicted c =
    ap (evicted_from 1) c.in_ok-push.ensures.items ∙ evicted-away c.away.result c.self.inside.seats.items (ap (λ (s : Seated). s.is_evicted) c.away.ensures)
    ∙ (λ t. (c.self.view_is t).evicted ++ (length (c.self.view_is t).items + 1) ∷ [])
