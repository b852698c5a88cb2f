use Rattle.std.proofs.Common.{◌≡◌, ◌∙◌, length, ap, sym, arith}
use Rattle.std.proofs.lemmas.List.{length-map}
use Rattle.bw_page.specs.Seats.{Seated, Seating, is_among}
use Rattle.bw_page.specs.Seating.{leaves_of}
use Rattle.bw_page.proofs.Seating.{none_beyond}
use Rattle.bw_page.proofs.seats.Seats.len.Goals as goal

pub returns-clause-beyond : goal.returns-clause-beyond
returns-clause-beyond c p h =
    let e : length (leaves_of c.self.inside.seats.items) ≡ length c.args.self.now.items = ap (λ (v : Seating). length v.items) c.self.view_is in
    let l = length-map c.self.inside.seats.items (λ (s : Seated). s.leaf) in
    ap (λ (v : Seating). is_among p v.evicted) (sym c.self.view_is) ∙ none_beyond c.self.inside.seats.items p (omega arith)
