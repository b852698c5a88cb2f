use Rattle.std.proofs.Common.{◌≡◌, ◌+◌, ◌≤◌, ◌<◌, ◌∙◌, List, true, false, cond, Some, None, length, get_or, ap, sym, subst, refl}
use Rattle.std.specs.List.{slice_get}
use Rattle.bw_page.specs.Seats.{Seated, Seating, is_among}
use Rattle.bw_page.proofs.Seating.{evicted_get, look_past, look_at, evicted_is}
use Rattle.bw_page.proofs.seats.Seats.look.Goals as goal

pub returns-then-at-seats : goal.returns-then-at-seats
returns-then-at-seats c =
    let list : c.as_slice-seats.result.now ≡ c.self.inside.seats.items = c.as_slice-seats.ensures.value in
    let within : c.args.at < length c.self.inside.seats.items = subst (λ (ss : List Seated). c.args.at < length ss) list c.if-at-seats.true in
    let seat : c.index-seats-at.result ≡ get_or c.self.inside.seats.items c.args.at c.index-seats-at.result =
    c.index-seats-at.is ∙ ap (λ (ss : List Seated). get_or ss c.args.at c.index-seats-at.result) list in
    let evicted : is_among (c.args.at + 1) c.args.self.now.evicted ≡ c.index-seats-at.result.is_evicted =
    evicted_is c.self.inside c.args.self.now c.self.view_is c.args.at ∙ evicted_get c.self.inside.seats.items c.args.at c.index-seats-at.result within
    ∙ ap (λ (s : Seated). s.is_evicted) (sym seat) in
    let leaf : slice_get c.args.self.now.items c.args.at ≡ Some c.index-seats-at.result.leaf =
    ap (λ (v : Seating). slice_get v.items c.args.at) (sym c.self.view_is) ∙ look_at c.self.inside.seats.items c.args.at c.index-seats-at.result within
    ∙ ap (λ (s : Seated). Some s.leaf) (sym seat) in
    c.leaf.ensures ∙ (λ i. cond (sym evicted i) None (sym leaf i))

pub returns : goal.returns
returns c =
    let list : c.as_slice-seats.result.now ≡ c.self.inside.seats.items = c.as_slice-seats.ensures.value in
    let past : length c.self.inside.seats.items ≤ c.args.at = subst (λ (ss : List Seated). length ss ≤ c.args.at) list c.if-at-seats.false in
    let none : slice_get c.args.self.now.items c.args.at ≡ None =
    ap (λ (v : Seating). slice_get v.items c.args.at) (sym c.self.view_is) ∙ look_past c.self.inside.seats.items c.args.at past in
    elim (is_among (c.args.at + 1) c.args.self.now.evicted) as (λ b. None ≡ cond b None (slice_get c.args.self.now.items c.args.at))
    [ true ↦ refl | false ↦ sym none ]
