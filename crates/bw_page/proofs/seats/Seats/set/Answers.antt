use Rattle.std.proofs.Common.{◌+◌, ◌==◌, ◌∙◌, false, cond, ap, sym, arith}
use Rattle.std.specs.Prelude.{slice_set}
use Rattle.std.proofs.lemmas.List.{map-set}
use Rattle.bw_page.specs.Seats.{Seated, Seating, is_among}
use Rattle.bw_page.specs.Seating.{leaves_of, evicted_from}
use Rattle.bw_page.proofs.Seating.{evicted-kept, evicted-set, count_is, evicted_is}
use Rattle.bw_page.proofs.seats.Seats.set.Goals as goal

pub returns-clause-items : goal.returns-clause-items
returns-clause-items c =
    map-set (λ (s : Seated). s.leaf) c.self.inside.seats.items c.args.at c.put.new.self
    ∙ ap (λ (s : Seated). slice_set (leaves_of c.self.inside.seats.items) c.args.at s.leaf) c.put.ensures.now
    ∙ ap (λ (v : Seating). slice_set v.items c.args.at c.args.leaf) c.self.view_is

pub returns-clause-evicted : goal.returns-clause-evicted
returns-clause-evicted c p =
    let long = count_is c.self.inside c.args.self.now c.self.view_is in
    let within = c.requires in
    evicted-set c.args.at c.put.new.self c.self.inside.seats.items (omega arith) p
    ∙ ap (λ (s : Seated). cond (p == c.args.at + 1) s.is_evicted (is_among p (evicted_from 1 c.self.inside.seats.items))) c.put.ensures.now
    ∙ ap (λ (v : Seating). cond (p == c.args.at + 1) false (is_among p v.evicted)) c.self.view_is

pub returns-clause-kept : goal.returns-clause-kept
returns-clause-kept c here =
    evicted-kept 1 c.args.at c.put.new.self c.self.inside.seats.items
    (ap (λ (s : Seated). s.is_evicted) c.put.ensures.now ∙ sym (sym (evicted_is c.self.inside c.args.self.now c.self.view_is c.args.at) ∙ here))
    ∙ ap (λ (v : Seating). v.evicted) c.self.view_is
