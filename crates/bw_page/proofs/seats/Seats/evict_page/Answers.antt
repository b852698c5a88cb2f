use Rattle.std.proofs.Common.{◌+◌, ◌==◌, ◌∙◌, true, cond, ap, arith}
use Rattle.std.proofs.Math.Seq.{map-set_same}
use Rattle.bw_page.specs.Seats.{Seated, Seating, is_among}
use Rattle.bw_page.specs.Seating.{evicted_from}
use Rattle.bw_page.proofs.Bases.{seat_base}
use Rattle.bw_page.proofs.Seating.{evicted-set, count_is}
use Rattle.bw_page.proofs.seats.Seats.evict_page.Goals as goal

pub evict_page-requires : goal.evict_page-requires
evict_page-requires c =
    seat_base c.self.inside c.args.self.now c.self.view_is c.args.at c.index_mut.result.now c.requires.within c.index_mut.ensures.value c.requires.lawful

pub returns-clause-items : goal.returns-clause-items
returns-clause-items c =
    map-set_same (λ (s : Seated). s.leaf) c.self.inside.seats.items c.args.at c.evict_page.new.self c.index_mut.result.now
    (ap (λ (s : Seated). s.leaf) c.evict_page.ensures ∙ ap (λ (s : Seated). s.leaf) c.index_mut.ensures.value)
    ∙ ap (λ (v : Seating). v.items) c.self.view_is

pub returns-clause-evicted : goal.returns-clause-evicted
returns-clause-evicted c p =
    let long = count_is c.self.inside c.args.self.now c.self.view_is in
    let within = c.requires.within in
    evicted-set c.args.at c.evict_page.new.self c.self.inside.seats.items (omega arith) p
    ∙ ap (λ (s : Seated). cond (p == c.args.at + 1) s.is_evicted (is_among p (evicted_from 1 c.self.inside.seats.items))) c.evict_page.ensures
    ∙ ap (λ (v : Seating). cond (p == c.args.at + 1) true (is_among p v.evicted)) c.self.view_is
