use Rattle.std.proofs.Common.{◌∙◌, get_or, length, ap, sym, subst}
use Rattle.std.specs.Prelude.{slice_set}
use Rattle.std.proofs.lemmas.List.{map-set}
use Rattle.bw_record.specs.Record.{key_of}
use Rattle.bw_record.specs.declared.leaf.Leaf.{Leaf}
use Rattle.bw_leaf.specs.Changed.{changed}
use Rattle.bw_leaf.specs.Seek.{seek_of, IsWithin}
use Rattle.bw_page.specs.Seats.{Seated, Seating}
use Rattle.bw_page.specs.Seating.{leaves_of}
use Rattle.bw_page.proofs.Seating.{evicted-kept, evicted_is, evicted_there, leaf_in}
use Rattle.bw_page.proofs.seats.Seats.take_back.Goals as goal

pub take_back-requires-clause-here : goal.take_back-requires-clause-here
take_back-requires-clause-here c =
    evicted_there c.self.inside c.args.self.now c.self.view_is c.args.at c.index_mut.result.now c.requires.within c.index_mut.ensures.value
    ∙ c.requires.here

pub take_back-requires-clause-found : goal.take_back-requires-clause-found
take_back-requires-clause-found c =
    let seat = c.index_mut.result.now in
    let leaf = leaf_in c.self.inside c.args.self.now c.self.view_is c.args.at seat seat.leaf c.requires.within c.index_mut.ensures.value in
    c.requires.found seat.leaf ∙ ap (λ (l : Leaf). seek_of (key_of c.args.back) l.pairs) leaf

pub take_back-requires-clause-within : goal.take_back-requires-clause-within
take_back-requires-clause-within c =
    let seat = c.index_mut.result.now in
    let leaf = leaf_in c.self.inside c.args.self.now c.self.view_is c.args.at seat seat.leaf c.requires.within c.index_mut.ensures.value in
    subst (λ (l : Leaf). IsWithin (length l.pairs) c.args.found) leaf (c.requires.found_within seat.leaf)

pub returns-clause-items : goal.returns-clause-items
returns-clause-items c d =
    let old = leaf_in c.self.inside c.args.self.now c.self.view_is c.args.at c.index_mut.result.now d c.requires.within c.index_mut.ensures.value in
    map-set (λ (s : Seated). s.leaf) c.self.inside.seats.items c.args.at c.take_back.new.self
    ∙ ap (λ (s : Seated). slice_set (leaves_of c.self.inside.seats.items) c.args.at s.leaf) c.take_back.ensures.changed
    ∙ ap (λ (l : Leaf). slice_set (leaves_of c.self.inside.seats.items) c.args.at (changed c.args.back l)) (sym old)
    ∙ ap (λ (v : Seating). slice_set v.items c.args.at (changed c.args.back (get_or c.args.self.now.items c.args.at d))) c.self.view_is

pub returns-clause-evicted : goal.returns-clause-evicted
returns-clause-evicted c =
    evicted-kept 1 c.args.at c.take_back.new.self c.self.inside.seats.items
    (c.take_back.ensures.here ∙ sym (sym (evicted_is c.self.inside c.args.self.now c.self.view_is c.args.at) ∙ c.requires.here))
    ∙ ap (λ (v : Seating). v.evicted) c.self.view_is
