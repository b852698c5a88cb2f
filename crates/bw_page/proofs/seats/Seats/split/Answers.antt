use Rattle.std.proofs.Common.{◌<◌, ◌∙◌, get_or, length, ap, sym, subst}
use Rattle.std.specs.Prelude.{slice_set}
use Rattle.std.proofs.lemmas.List.{map-set}
use Rattle.std.proofs.lemmas.Result.{on_ok_weaker}
use Rattle.bw_record.specs.Record.{key_of}
use Rattle.bw_record.specs.declared.leaf.Leaf.{Leaf}
use Rattle.bw_leaf.specs.Changed.{changed}
use Rattle.bw_leaf.specs.SplitRule.{lower_of}
use Rattle.bw_leaf.specs.Seek.{seek_of, IsWithin}
use Rattle.bw_page.specs.Seats.{Seated, Seating}
use Rattle.bw_page.specs.Seating.{leaves_of}
use Rattle.bw_page.proofs.Seating.{evicted-kept, evicted_is, evicted_there, leaf_in}
use Rattle.bw_page.proofs.seats.Seats.split.Goals as goal

pub split-requires-clause-here : goal.split-requires-clause-here
split-requires-clause-here c =
    evicted_there c.self.inside c.args.self.now c.self.view_is c.args.at c.index_mut.result.now c.requires.within c.index_mut.ensures.value
    ∙ c.requires.here

pub split-requires-clause-found : goal.split-requires-clause-found
split-requires-clause-found c =
    let seat = c.index_mut.result.now in
    let leaf = leaf_in c.self.inside c.args.self.now c.self.view_is c.args.at seat seat.leaf c.requires.within c.index_mut.ensures.value in
    c.requires.found seat.leaf ∙ ap (λ (l : Leaf). seek_of (key_of c.args.item.now) l.pairs) leaf

pub split-requires-clause-within : goal.split-requires-clause-within
split-requires-clause-within c =
    let seat = c.index_mut.result.now in
    let leaf = leaf_in c.self.inside c.args.self.now c.self.view_is c.args.at seat seat.leaf c.requires.within c.index_mut.ensures.value in
    subst (λ (l : Leaf). IsWithin (length l.pairs) c.args.found) leaf (c.requires.found_within seat.leaf)

pub split-requires-clause-over : goal.split-requires-clause-over
split-requires-clause-over c =
    let seat = c.index_mut.result.now in
    let leaf = leaf_in c.self.inside c.args.self.now c.self.view_is c.args.at seat seat.leaf c.requires.within c.index_mut.ensures.value in
    subst (λ (l : Leaf). c.args.m < length (changed c.args.item.now l).pairs) leaf (c.requires.over seat.leaf)

pub returns-clause-lower : goal.returns-clause-lower
returns-clause-lower c d =
    let old = leaf_in c.self.inside c.args.self.now c.self.view_is c.args.at c.index_mut.result.now d c.requires.within c.index_mut.ensures.value in
    on_ok_weaker _ (λ w. map-set (λ (s : Seated). s.leaf) c.self.inside.seats.items c.args.at c.split.new.self
    ∙ ap (λ (s : Seated). slice_set (leaves_of c.self.inside.seats.items) c.args.at s.leaf) w
    ∙ ap (λ (l : Leaf). slice_set (leaves_of c.self.inside.seats.items) c.args.at (lower_of c.args.m (changed c.args.item.now l))) (sym old)
    ∙ ap (λ (v : Seating). slice_set v.items c.args.at (lower_of c.args.m (changed c.args.item.now (get_or c.args.self.now.items c.args.at d)))) c.self.view_is)
    c.split.ensures.lower

pub returns-clause-evicted : goal.returns-clause-evicted
returns-clause-evicted c =
    evicted-kept 1 c.args.at c.split.new.self c.self.inside.seats.items
    (c.split.ensures.here ∙ sym (sym (evicted_is c.self.inside c.args.self.now c.self.view_is c.args.at) ∙ c.requires.here))
    ∙ ap (λ (v : Seating). v.evicted) c.self.view_is
