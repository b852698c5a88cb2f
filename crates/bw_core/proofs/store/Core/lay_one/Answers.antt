use Rattle.std.proofs.Common.{◌+◌, List, length, sym, subst, ap, ◌∙◌, arith}
use Rattle.std.specs.List.{AllByRecursion}
use Rattle.bw_codec.specs.Grammar.{IsBlock}
use Rattle.bw_record.specs.declared.block.Place.{Place}
use Rattle.bw_making.specs.Drafting.{Added}
use Rattle.bw_core.specs.Views.{kept_by}
use Rattle.bw_core.proofs.LayMore.{lay_inside, lay_few, lay_ahead, lay_stands, draft_room, draft_full, length_steps}
use Rattle.bw_core.proofs.MayEnter.{lane_inside}
use Rattle.bw_core.proofs.store.Core.lay_one.Goals as goal

pub bounds-steps-at : goal.bounds-steps-at
bounds-steps-at g c =
    (let count = ap length c.requires.steps ∙ length_steps c.args.self.now.pages.leaves c.args.records.now in let lt = c.requires.at in omega arith)

pub add-requires-clause-inside : goal.add-requires-clause-inside
add-requires-clause-inside g c = λ none. (
    let s = kept_by c.args.self.now (λ z. (goal.Segment-dyn g z).holding z.1) in
    let there = lay_inside s c.args.lane c.args.self.now.pages.leaves.evicted c.args.records.now c.args.at c.index-records-at.result c.requires.at
    c.index-records-at.is
    c.requires.stands c.args.draft.now c.requires.ahead c.requires.lawful c.requires.room c.args.steps.now c.requires.steps c.index-steps-at.result
    c.index-steps-at.is none in
    let low = there.0 in
    let high = there.1 in
    let same = ap length c.deref.ensures.value in
    (omega arith, omega arith))

pub add-requires-clause-few : goal.add-requires-clause-few
add-requires-clause-few g c =
    let s = kept_by c.args.self.now (λ z. (goal.Segment-dyn g z).holding z.1) in
    lay_few s c.args.lane c.args.self.now.pages.leaves.evicted c.args.records.now c.args.at c.index-records-at.result c.requires.at c.index-records-at.is
    c.requires.stands c.args.draft.now c.requires.ahead c.requires.lawful c.requires.room c.args.steps.now c.requires.steps c.index-steps-at.result
    c.index-steps-at.is

pub has_room-requires : goal.has_room-requires
has_room-requires g c =
    let s = kept_by c.args.self.now (λ z. (goal.Segment-dyn g z).holding z.1) in
    let a = lay_ahead s c.args.lane c.args.self.now.pages.leaves.evicted c.args.records.now c.args.at c.index-records-at.result c.requires.at c.index-records-at.is
    c.requires.stands c.args.draft.now c.requires.ahead c.requires.lawful c.requires.room c.args.steps.now c.requires.steps c.index-steps-at.result
    c.index-steps-at.is
    c.add.new.self c.in_ok-upper.upper c.in_ok-upper.ensures
    (subst (λ (ps : List Place). Added c.args.draft.now c.args.self.now.pages.making ps c.index-records-at.result
    c.index-steps-at.result.page c.in_ok-upper.upper c.add.new.self) c.deref.ensures.value c.in_ok-add.ensures) in
    subst (AllByRecursion (IsBlock 32)) (sym c.as_slice.ensures.value) a.lawful

pub returns-clause-full : goal.returns-clause-full
returns-clause-full g c =
    let s = kept_by c.args.self.now (λ z. (goal.Segment-dyn g z).holding z.1) in
    let a = lay_ahead s c.args.lane c.args.self.now.pages.leaves.evicted c.args.records.now c.args.at c.index-records-at.result c.requires.at c.index-records-at.is
    c.requires.stands c.args.draft.now c.requires.ahead c.requires.lawful c.requires.room c.args.steps.now c.requires.steps c.index-steps-at.result
    c.index-steps-at.is
    c.add.new.self c.in_ok-upper.upper c.in_ok-upper.ensures
    (subst (λ (ps : List Place). Added c.args.draft.now c.args.self.now.pages.making ps c.index-records-at.result
    c.index-steps-at.result.page c.in_ok-upper.upper c.add.new.self) c.deref.ensures.value c.in_ok-add.ensures) in
    draft_full s c.args.records.now (c.args.at + 1) c.add.new.self _ c.has_room.result a c.as_slice.ensures.value c.has_room.ensures

pub returns-clause-stands : goal.returns-clause-stands
returns-clause-stands g c = λ sure. (
    let s = kept_by c.args.self.now (λ z. (goal.Segment-dyn g z).holding z.1) in
    let a = lay_ahead s c.args.lane c.args.self.now.pages.leaves.evicted c.args.records.now c.args.at c.index-records-at.result c.requires.at c.index-records-at.is
    c.requires.stands c.args.draft.now c.requires.ahead c.requires.lawful c.requires.room c.args.steps.now c.requires.steps c.index-steps-at.result
    c.index-steps-at.is
    c.add.new.self c.in_ok-upper.upper c.in_ok-upper.ensures
    (subst (λ (ps : List Place). Added c.args.draft.now c.args.self.now.pages.making ps c.index-records-at.result
    c.index-steps-at.result.page c.in_ok-upper.upper c.add.new.self) c.deref.ensures.value c.in_ok-add.ensures) in
    lay_stands s c.args.lane c.args.self.now.pages.leaves.evicted c.args.records.now c.args.at c.index-records-at.result c.requires.at c.index-records-at.is
    c.requires.stands c.args.draft.now c.requires.ahead c.requires.lawful c.requires.room c.args.steps.now c.requires.steps c.index-steps-at.result
    c.index-steps-at.is
    (lane_inside _ _ c.requires.inside)
    (draft_room s c.args.records.now (c.args.at + 1) c.add.new.self _ c.has_room.result a c.as_slice.ensures.value c.has_room.ensures sure))

pub returns-clause-ahead : goal.returns-clause-ahead
returns-clause-ahead g c = λ sure. (
    let s = kept_by c.args.self.now (λ z. (goal.Segment-dyn g z).holding z.1) in
    lay_ahead s c.args.lane c.args.self.now.pages.leaves.evicted c.args.records.now c.args.at c.index-records-at.result c.requires.at c.index-records-at.is
    c.requires.stands c.args.draft.now c.requires.ahead c.requires.lawful c.requires.room c.args.steps.now c.requires.steps c.index-steps-at.result
    c.index-steps-at.is
    c.add.new.self c.in_ok-upper.upper c.in_ok-upper.ensures
    (subst (λ (ps : List Place). Added c.args.draft.now c.args.self.now.pages.making ps c.index-records-at.result
    c.index-steps-at.result.page c.in_ok-upper.upper c.add.new.self) c.deref.ensures.value c.in_ok-add.ensures))
