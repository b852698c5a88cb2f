use Rattle.std.proofs.Common.{◌≡◌, ◌∙◌, ◌++◌, ℕ, List, Err, true, length, map, ap, refl, subst, sym, arith, rules}
use Rattle.std.proofs.lemmas.Result.{err_from_is_err_and}
use Rattle.bw_record.specs.declared.leaf.Leaf.{Leaf}
use Rattle.bw_page.specs.Leaves.{pages}
use Rattle.bw_page.specs.Seats.{is_among}
use Rattle.bw_page.specs.Shown.{Shown}
use Rattle.bw_page.specs.declared.fault.ApplyError.{ApplyError}
use Rattle.bw_ring.specs.Ends.{ring_of_lane}
use Rattle.bw_ring.specs.Marks.{marked}
use Rattle.bw_history.specs.declared.entry.Entry.{Entry}
use Rattle.bw_history.specs.History.{entered}
use Rattle.bw_core.specs.Kept.{filed_of}
use Rattle.bw_core.specs.Kept as kept
use Rattle.bw_core.specs.Views.{kept_by}
use Rattle.bw_core.proofs.EnterMore.{all_sound, evicted_now, blocks_some, entered_all, filed_with, rows_inside, rows_many, wanting_of}
use Rattle.bw_history.proofs.Grouped.{whole_entered}
use Rattle.bw_core.proofs.MayEnter.{lane_inside}
use Rattle.bw_core.proofs.store.Core.enter_all.Goals as goal

pub returns-in_err-apply_entries-clause-refused : goal.returns-in_err-apply_entries-clause-refused
returns-in_err-apply_entries-clause-refused g c =
    let s = kept_by c.args.self.now (λ z. (goal.Segment-dyn g z).holding z.1) in
    let p = err_from_is_err_and c.from_residual-in_err-apply_entries.result c.from_residual-in_err-apply_entries.ensures.1 in
    rw (p.1, p.2) (wanting_of s c.args.self.now.pages.leaves c.args.group c.in_err-apply_entries.field-0.0 refl refl
    (λ e. rw (sym c.as_slice.ensures.value) (c.in_err-apply_entries.ensures.only_spent (ap (λ (x : ApplyError). Err x) e))))

pub file_all-requires-clause-some : goal.file_all-requires-clause-some
file_all-requires-clause-some g c =
    let s = kept_by c.args.self.now (λ z. (goal.Segment-dyn g z).holding z.1) in
    blocks_some s c.args.group c.args.draft.now c.requires.comes.sound c.requires.packed.lawful c.requires.draft _ c.as_slice-3.ensures.value c.as_slice.ensures.few.0

pub file_all-requires-clause-inside : goal.file_all-requires-clause-inside
file_all-requires-clause-inside g c =
    let s = kept_by c.args.self.now (λ z. (goal.Segment-dyn g z).holding z.1) in
    rows_inside s c.args.group c.args.draft.now c.requires.comes.sound c.requires.packed.lawful c.requires.draft _ _
    (ap length c.reserve-2.ensures.items ∙ c.requires.comes.sound.grown.count) c.as_slice-rows.ensures.value

pub file_all-requires-clause-room : goal.file_all-requires-clause-room
file_all-requires-clause-room g c =
    let s = kept_by c.args.self.now (λ z. (goal.Segment-dyn g z).holding z.1) in
    let many = rows_many s c.args.group c.args.draft.now c.requires.comes.sound c.requires.packed.lawful c.requires.draft _ c.as_slice-rows.ensures.value in
    let count = c.len.ensures.value in
    let room = c.in_ok-reserve-2.ensures.ok in
    omega arith

pub invariant_of-self-4 : goal.invariant_of-self-4
invariant_of-self-4 g c =
    let was = c.args.self.now in
    let s = kept_by was (λ z. (goal.Segment-dyn g z).holding z.1) in
    let after = c.in_ok-apply_entries.ensures.ok in
    let evicted = ap (λ (x : Shown). x.evicted) after in (
      λ q there.
          evicted_now s c.args.group c.args.draft.now c.requires.comes.sound c.requires.packed.lawful c.requires.draft was.pages.leaves.evicted q _ _ c.requires.packed.here
          c.count.ensures.beyond
          (subst (λ (ps : List ℕ). is_among q ps ≡ true) evicted there) (was.pages.logged q (subst (λ (ps : List ℕ). is_among q ps ≡ true) evicted there))
          c.file_all.ensures.making c.as_slice-3.ensures.value,
      tt,
    )

pub invariant_of-self-5 : goal.invariant_of-self-5
invariant_of-self-5 g c =
    let was = c.args.self.now in
    record {
      whole = whole_entered was.seals.cuts.items was.intake.history.items c.enter.new.self.history.items c.args.lane c.args.group c.requires.comes.sound.ordered
          was.whole
          (c.enter.ensures.grows ∙ ap (λ (es : List Entry). es ++ entered c.args.lane (marked c.args.group)) c.reserve.ensures.history);
      began = was.began;
      forgotten = (let entered = c.enter.ensures.gone in let reserved = c.reserve.ensures.gone in let known = was.forgotten in omega arith);
    }

pub returns-clause-takes : goal.returns-clause-takes
returns-clause-takes g c =
    let was = c.args.self.now in
    let s = kept_by was (λ z. (goal.Segment-dyn g z).holding z.1) in
    let leaves = ap (pages was.pages.leaves.m was.pages.leaves.leaves) c.as_slice.ensures.value in
    record {
      sound =
          subst kept.IsSound
          (sym (entered_all s c.args.group c.args.draft.now c.requires.comes.sound c.requires.packed.lawful c.requires.draft c.args.lane _ _ c.enter.new.self.history.items _
          (filed_of c.apply_entries.new.leaves) _ _ _ _ _
          c.enter.ensures.rings (ap (λ v. map ring_of_lane v.items) c.reserve.ensures.lanes) c.enter.ensures.grows c.reserve.ensures.history
          (ap filed_of c.in_ok-apply_entries.ensures.ok ∙ ap (λ (ls : List Leaf). filed_with was.pages.leaves.m ls) leaves)
          c.file_all.ensures.newest c.reserve-2.ensures.items c.as_slice-rows.ensures.value c.file_all.ensures.making c.as_slice-3.ensures.value))
          (all_sound s c.args.group c.args.draft.now c.requires.comes.sound c.requires.packed.lawful c.requires.draft c.args.lane
          (sym c.requires.comes.sound.sealed ∙ c.requires.frame.unsealed) c.requires.frame.next
          (lane_inside _ _ c.requires.comes.inside));
      count = search rules;
      given = search rules;
      known = search rules;
      stays = search rules;
      noted = search rules;
    }

pub returns-clause-ok : goal.returns-clause-ok
returns-clause-ok g c =
    let was = c.args.self.now in
    let s = kept_by was (λ z. (goal.Segment-dyn g z).holding z.1) in
    let leaves = ap (pages was.pages.leaves.m was.pages.leaves.leaves) c.as_slice.ensures.value in
    entered_all s c.args.group c.args.draft.now c.requires.comes.sound c.requires.packed.lawful c.requires.draft c.args.lane _ _ c.enter.new.self.history.items _
    (filed_of c.apply_entries.new.leaves) _ _ _ _ _
    c.enter.ensures.rings (ap (λ v. map ring_of_lane v.items) c.reserve.ensures.lanes) c.enter.ensures.grows c.reserve.ensures.history
    (ap filed_of c.in_ok-apply_entries.ensures.ok ∙ ap (λ (ls : List Leaf). filed_with was.pages.leaves.m ls) leaves)
    c.file_all.ensures.newest c.reserve-2.ensures.items c.as_slice-rows.ensures.value c.file_all.ensures.making c.as_slice-3.ensures.value
