use Rattle.std.proofs.Common.{◌≡◌, [], ◌∷◌, ◌∙◌, ◌+◌, ◌++◌, ◌-◌, ℕ, refl, List, true, length, map, ap, subst, sym, arith, rules}
use Rattle.bw_record.specs.declared.record.Record.{Record}
use Rattle.bw_codec.specs.Grammar.{IsBlock}
use Rattle.bw_record.specs.declared.block.Block.TheVariants.{Delta}
use Rattle.bw_buffer.specs.Filling.{Filling, frame_of, with_all}
use Rattle.bw_buffer.proofs.Holding.{got}
use Rattle.bw_page.specs.Seats.{is_among}
use Rattle.bw_page.specs.Shown.{IsSpent}
use Rattle.bw_buffer.specs.Joining.{added}
use Rattle.bw_making.specs.Adding.{here_for, blocks_for}
use Rattle.bw_making.specs.Overlay.{is_made}
use Rattle.bw_core.specs.Views.{kept_by}
use Rattle.bw_core.specs.Kept.{filed_of}
use Rattle.bw_core.specs.Kept as kept
use Rattle.bw_core.specs.Taken.{alone, taken}
use Rattle.bw_core.proofs.Deltas.{delta_blocks, enters_whole, last_is_back}
use Rattle.bw_core.proofs.EvictedPages.{evicted_entered, page_within}
use Rattle.bw_core.proofs.MayEnter.{file_lawful, entered, entered_sound, lane_inside}
use Rattle.bw_history.specs.declared.entry.Entry.{Entry}
use Rattle.bw_ring.specs.Marks.{marked}
use Rattle.bw_ring.specs.Ends.{ring_of_lane}
use Rattle.bw_history.specs.History.{entered as entries_of}
use Rattle.bw_history.proofs.Grouped.{whole_entered}
use Rattle.bw_core.proofs.store.Core.enter_delta.Goals as goal

pub overflow_sub-page : goal.overflow_sub-page
overflow_sub-page g c =
    (page_within (kept_by c.args.self.now (λ z. (goal.Segment-dyn g z).holding z.1)) c.requires.comes.sound c.args.item.now c.args.page c.requires.at.directed).0

pub index-back-requires : goal.index-back-requires
index-back-requires g c =
    let w = page_within (kept_by c.args.self.now (λ z. (goal.Segment-dyn g z).holding z.1)) c.requires.comes.sound c.args.item.now c.args.page c.requires.at.directed in
    let count = c.requires.comes.sound.grown.count in
    omega arith

pub file_delta-requires-clause-lawful : goal.file_delta-requires-clause-lawful
file_delta-requires-clause-lawful g c =
    let w = page_within (kept_by c.args.self.now (λ z. (goal.Segment-dyn g z).holding z.1)) c.requires.comes.sound c.args.item.now c.args.page c.requires.at.directed in
    let count = c.requires.comes.sound.grown.count in
    let back = c.index-back.result.now in
    let last = got c.args.self.now.pages.newest.items (c.args.page - 1) back (omega arith) c.index-back.ensures in
    let e = enters_whole c.args.page c.requires.comes.sound c.requires.frame.next c.key.ensures.lawful c.requires.at.directed last c.requires.whole c.requires.fits in
    let same = c.item.ensures ∙ ap (λ (e : Entry). e.item) c.in_ok-entry.ensures in
    subst (λ (r : Record). IsBlock 32 (Delta c.args.page back (r ∷ []))) (sym same)
    (file_lawful e (λ p. let x = c.in_ok-apply_found.ensures.spent p in cc)).0

pub file_delta-requires-clause-page : goal.file_delta-requires-clause-page
file_delta-requires-clause-page g c =
    let w = page_within (kept_by c.args.self.now (λ z. (goal.Segment-dyn g z).holding z.1)) c.requires.comes.sound c.args.item.now c.args.page c.requires.at.directed in
    let count = c.requires.comes.sound.grown.count in
    (omega arith, omega arith)

pub invariant_of-self-3 : goal.invariant_of-self-3
invariant_of-self-3 g c =
    let was = c.args.self.now in
    let f = was.pages.leaves in
    let back = c.index-back.result.now in
    let same = c.item.ensures ∙ ap (λ (e : Entry). e.item) c.in_ok-entry.ensures in
    let filed = c.file_delta.ensures.making ∙ ap (λ (r : Record). with_all c.args.self.now.pages.making (Delta c.args.page back (r ∷ []) ∷ [])) same in
    let here = here_for (frame_of was.pages.making) c.args.page in
    let made : c.file_delta.new.making.blocks ≡ added was.pages.making.blocks (blocks_for f.m f.leaves back here c.args.item.now) =
    ap (λ (b : Filling). b.blocks) filed
    ∙ ap (added was.pages.making.blocks) (delta_blocks f.m f.leaves back here c.args.item.now c.args.page c.requires.at.directed c.requires.whole) in (
      λ q evicted.
          ap (is_made q) made
          ∙ evicted_entered f.m f.leaves back here c.args.item.now was.pages.making.blocks f.evicted q
          (subst (λ (ps : List ℕ). is_among q ps ≡ true) c.apply_found.ensures.evicted evicted) c.requires.at.here
          (c.count.ensures.beyond (length f.leaves + 1) (omega arith))
          (was.pages.logged q (subst (λ (ps : List ℕ). is_among q ps ≡ true) c.apply_found.ensures.evicted evicted)),
      tt,
    )

pub invariant_of-self-4 : goal.invariant_of-self-4
invariant_of-self-4 g c =
    let was = c.args.self.now in
    record {
      whole = whole_entered was.seals.cuts.items was.intake.history.items c.enter_alone.new.self.history.items c.args.lane (c.args.item.now ∷ [])
          c.requires.comes.sound.ordered was.whole
          (c.enter_alone.ensures.grows ∙ ap (λ (es : List Entry). es ++ entries_of c.args.lane (marked (c.args.item.now ∷ []))) c.reserve.ensures.history);
      began = was.began;
      forgotten = (let entered = c.enter_alone.ensures.gone in let reserved = c.reserve.ensures.gone in let known = was.forgotten in omega arith);
    }

pub returns-clause-takes : goal.returns-clause-takes
returns-clause-takes g c =
    let w = page_within (kept_by c.args.self.now (λ z. (goal.Segment-dyn g z).holding z.1)) c.requires.comes.sound c.args.item.now c.args.page c.requires.at.directed in
    let count = c.requires.comes.sound.grown.count in
    let back = c.index-back.result.now in
    let same = c.item.ensures ∙ ap (λ (e : Entry). e.item) c.in_ok-entry.ensures in
    let filed = c.file_delta.ensures.making ∙ ap (λ (r : Record). with_all c.args.self.now.pages.making (Delta c.args.page back (r ∷ []) ∷ [])) same in
    let last = got c.args.self.now.pages.newest.items (c.args.page - 1) back (omega arith) c.index-back.ensures in
    let e = enters_whole c.args.page c.requires.comes.sound c.requires.frame.next c.key.ensures.lawful c.requires.at.directed last c.requires.whole c.requires.fits in
    let not : IsSpent c.args.self.now.pages.leaves c.args.item.now → ⊥ = λ p. let x = c.in_ok-apply_found.ensures.spent p in cc in
    record {
      sound =
          subst kept.IsSound
          (sym (entered (alone c.args.item.now) e not c.args.lane c.args.page c.enter_alone.new.self.history.items (filed_of c.apply_found.new.leaves)
          c.file_delta.new.newest.items c.file_delta.new.making c.requires.at.directed
          _ c.enter_alone.ensures.grows c.reserve.ensures.history (ap filed_of c.in_ok-apply_found.ensures.ok)
          _ c.file_delta.ensures.newest refl filed
          _ _ c.enter_alone.ensures.rings (ap (λ v. map ring_of_lane v.items) c.reserve.ensures.lanes)))
          (entered_sound (alone c.args.item.now) e not (sym c.requires.comes.sound.sealed ∙ c.requires.frame.unsealed) c.args.lane (lane_inside _ _ c.requires.comes.inside));
      count = search rules;
      given = search rules;
      known = search rules;
      stays = search rules;
      noted = search rules;
    }

pub returns-clause-ok : goal.returns-clause-ok
returns-clause-ok g c =
    let w = page_within (kept_by c.args.self.now (λ z. (goal.Segment-dyn g z).holding z.1)) c.requires.comes.sound c.args.item.now c.args.page c.requires.at.directed in
    let count = c.requires.comes.sound.grown.count in
    let back = c.index-back.result.now in
    let same = c.item.ensures ∙ ap (λ (e : Entry). e.item) c.in_ok-entry.ensures in
    let filed = c.file_delta.ensures.making ∙ ap (λ (r : Record). with_all c.args.self.now.pages.making (Delta c.args.page back (r ∷ []) ∷ [])) same in
    let last = got c.args.self.now.pages.newest.items (c.args.page - 1) back (omega arith) c.index-back.ensures in
    let e = enters_whole c.args.page c.requires.comes.sound c.requires.frame.next c.key.ensures.lawful c.requires.at.directed last c.requires.whole c.requires.fits in
    let not : IsSpent c.args.self.now.pages.leaves c.args.item.now → ⊥ = λ p. let x = c.in_ok-apply_found.ensures.spent p in cc in
    let s = kept_by c.args.self.now (λ z. (goal.Segment-dyn g z).holding z.1) in
    entered (alone c.args.item.now) e not c.args.lane c.args.page c.enter_alone.new.self.history.items (filed_of c.apply_found.new.leaves)
    c.file_delta.new.newest.items c.file_delta.new.making c.requires.at.directed
    _ c.enter_alone.ensures.grows c.reserve.ensures.history (ap filed_of c.in_ok-apply_found.ensures.ok)
    _ c.file_delta.ensures.newest refl filed
    _ _ c.enter_alone.ensures.rings (ap (λ v. map ring_of_lane v.items) c.reserve.ensures.lanes)
    ∙ ap (taken s c.args.lane (alone c.args.item.now)) (last_is_back s c.args.item.now back e.last)
