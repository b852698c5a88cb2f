use Rattle.std.proofs.Common.{◌≡◌, [], ◌∷◌, ◌∙◌, ◌+◌, ◌++◌, ℕ, Err, refl, List, true, length, map, ap, subst, sym, arith, rules}
use Rattle.bw_buffer.specs.Filling.{Filling, frame_of}
use Rattle.bw_page.specs.Seats.{is_among}
use Rattle.bw_buffer.specs.Joining.{added}
use Rattle.bw_making.specs.Adding.{here_for, blocks_for}
use Rattle.bw_making.specs.Overlay.{is_made}
use Rattle.bw_core.specs.Views.{kept_by}
use Rattle.bw_core.proofs.EvictedPages.{evicted_entered}
use Rattle.bw_page.specs.Shown.{IsSpent}
use Rattle.bw_core.specs.Kept.{filed_of}
use Rattle.bw_core.specs.Kept as kept
use Rattle.bw_history.specs.declared.entry.Entry.{Entry}
use Rattle.bw_ring.specs.Marks.{marked}
use Rattle.bw_history.specs.History.{entered as entries_of}
use Rattle.bw_history.proofs.Grouped.{whole_entered}
use Rattle.std.proofs.lemmas.Result.{err_from_is_err_and}
use Rattle.bw_page.specs.declared.fault.ApplyError.{ApplyError}
use Rattle.bw_core.specs.Taken.{alone}
use Rattle.bw_core.proofs.Planned.{one_wanting_of}
use Rattle.bw_core.proofs.MayEnter.{enters_at, file_one, file_page, file_lawful, entered, entered_sound, lane_inside}
use Rattle.bw_ring.specs.Ends.{ring_of_lane}
use Rattle.bw_core.proofs.store.Core.enter.Goals as goal

pub apply_entry-requires-clause-here : goal.apply_entry-requires-clause-here
apply_entry-requires-clause-here g c = c.requires.at.here

pub apply_entry-requires-clause-page : goal.apply_entry-requires-clause-page
apply_entry-requires-clause-page g c = c.requires.at.directed

pub invariant_of-self-4 : goal.invariant_of-self-4
invariant_of-self-4 g c =
    let was = c.args.self.now in
    let f = was.pages.leaves in
    let here = here_for (frame_of was.pages.making) c.args.page in
    let made : c.file.new.making.blocks ≡ added was.pages.making.blocks (blocks_for f.m f.leaves c.args.back here c.args.item.now) =
    ap (λ (b : Filling). b.blocks) c.file.ensures.making ∙ ap (added was.pages.making.blocks) c.requires.blocks in (
      λ q evicted.
          ap (is_made q) made
          ∙ evicted_entered f.m f.leaves c.args.back here c.args.item.now was.pages.making.blocks f.evicted q
          (subst (λ (ps : List ℕ). is_among q ps ≡ true) c.apply_entry.ensures.evicted evicted) c.requires.at.here
          (c.count.ensures.beyond (length f.leaves + 1) (omega arith))
          (was.pages.logged q (subst (λ (ps : List ℕ). is_among q ps ≡ true) c.apply_entry.ensures.evicted evicted)),
      tt,
    )

pub invariant_of-self-5 : goal.invariant_of-self-5
invariant_of-self-5 g c =
    let was = c.args.self.now in
    record {
      whole = whole_entered was.seals.cuts.items was.intake.history.items c.enter_alone.new.self.history.items c.args.lane (c.args.item.now ∷ [])
          c.requires.comes.sound.ordered was.whole
          (c.enter_alone.ensures.grows ∙ ap (λ (es : List Entry). es ++ entries_of c.args.lane (marked (c.args.item.now ∷ []))) c.reserve.ensures.history);
      began = was.began;
      forgotten = (let entered = c.enter_alone.ensures.gone in let reserved = c.reserve.ensures.gone in let known = was.forgotten in omega arith);
    }

pub file-requires-clause-lawful : goal.file-requires-clause-lawful
file-requires-clause-lawful g c =
    file_lawful (enters_at c.args.page c.requires.comes.sound c.requires.frame.next c.key.ensures.lawful c.requires.at.directed c.requires.back c.requires.blocks c.requires.fits)
    (λ p. let x = c.in_ok-apply_entry.ensures.spent p in cc)

pub file-requires-clause-one : goal.file-requires-clause-one
file-requires-clause-one g c =
    file_one (enters_at c.args.page c.requires.comes.sound c.requires.frame.next c.key.ensures.lawful c.requires.at.directed c.requires.back c.requires.blocks c.requires.fits)
    c.args.page c.requires.at.directed

pub file-requires-clause-page : goal.file-requires-clause-page
file-requires-clause-page g c =
    rw c.reserve-2.ensures.items
    (file_page (enters_at c.args.page c.requires.comes.sound c.requires.frame.next c.key.ensures.lawful c.requires.at.directed c.requires.back c.requires.blocks c.requires.fits)
    c.args.page c.requires.at.directed)

pub returns-clause-takes : goal.returns-clause-takes
returns-clause-takes g c =
    let e = enters_at c.args.page c.requires.comes.sound c.requires.frame.next c.key.ensures.lawful c.requires.at.directed c.requires.back c.requires.blocks c.requires.fits in
    let not : IsSpent c.args.self.now.pages.leaves c.args.item.now → ⊥ = λ p. let x = c.in_ok-apply_entry.ensures.spent p in cc in
    record {
      sound =
          subst kept.IsSound
          (sym (entered (alone c.args.item.now) e not c.args.lane c.args.page c.enter_alone.new.self.history.items (filed_of c.apply_entry.new.leaves)
          c.file.new.newest.items c.file.new.making c.requires.at.directed
          _ c.enter_alone.ensures.grows c.reserve.ensures.history (ap filed_of c.in_ok-apply_entry.ensures.ok)
          _ c.file.ensures.newest c.reserve-2.ensures.items c.file.ensures.making
          _ _ c.enter_alone.ensures.rings (ap (λ v. map ring_of_lane v.items) c.reserve.ensures.lanes)))
          (entered_sound (alone c.args.item.now) e not (sym c.requires.comes.sound.sealed ∙ c.requires.frame.unsealed) c.args.lane (lane_inside _ _ c.requires.comes.inside));
      count = search rules;
      given = search rules;
      known = search rules;
      stays = search rules;
      noted = search rules;
    }

pub returns-in_err-apply_entry-clause-refused : goal.returns-in_err-apply_entry-clause-refused
returns-in_err-apply_entry-clause-refused g c =
    let p = err_from_is_err_and c.from_residual-in_err-apply_entry.result c.from_residual-in_err-apply_entry.ensures.1 in
    rw (p.1, p.2) (one_wanting_of (kept_by c.args.self.now (λ z. (goal.Segment-dyn g z).holding z.1)) c.args.self.now.pages.leaves c.args.item.now
    c.in_err-apply_entry.field-0.0 refl refl
    (λ e. c.in_err-apply_entry.ensures.only_spent (ap (λ (x : ApplyError). Err x) e)))
