use Rattle.std.specs.Prelude.{length, ◌==◌}
use Rattle.std.proofs.Common.{◌∙◌, refl, sym, ap, subst, arith}
use Rattle.bw_leaf.specs.Above.{pairs_above, with_some}
use Rattle.bw_page.specs.Ahead.{IsStretch, HasGone, HasNoLowAbove, IsNextLow}
use Rattle.bw_leaf.specs.Changed.{Bytes, Pairs}
use Rattle.bw_page.specs.Leaves.{home}
use Rattle.bw_page.specs.Shown.{Shown}
use Rattle.bw_core.specs.Views.{kept_by}
use Rattle.bw_core.proofs.LookingMore.{reads_behind, reads_no_more, stays_as, stays_on, stays_yet}
use Rattle.bw_core.proofs.Walks.{map_of, fewer_ahead, stretch_past, stretch_more, stretch_last, stretch_full, gap_gone}
use Rattle.bw_core.proofs.store.Core.scan.Goals as goal

pub pages-init : goal.pages-init
pages-init g c =
    let s = kept_by c.args.self.now (λ z. (goal.Segment-dyn g z).holding z.1) in
    record {
      stays = stays_yet _ _ c.requires;
      gone = subst (λ (ps : Pairs). HasGone (map_of s) c.args.key.now c.past_gap-from.result c.args.most ps) (sym c.clear.ensures.items)
          (stretch_past s c.requires c.args.key.now c.past_gap-from.result c.args.most c.past_gap-from.ensures);
    }

pub returns-in_err-add_pairs-clause-reads : goal.returns-in_err-add_pairs-clause-reads
returns-in_err-add_pairs-clause-reads g c = reads_behind _ _ _ _ _ _ c.pages.invariant.stays c.add_pairs.ensures.looks

pub note_gap-requires-clause-come : goal.note_gap-requires-clause-come
note_gap-requires-clause-come g c none =
    let s = kept_by c.args.self.now (λ z. (goal.Segment-dyn g z).holding z.1) in
    let value = c.in_ok-add_pairs.ensures.value
    ∙ ap (λ (f : Shown). with_some c.args.most c.pages.found.items (pairs_above c.pages.from (home c.pages.from f.leaves).pairs)) c.pages.invariant.stays.pages in
    let same = c.add_pairs.ensures.looks.pages ∙ c.pages.invariant.stays.pages in
    let next = subst (λ (f : Shown). IsNextLow f.leaves c.pages.from c.in-Some.low) same c.in-Some.ensures.some in
    let gone = subst (λ (ps : Pairs). HasGone (map_of s) c.args.key.now c.in-Some.low c.args.most ps) (sym value)
    (stretch_more s c.requires c.args.key.now c.pages.from c.args.most c.pages.found.items c.pages.invariant.gone c.in-Some.low
    (omega (arith, c.pages-test.true, c.len.ensures)) next) in
    gap_gone s c.requires c.args.key.now c.pages.from c.in-Some.low c.args.most _ _ (ap (λ (f : Shown). f.leaves) same) c.pages.invariant.gone.upto next.above gone
    (sym (c.is_empty.ensures ∙ ap (λ (ps : Pairs). length ps == 0) c.as_slice.ensures.value) ∙ none) (omega (arith, c.pages-test.true, c.len.ensures))

pub pages-smaller : goal.pages-smaller
pages-smaller g c =
    omega (
      arith,
      fewer_ahead c.pages.from c.in-Some.low _ _ (c.note_gap.ensures.pages ∙ c.add_pairs.ensures.looks.pages)
          (subst (λ (f : Shown). IsNextLow f.leaves c.pages.from c.in-Some.low) (sym c.note_gap.ensures.pages) c.in-Some.ensures.some),
    )

pub pages-preserved : goal.pages-preserved
pages-preserved g c =
    let s = kept_by c.args.self.now (λ z. (goal.Segment-dyn g z).holding z.1) in
    let value = c.in_ok-add_pairs.ensures.value
    ∙ ap (λ (f : Shown). with_some c.args.most c.pages.found.items (pairs_above c.pages.from (home c.pages.from f.leaves).pairs)) c.pages.invariant.stays.pages in
    let next = subst (λ (f : Shown). IsNextLow f.leaves c.pages.from c.in-Some.low) (c.add_pairs.ensures.looks.pages ∙ c.pages.invariant.stays.pages)
    c.in-Some.ensures.some in
    record {
      stays = stays_as _ _ _ _ (stays_on _ _ _ _ _ _ c.pages.invariant.stays c.in_ok-add_pairs.ensures.looks)
          c.note_gap.ensures.sound c.note_gap.ensures.same c.note_gap.ensures.pages c.note_gap.ensures.noted;
      gone = subst (λ (ps : Pairs). HasGone (map_of s) c.args.key.now c.in-Some.low c.args.most ps) (sym value)
          (stretch_more s c.requires c.args.key.now c.pages.from c.args.most c.pages.found.items c.pages.invariant.gone c.in-Some.low
          (omega (arith, c.pages-test.true, c.len.ensures)) next);
    }

pub returns-in-None-clause-value : goal.returns-in-None-clause-value
returns-in-None-clause-value g c =
    let s = kept_by c.args.self.now (λ z. (goal.Segment-dyn g z).holding z.1) in
    let value = c.in_ok-add_pairs.ensures.value
    ∙ ap (λ (f : Shown). with_some c.args.most c.pages.found.items (pairs_above c.pages.from (home c.pages.from f.leaves).pairs)) c.pages.invariant.stays.pages in
    let last = subst (λ (f : Shown). HasNoLowAbove f.leaves c.pages.from) (c.add_pairs.ensures.looks.pages ∙ c.pages.invariant.stays.pages) (c.in-None.ensures.none refl) in
    subst (λ (ps : Pairs). IsStretch (map_of s) c.args.key.now c.args.most ps) (sym value)
    (stretch_last s c.requires c.args.key.now c.pages.from c.args.most c.pages.found.items c.pages.invariant.gone
    (omega (arith, c.pages-test.true, c.len.ensures)) last)

pub returns-in-None-clause-reads : goal.returns-in-None-clause-reads
returns-in-None-clause-reads g c = reads_behind _ _ _ _ _ _ c.pages.invariant.stays c.add_pairs.ensures.looks

pub returns-clause-value : goal.returns-clause-value
returns-clause-value g c =
    let s = kept_by c.args.self.now (λ z. (goal.Segment-dyn g z).holding z.1) in
    stretch_full s c.requires c.args.key.now c.pages.from c.args.most c.pages.found.items c.pages.invariant.gone
    (omega (arith, c.pages-test.false, c.len.ensures))

pub returns-clause-reads : goal.returns-clause-reads
returns-clause-reads g c = reads_no_more _ _ _ c.pages.invariant.stays
