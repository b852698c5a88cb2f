use Rattle.std.proofs.Common.{◌∙◌, refl, sym, ap, subst, arith}
use Rattle.bw_leaf.specs.Above.{pair_above}
use Rattle.bw_page.specs.Ahead.{HasCome, HasNoLowAbove, IsNextLow}
use Rattle.bw_leaf.specs.Changed.{Bytes}
use Rattle.bw_page.specs.Leaves.{home}
use Rattle.bw_page.specs.Shown.{Shown}
use Rattle.bw_core.specs.Views.{kept_by}
use Rattle.bw_core.proofs.LookingMore.{reads_behind, stays_as, stays_on, stays_yet}
use Rattle.bw_core.proofs.Walks.{map_of, fewer_ahead, walk_past, walk_some, walk_further, walk_last, gap_next, no_pair}
use Rattle.bw_core.proofs.store.Core.next_at.Goals as goal

pub pages-init : goal.pages-init
pages-init g c =
    let s = kept_by c.args.self.now (λ z. (goal.Segment-dyn g z).holding z.1) in
    record {
      stays = stays_yet _ _ c.requires;
      come = walk_past s c.requires c.args.key.now c.past_gap-from.result c.past_gap-from.ensures;
    }

pub returns-in_err-found-clause-reads : goal.returns-in_err-found-clause-reads
returns-in_err-found-clause-reads g c = reads_behind _ _ _ _ _ _ c.pages.invariant.stays c.pair_from.ensures.looks

pub returns-then-is_some-clause-value : goal.returns-then-is_some-clause-value
returns-then-is_some-clause-value g c =
    let s = kept_by c.args.self.now (λ z. (goal.Segment-dyn g z).holding z.1) in
    walk_some s c.requires c.args.key.now c.pages.from c.in_ok-found.found c.pages.invariant.come
    (c.in_ok-found.ensures.value ∙ ap (λ (f : Shown). pair_above c.pages.from (home c.pages.from f.leaves).pairs) c.pages.invariant.stays.pages)
    (sym c.is_some.ensures ∙ c.if-is_some.true)

pub returns-then-is_some-clause-reads : goal.returns-then-is_some-clause-reads
returns-then-is_some-clause-reads g c = reads_behind _ _ _ _ _ _ c.pages.invariant.stays c.pair_from.ensures.looks

pub note_gap-requires-clause-come : goal.note_gap-requires-clause-come
note_gap-requires-clause-come g c is =
    let s = kept_by c.args.self.now (λ z. (goal.Segment-dyn g z).holding z.1) in
    let value = c.in_ok-found.ensures.value ∙ ap (λ (f : Shown). pair_above c.pages.from (home c.pages.from f.leaves).pairs) c.pages.invariant.stays.pages in
    let none = no_pair c.in_ok-found.found _ value (sym c.is_some.ensures ∙ c.if-is_some.false) in
    let same = c.pair_from.ensures.looks.pages ∙ c.pages.invariant.stays.pages in
    gap_next s c.requires c.pages.from c.in-Some.low _ (ap (λ (f : Shown). f.leaves) same) none
    (subst (λ (f : Shown). IsNextLow f.leaves c.pages.from c.in-Some.low) same c.in-Some.ensures.some)

pub pages-smaller : goal.pages-smaller
pages-smaller g c =
    omega (
      arith,
      fewer_ahead c.pages.from c.in-Some.low _ _ (c.note_gap.ensures.pages ∙ c.pair_from.ensures.looks.pages)
          (subst (λ (f : Shown). IsNextLow f.leaves c.pages.from c.in-Some.low) (sym c.note_gap.ensures.pages) c.in-Some.ensures.some),
    )

pub pages-preserved : goal.pages-preserved
pages-preserved g c =
    let s = kept_by c.args.self.now (λ z. (goal.Segment-dyn g z).holding z.1) in
    let value = c.in_ok-found.ensures.value ∙ ap (λ (f : Shown). pair_above c.pages.from (home c.pages.from f.leaves).pairs) c.pages.invariant.stays.pages in
    let none = no_pair c.in_ok-found.found _ value (sym c.is_some.ensures ∙ c.if-is_some.false) in
    let next = subst (λ (f : Shown). IsNextLow f.leaves c.pages.from c.in-Some.low) (c.pair_from.ensures.looks.pages ∙ c.pages.invariant.stays.pages)
    c.in-Some.ensures.some in
    record {
      stays = stays_as _ _ _ _ (stays_on _ _ _ _ _ _ c.pages.invariant.stays c.in_ok-found.ensures.looks)
          c.note_gap.ensures.sound c.note_gap.ensures.same c.note_gap.ensures.pages c.note_gap.ensures.noted;
      come = walk_further s c.requires c.args.key.now c.pages.from c.in-Some.low c.pages.invariant.come none next;
    }

pub returns-in-None-clause-value : goal.returns-in-None-clause-value
returns-in-None-clause-value g c =
    let s = kept_by c.args.self.now (λ z. (goal.Segment-dyn g z).holding z.1) in
    let value = c.in_ok-found.ensures.value ∙ ap (λ (f : Shown). pair_above c.pages.from (home c.pages.from f.leaves).pairs) c.pages.invariant.stays.pages in
    let none = no_pair c.in_ok-found.found _ value (sym c.is_some.ensures ∙ c.if-is_some.false) in
    let last = subst (λ (f : Shown). HasNoLowAbove f.leaves c.pages.from) (c.pair_from.ensures.looks.pages ∙ c.pages.invariant.stays.pages) (c.in-None.ensures.none refl) in
    walk_last s c.requires c.args.key.now c.pages.from c.pages.invariant.come none last

pub returns-in-None-clause-reads : goal.returns-in-None-clause-reads
returns-in-None-clause-reads g c = reads_behind _ _ _ _ _ _ c.pages.invariant.stays c.pair_from.ensures.looks
