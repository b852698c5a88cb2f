use Rattle.std.proofs.Common.{◌∙◌, sym, ap, List, Ok}
use Rattle.std.specs.FinMap as finite
use Rattle.bw_record.specs.declared.leaf.Leaf.{Leaf}
use Rattle.bw_leaf.specs.Changed.{Map}
use Rattle.bw_page.specs.Leaves.{home}
use Rattle.bw_page.specs.Shown.{Shown}
use Rattle.bw_page.proofs.Law.{get-union}
use Rattle.bw_walks.specs.Shared.{pair_at, with_key}
use Rattle.bw_core.specs.Views.{kept_by}
use Rattle.bw_core.proofs.EvictedPages.{answer_is}
use Rattle.bw_core.proofs.LookingMore.{reads_no_more, reads_once}
use Rattle.bw_core.proofs.store.Core.get_shared.Goals as goal

pub returns-in_err-pair-clause-reads : goal.returns-in_err-pair-clause-reads
returns-in_err-pair-clause-reads g c =
    let its = c.note_asked.ensures in
    reads_no_more _ _ _ (record { sound = its.sound; same = its.same; pages = its.pages; noted = its.noted })

pub returns-then-is_here-clause-value : goal.returns-then-is_here-clause-value
returns-then-is_here-clause-value g c =
    let f = c.args.self.now.pages.leaves in
    let key = c.args.key.now in
    c.in_ok-pair.ensures
    ∙ ap (λ (s : Shown). pair_at key (home key s.leaves).pairs) c.note_asked.ensures.pages
    ∙ ap (with_key key) (sym (get-union f.m key f.leaves c.requires.grown.stands.lawful) ∙ ap (λ (u : Map). finite.get u key) c.requires.mapped)

pub returns-then-is_here-clause-reads : goal.returns-then-is_here-clause-reads
returns-then-is_here-clause-reads g c =
    let its = c.note_asked.ensures in
    reads_no_more _ _ _ (record { sound = its.sound; same = its.same; pages = its.pages; noted = its.noted })

pub returns-in_err-value-clause-reads : goal.returns-in_err-value-clause-reads
returns-in_err-value-clause-reads g c = reads_once _ _ _ _ _ c.requires c.in_err-value.ensures.looks

pub returns-in_err-pair-2-clause-reads : goal.returns-in_err-pair-2-clause-reads
returns-in_err-pair-2-clause-reads g c = reads_once _ _ _ _ _ c.requires c.in_ok-value.ensures.looks

pub returns-clause-value : goal.returns-clause-value
returns-clause-value g c =
    let key = c.args.key.now in
    c.in_ok-pair-2.ensures
    ∙ ap (with_key key) (answer_is (kept_by c.args.self.now (λ z. (goal.Segment-dyn g z).holding z.1)) c.requires key c.find-page.result
    c.find-page.ensures.directed c.find-page.ensures.within (Ok c.in_ok-value.value) c.in_ok-value.ensures.value)

pub returns-clause-reads : goal.returns-clause-reads
returns-clause-reads g c = reads_once _ _ _ _ _ c.requires c.in_ok-value.ensures.looks
