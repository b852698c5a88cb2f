use Rattle.std.proofs.Common.{◌∙◌, Bool, ap, sym, arith}
use Rattle.std.specs.Prelude.{not, ◌&&◌}
use Rattle.bw_making.specs.Overlay.{is_made}
use Rattle.bw_core.specs.Views.{kept_by}
use Rattle.bw_core.proofs.EvictedPages.{here_or_evicted, never_none, evicted_more, kept_apart}
use Rattle.bw_core.proofs.store.Core.evict.Goals as goal

pub returns-then-not-is_here-clause-left : goal.returns-then-not-is_here-clause-left
returns-then-not-is_here-clause-left g c =
    let low = c.if-page-eq0.false in
    let high = c.if-page-count.false in
    let count = c.count.ensures.value in
    let here = here_or_evicted c.args.self.now.pages.leaves c.args.page c.is_here.result c.is_here.ensures (omega arith) (omega arith) in
    sym (ap (λ (b : Bool). b && not (is_made c.args.page c.args.self.now.pages.making.blocks)) (sym here ∙ c.if-not-is_here.true))

pub returns-then-not-is_here-clause-no_page : goal.returns-then-not-is_here-clause-no_page
returns-then-not-is_here-clause-no_page g c =
    let low = c.if-page-eq0.false in
    let high = c.if-page-count.false in
    let count = c.count.ensures.value in
    let s = kept_by c.args.self.now (λ z. (goal.Segment-dyn g z).holding z.1) in
    (λ e. absurd cc, λ none. absurd (never_none s c.requires c.args.page (omega arith) (omega arith) none))

pub returns-then-is_made-clause-left : goal.returns-then-is_made-clause-left
returns-then-is_made-clause-left g c = kept_apart _ _ (sym c.is_made.ensures ∙ c.if-is_made.true)

pub invariant_of-self : goal.invariant_of-self
invariant_of-self g c =
    let was = c.args.self.now.pages in
    let logged = evicted_more was.leaves c.evict_page.new.self c.args.page was.making.blocks c.evict_page.ensures.evicted
    was.logged (sym c.is_made.ensures ∙ c.if-is_made.false) in
    (logged, tt)
