use Rattle.std.proofs.Common.{sym, ap, arith}
use Rattle.std.specs.Option.{option_copied}
use Rattle.bw_core.specs.Views.{kept_by}
use Rattle.bw_core.proofs.LookingMore.{reads_none, reads_once}
use Rattle.bw_core.proofs.EvictedPages.{none_evicted, never_none, read_no_page, was_evicted}
use Rattle.bw_core.proofs.store.Core.page.Goals as goal

pub returns-then-page-eq0-clause-reads : goal.returns-then-page-eq0-clause-reads
returns-then-page-eq0-clause-reads g c = reads_none _ _ c.requires

pub returns-in_err-copy-clause-reads : goal.returns-in_err-copy-clause-reads
returns-in_err-copy-clause-reads g c = reads_none _ _ c.requires

pub returns-in-Some-clause-reads : goal.returns-in-Some-clause-reads
returns-in-Some-clause-reads g c = reads_none _ _ c.requires

pub read_evicted-requires-clause-evicted : goal.read_evicted-requires-clause-evicted
read_evicted-requires-clause-evicted g c =
    let low = c.if-page-eq0.false in
    let high = c.if-page-count.false in
    let count = c.count.ensures.value in
    none_evicted c.args.self.now.pages.leaves c.args.page _ (sym c.page.ensures) (ap option_copied c.in_default.is) (omega arith) (omega arith)

pub returns-clause-no_page : goal.returns-clause-no_page
returns-clause-no_page g c =
    let low = c.if-page-eq0.false in
    let high = c.if-page-count.false in
    let count = c.count.ensures.value in
    let s = kept_by c.args.self.now (λ z. (goal.Segment-dyn g z).holding z.1) in
    (λ e. absurd (read_no_page _ _ _ _ c.read_evicted.ensures.looks.leaves e), λ none. absurd (never_none s c.requires c.args.page (omega arith) (omega arith) none))

pub returns-clause-memory : goal.returns-clause-memory
returns-clause-memory g c = λ here. (
    let low = c.if-page-eq0.false in
    let high = c.if-page-count.false in
    let count = c.count.ensures.value in
    was_evicted _ (none_evicted c.args.self.now.pages.leaves c.args.page _ (sym c.page.ensures) (ap option_copied c.in_default.is) (omega arith) (omega arith)) here)

pub returns-clause-reads : goal.returns-clause-reads
returns-clause-reads g c = reads_once _ _ _ _ _ c.requires c.read_evicted.ensures.looks
