use Rattle.std.proofs.Common.{length, ap, sym, ◌∙◌, arith}
use Rattle.std.specs.Option.{option_copied}
use Rattle.bw_leaf.specs.Changed.{Pairs}
use Rattle.bw_core.proofs.EvictedPages.{none_evicted, was_evicted}
use Rattle.bw_page.proofs.Counted.{pairs_at}
use Rattle.bw_core.proofs.store.Core.pairs_on.Goals as goal

pub returns-in_err-leaf-clause-memory : goal.returns-in_err-leaf-clause-memory
returns-in_err-leaf-clause-memory g c = λ here. (
    let low = c.requires.inside.0 in
    let high = c.requires.inside.1 in
    was_evicted _ (none_evicted c.args.self.now.pages.leaves c.args.page _ (sym c.page.ensures) (ap option_copied c.in_default.is) (omega arith) (omega arith)) here)

pub returns-clause-value : goal.returns-clause-value
returns-clause-value g c =
    ap (λ (ps : Pairs). length ps) c.as_slice-2.ensures
    ∙ pairs_at c.args.page c.args.self.now.pages.leaves.leaves c.in_ok-leaf.leaf c.requires.inside.0 c.in_ok-leaf.ensures.leaf
