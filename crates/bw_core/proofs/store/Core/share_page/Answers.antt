use Rattle.std.proofs.Common.{◌∙◌, sym, ap}
use Rattle.std.specs.Option.{option_copied}
use Rattle.bw_record.specs.declared.leaf.Leaf.{Leaf}
use Rattle.bw_leaf.specs.Above.{pairs_above, with_some}
use Rattle.bw_core.specs.Views.{kept_by}
use Rattle.bw_core.proofs.Walks.{here_at, home_leaf}
use Rattle.bw_core.proofs.store.Core.share_page.Goals as goal

pub returns-in-Some-clause-value : goal.returns-in-Some-clause-value
returns-in-Some-clause-value g c =
    let s = kept_by c.args.self.now (λ z. (goal.Segment-dyn g z).holding z.1) in
    let there = here_at c.args.self.now.pages.leaves c.find-page.result c.in-Some.leaf.now (sym c.page.ensures ∙ ap option_copied c.in-Some.is) in
    c.in_ok-share_pairs.ensures
    ∙ ap (λ (l : Leaf). with_some c.args.most c.args.found.now.items (pairs_above c.args.key.now l.pairs))
    (home_leaf s c.requires c.args.key.now c.find-page.result c.in-Some.leaf.now c.find-page.ensures.directed there)

pub returns-clause-value : goal.returns-clause-value
returns-clause-value g c =
    let s = kept_by c.args.self.now (λ z. (goal.Segment-dyn g z).holding z.1) in
    c.in_ok-share_pairs-2.ensures
    ∙ ap (λ (l : Leaf). with_some c.args.most c.args.found.now.items (pairs_above c.args.key.now l.pairs))
    (home_leaf s c.requires c.args.key.now c.find-page.result c.in_ok-leaf.leaf c.find-page.ensures.directed c.in_ok-leaf.ensures.leaf)
