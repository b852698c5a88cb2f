use Rattle.std.proofs.Common.{◌≡◌, ◌∙◌, sym, ap, subst, IfOk}
use Rattle.std.specs.Option.{option_copied}
use Rattle.bw_record.specs.declared.leaf.Leaf.{Leaf}
use Rattle.bw_walks.specs.Shared.{pair_at}
use Rattle.bw_core.specs.Views.{kept_by}
use Rattle.bw_core.proofs.Walks.{here_at, home_leaf}
use Rattle.bw_core.proofs.store.Core.share_here.Goals as goal

pub returns : goal.returns
returns g c =
    let s = kept_by c.args.self.now (λ z. (goal.Segment-dyn g z).holding z.1) in
    let there = here_at c.args.self.now.pages.leaves c.args.page c.in-Some.leaf.now (sym c.page.ensures ∙ ap option_copied c.in-Some.is) in
    let same = home_leaf s c.requires.sound c.args.key.now c.args.page c.in-Some.leaf.now c.requires.page there in
    subst (λ (l : Leaf). IfOk c.share_pair.result (λ pair. pair ≡ pair_at c.args.key.now l.pairs)) same c.share_pair.ensures
