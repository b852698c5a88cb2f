use Rattle.std.proofs.Common.{◌∙◌, ◌<◌, ap, sym, subst, length}
use Rattle.std.specs.Prelude.{slice_index_or}
use Rattle.bw_record.specs.declared.leaf.Leaf.{Leaf}
use Rattle.bw_leaf.proofs.HollowLaws.{same_key}
use Rattle.bw_leaf.proofs.hollow_page.HollowPage.key.Goals as goal

pub returns : goal.returns
returns c d =
    c.key.ensures d
    ∙ same_key c.self.inside.pairs c.self.inside.was.value.pairs c.args.at d c.self.invariant.pairs
    (subst (λ (l : Leaf). c.args.at < length l.pairs) (sym c.self.view_is) c.requires)
    ∙ ap (λ (l : Leaf). (slice_index_or l.pairs c.args.at d).0) c.self.view_is
