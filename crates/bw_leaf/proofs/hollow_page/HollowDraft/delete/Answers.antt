use Rattle.std.proofs.Common.{◌∙◌, ap, sym}
use Rattle.bw_record.specs.declared.leaf.Leaf.{Leaf}
use Rattle.bw_leaf.specs.Changed.{Pairs, without}
use Rattle.bw_leaf.specs.Hollow.{hollow}
use Rattle.bw_leaf.proofs.HollowLaws.{hollow_without}
use Rattle.bw_leaf.proofs.hollow_page.HollowDraft.delete.Goals as goal

pub invariant_of-self : goal.invariant_of-self
invariant_of-self c = record {
  page = c.self.invariant.page ∙ ap (λ (l : Leaf). l.page) (sym c.about.ensures);
  low = c.self.invariant.low ∙ ap (λ (l : Leaf). l.low) (sym c.about.ensures);
  pairs = c.in-Ok.ensures
      ∙ ap (λ (ps : Pairs). without c.args.key.now ps) c.self.invariant.pairs
      ∙ sym (hollow_without c.args.key.now c.self.inside.was.value.pairs)
      ∙ ap (λ (l : Leaf). hollow l.pairs) (sym c.about.ensures);
}
