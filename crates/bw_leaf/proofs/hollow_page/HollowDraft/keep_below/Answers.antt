use Rattle.std.proofs.Common.{◌∙◌, ap, sym}
use Rattle.std.specs.List.{filter}
use Rattle.bw_record.specs.Keys.{is_below}
use Rattle.bw_record.specs.declared.leaf.Leaf.{Leaf}
use Rattle.bw_leaf.specs.Changed.{Pairs}
use Rattle.bw_leaf.specs.Hollow.{hollow}
use Rattle.bw_leaf.proofs.HollowLaws.{hollow_below}
use Rattle.bw_leaf.proofs.hollow_page.HollowDraft.keep_below.Goals as goal

pub invariant_of-result : goal.invariant_of-result
invariant_of-result c = record {
  page = c.self.invariant.page ∙ ap (λ (l : Leaf). l.page) (sym c.about-kept.ensures);
  low = c.self.invariant.low ∙ ap (λ (l : Leaf). l.low) (sym c.about-kept.ensures);
  pairs = c.keep_below.ensures
      ∙ ap (λ (ps : Pairs). filter (λ p. is_below p.0 c.args.separator.now) ps) c.self.invariant.pairs
      ∙ sym (hollow_below c.args.separator.now c.self.inside.was.value.pairs)
      ∙ ap (λ (l : Leaf). hollow l.pairs) (sym c.about-kept.ensures);
}
