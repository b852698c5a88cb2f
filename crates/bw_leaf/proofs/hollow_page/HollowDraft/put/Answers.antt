use Rattle.std.proofs.Common.{◌∙◌, ap, sym, length}
use Rattle.std.specs.FinMap.Entries.{put}
use Rattle.bw_record.specs.declared.leaf.Leaf.{Leaf}
use Rattle.bw_leaf.specs.Changed.{Pairs, order}
use Rattle.bw_leaf.specs.Hollow.{hollow, blank}
use Rattle.bw_leaf.proofs.HollowLaws.{hollow_put}
use Rattle.bw_leaf.proofs.hollow_page.HollowDraft.put.Goals as goal

pub invariant_of-self : goal.invariant_of-self
invariant_of-self c = record {
  page = c.self.invariant.page ∙ ap (λ (l : Leaf). l.page) (sym c.about.ensures);
  low = c.self.invariant.low ∙ ap (λ (l : Leaf). l.low) (sym c.about.ensures);
  pairs = c.in-Ok.ensures
      ∙ ap (λ (ps : Pairs). put order c.args.key.now (blank (length c.args.value.now)) ps) c.self.invariant.pairs
      ∙ sym (hollow_put c.args.key.now c.args.value.now c.self.inside.was.value.pairs)
      ∙ ap (λ (l : Leaf). hollow l.pairs) (sym c.about.ensures);
}
