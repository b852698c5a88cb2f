use Rattle.std.proofs.Common.{◌≡◌, ◌∙◌, ap, sym, subst, List, drop}
use Rattle.std.specs.List.{AllByRecursion}
use Rattle.std.specs.FinMap.Entries.{find}
use Rattle.bw_record.specs.Keys.{IsKey}
use Rattle.bw_record.specs.declared.leaf.Leaf.{Leaf}
use Rattle.bw_leaf.specs.Changed.{order}
use Rattle.bw_page.specs.Leaves.{AreLeaves}
use Rattle.bw_page.specs.Lows.{lows_of}
use Rattle.bw_page.proofs.Bases.{all_bases}
use Rattle.bw_page.proofs.Indexing.{lows_are_keys, filed_new}
use Rattle.bw_page.proofs.leaves.Leaves.found.Goals as goal

pub index_of_found-requires-clause-keys : goal.index_of_found-requires-clause-keys
index_of_found-requires-clause-keys c = subst (λ (ls : List Leaf). AllByRecursion (λ l. IsKey l.low) (drop 1 ls)) (sym c.as_slice.ensures.value)
    (lows_are_keys _ _ c.requires.lawful)

pub invariant_of-result : goal.invariant_of-result
invariant_of-result c =
    let same : c.in_ok-away.field-0.items ≡ c.args.pages.items = c.in_ok-away.ensures.items in
    filed_new _ c.requires.limit
    (subst (AreLeaves c.args.m) (sym same) c.requires.lawful)
    (λ q. c.in_ok-index.ensures q ∙ ap (λ (ls : List Leaf). find order q (lows_of (drop 1 ls))) (c.as_slice.ensures.value ∙ sym same))
    tt

pub away-requires : goal.away-requires
away-requires c = all_bases c.args.m _ c.requires.limit.1 c.requires.lawful
