use Rattle.std.proofs.Common.{◌≡◌, ◌∙◌, ℕ, true, false, if◌then◌else◌, Some, None, sym, ap, subst}
use Rattle.std.specs.Option.{option_copied}
use Rattle.std.specs.Result.{OnOk}
use Rattle.bw_record.specs.declared.leaf.Leaf.{Leaf}
use Rattle.bw_leaf.specs.Above.{pairs_above, with_some}
use Rattle.bw_page.specs.Leaves.{home, leaf_at}
use Rattle.bw_page.specs.Shown.{Shown, is_evicted_page, leaf_here}
use Rattle.bw_page.proofs.PageByPage.{home_there}
use Rattle.bw_walks.proofs.shared.share_home.Goals as goal

-- a leaf in memory is that of its page
here_at : (f : Shown) (p : ℕ) (leaf : Leaf) → leaf_here p f ≡ Some leaf → leaf_at p f.leaves ≡ Some leaf
here_at f p leaf e = elim (is_evicted_page p f) as (λ b. (if b then None else leaf_at p f.leaves) ≡ Some leaf → leaf_at p f.leaves ≡ Some leaf) [
  | true ↦ λ none. absurd cc
  | false ↦ λ some. some
] e

pub returns : goal.returns
returns c =
    let f = c.args.leaves.now in
    let there = here_at f c.find.result c.in-Some.leaf.now (sym c.page.ensures ∙ ap option_copied c.in-Some.is) in
    let home_is : Some (home c.args.key.now f.leaves) ≡ Some c.in-Some.leaf.now =
    sym (home_there f.m f.leaves c.args.key.now c.count.ensures.lawful) ∙ ap (λ (q : ℕ). leaf_at q f.leaves) (sym c.find.ensures.directed) ∙ there in
    let is_home : c.in-Some.leaf.now ≡ home c.args.key.now f.leaves = cc in
    subst (λ (l : Leaf). OnOk c.share_pairs.result (c.share_pairs.new.found.items ≡ with_some c.args.most c.args.found.now.items (pairs_above c.args.key.now l.pairs)))
    is_home c.share_pairs.ensures
