use Rattle.std.proofs.Common.{◌≡◌, ◌∙◌, ℕ, true, false, if◌then◌else◌, Some, None, Option, IsTrue, sym, ap, subst, IfOk}
use Rattle.std.specs.Option.{option_copied}
use Rattle.std.specs.FinMap as finite
use Rattle.std.specs.FinMap.Entries.{find}
use Rattle.bw_codec.specs.Grammar.{IsBase}
use Rattle.bw_record.specs.Keys.{ascends}
use Rattle.bw_record.specs.declared.leaf.Leaf.{Leaf}
use Rattle.bw_leaf.specs.Changed.{Bytes, order}
use Rattle.bw_page.specs.Leaves.{home, leaf_at, union}
use Rattle.bw_page.specs.Shown.{Shown, is_evicted_page, leaf_here}
use Rattle.bw_page.proofs.Homes.{home-all}
use Rattle.bw_page.proofs.Law.{get-union}
use Rattle.bw_page.proofs.PageByPage.{home_there}
use Rattle.bw_walks.specs.Shared.{with_key}
use Rattle.bw_walks.proofs.shared.share_of.Goals as goal

-- a leaf in memory is that of its page
here_at : (f : Shown) (p : ℕ) (leaf : Leaf) → leaf_here p f ≡ Some leaf → leaf_at p f.leaves ≡ Some leaf
here_at f p leaf e = elim (is_evicted_page p f) as (λ b. (if b then None else leaf_at p f.leaves) ≡ Some leaf → leaf_at p f.leaves ≡ Some leaf) [
  | true ↦ λ none. absurd cc
  | false ↦ λ some. some
] e

is_home : (f : Shown) (key : Bytes) (p : ℕ) (leaf : Leaf) → Some (home key f.leaves) ≡ leaf_at (home key f.leaves).page f.leaves → p ≡ (home key f.leaves).page
    → leaf_at p f.leaves ≡ Some leaf → leaf ≡ home key f.leaves
is_home f key p leaf stands at there =
    let e : Some (home key f.leaves) ≡ Some leaf = stands ∙ ap (λ (q : ℕ). leaf_at q f.leaves) (sym at) ∙ there in cc

pub share_pair-requires : goal.share_pair-requires
share_pair-requires c =
    let f = c.args.leaves.now in
    let there = here_at f c.find.result c.in-Some.leaf.now (sym c.page.ensures ∙ ap option_copied c.in-Some.is) in
    let same = is_home f c.args.key.now c.find.result c.in-Some.leaf.now (sym (home_there f.m f.leaves c.args.key.now c.count.ensures.lawful))
    c.find.ensures.directed there in
    subst (λ (l : Leaf). IsTrue (ascends l.pairs)) (sym same)
    (home-all (IsBase f.m) c.args.key.now f.leaves c.count.ensures.lawful.first c.count.ensures.lawful.each).ascends

pub returns : goal.returns
returns c =
    let f = c.args.leaves.now in
    let there = here_at f c.find.result c.in-Some.leaf.now (sym c.page.ensures ∙ ap option_copied c.in-Some.is) in
    let same = is_home f c.args.key.now c.find.result c.in-Some.leaf.now (sym (home_there f.m f.leaves c.args.key.now c.count.ensures.lawful))
    c.find.ensures.directed there in
    let value : finite.get (union f.leaves) c.args.key.now ≡ find order c.args.key.now c.in-Some.leaf.now.pairs =
    get-union f.m c.args.key.now f.leaves c.count.ensures.lawful ∙ ap (λ (l : Leaf). find order c.args.key.now l.pairs) (sym same) in
    subst (λ (v : Option Bytes). IfOk c.share_pair.result (λ pair. pair ≡ with_key c.args.key.now v)) (sym value) c.share_pair.ensures
