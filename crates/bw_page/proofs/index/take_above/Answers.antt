use Rattle.std.proofs.Common.{◌≡◌, ℕ, List, ◌+◌, ◌-◌, ◌≤◌, ◌<◌, subst, ◌∙◌, ap, sym, cond, None, length, get_or, arith}
use Rattle.std.specs.Ordering.{eq_by_cmp}
use Rattle.bw_record.specs.Keys.{IsKey}
use Rattle.bw_record.specs.declared.leaf.Leaf.{Leaf}
use Rattle.bw_leaf.specs.Changed.{order}
use Rattle.bw_lows.specs.LowHeads.{page_of_low}
use Rattle.bw_page.proofs.index.take_above.Goals as goal

-- the leaf that goes is that of the page above
gone : (items : List Leaf) (pages : ℕ) (upper : Leaf) → length items ≤ pages + 1 → pages < length items
    → ((d : Leaf) → upper ≡ get_or items (length items - 1) d) → (d : Leaf) → upper ≡ get_or items pages d
gone items pages upper over more value d = let at : length items - 1 ≡ pages = omega arith in value d ∙ ap (λ i. get_or items i d) at

pub returns-clause-dropped : goal.returns-clause-dropped
returns-clause-dropped c d more q =
    let upper = gone c.args.leaves.now.items c.args.pages c.pop-upper.result c.requires.over more c.pop-upper.ensures.value d in
    let low : c.in-Ok.low ≡ c.pop-upper.result.low = cc (c.in-Ok.ensures.ok, c.as_slice.ensures) in
    c.remove.ensures q
    ∙ ap (λ k. cond (eq_by_cmp order q k) None (page_of_low c.args.index.now q)) (low ∙ ap (λ (l : Leaf). l.low) upper)

pub unreachable-requires : goal.unreachable-requires
unreachable-requires c =
    let long = c.len.ensures.value in
    let more : c.args.pages < length c.args.leaves.now.items = (let k = c.if-len-pages.false in omega arith) in
    let upper = gone c.args.leaves.now.items c.args.pages c.pop-upper.result c.requires.over more c.pop-upper.ensures.value c.pop-upper.result in
    let key : IsKey c.as_slice.result.now = subst IsKey (sym (c.as_slice.ensures ∙ ap (λ (l : Leaf). l.low) upper)) (c.requires.key c.pop-upper.result more) in
    absurd (cc (c.in-Err.ensures.variant.1 key))
