use Rattle.std.proofs.Common.{refl, ◌≡◌, ◌∙◌, ◌||◌, ◌==◌, not, nat_lt, sym, ap, subst, length, Bool, false}
use Rattle.std.specs.List.{list_any}
use Rattle.std.specs.BTreeMap as tree
use Rattle.bw_record.specs.Keys.{is_below, IsKey}
use Rattle.bw_leaf.specs.Changed.{Bytes, order}
use Rattle.bw_lines.specs.Paging.{IsNext, is_past, taken_before}
use Rattle.bw_lines.proofs.LowsTold.{empty_is, keyed_is}
use Rattle.bw_found.proofs.pages.is_wrong_leaf.Goals as goal

pub returns-else-page-ne1 : goal.returns-else-page-ne1
returns-else-page-ne1 c = λ set lows short.
    let one : not (c.args.leaf.now.page == 1) ≡ false = cc (c.if-page-ne1.false, c.page.ensures) in
    c.has_bad_pairs.ensures
    ∙ ap (λ (t : Bool). t || (nat_lt c.args.m (length c.args.leaf.now.pairs) || list_any
    (λ p. is_below p.0 c.args.leaf.now.low || is_past c.least_low.result p.0) c.args.leaf.now.pairs)) (sym one)
    ∙ empty_is c.args.m set (tree.get order c.args.lows.now) c.args.leaf.now c.least_low.result lows short
    (λ key. absurd (cc (c.in-Err.ensures.variant.1 (subst IsKey (sym c.low.ensures) key)))) c.least_low.ensures

pub returns-else-is_wrong_low : goal.returns-else-is_wrong_low
returns-else-is_wrong_low c = λ set lows short.
    let low : c.in-Ok.low ≡ c.args.leaf.now.low = cc (c.in-Ok.ensures.ok, c.low.ensures) in
    let here : IsKey c.in-Ok.low = subst IsKey (sym c.in-Ok.ensures.ok) (c.in-Ok.ensures.variant.0 refl) in
    let none : (c.args.leaf.now.page == 1) || taken_before (tree.get order c.args.lows.now c.in-Ok.low) c.args.leaf.now.page ≡ false =
    cc (c.if-is_wrong_low.false, c.is_wrong_low.ensures, c.page-in-Ok.ensures) in
    c.has_bad_pairs-else-is_wrong_low.ensures
    ∙ ap (λ (t : Bool). t || (nat_lt c.args.m (length c.args.leaf.now.pairs) || list_any
    (λ p. is_below p.0 c.args.leaf.now.low || is_past c.low_above.result p.0) c.args.leaf.now.pairs))
    (sym (ap (λ (k : Bytes). (c.args.leaf.now.page == 1) || taken_before (tree.get order c.args.lows.now k) c.args.leaf.now.page) (sym low) ∙ none))
    ∙ keyed_is c.args.m set (tree.get order c.args.lows.now) c.args.leaf.now c.low_above.result lows (subst IsKey low here)
    (subst (λ (k : Bytes). IsNext k (tree.get order c.args.lows.now) c.low_above.result) low c.low_above.ensures)
