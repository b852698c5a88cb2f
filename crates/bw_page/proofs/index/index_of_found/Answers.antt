use Rattle.std.proofs.Common.{◌≡◌, ℕ, ◌-◌, ◌≤◌, ◌<◌, ◌∙◌, ap, cond, Some, length, arith, subst, sym}
use Rattle.std.specs.Ordering.{eq_by_cmp}
use Rattle.bw_record.specs.Keys.{IsKey}
use Rattle.bw_record.specs.declared.leaf.Leaf.{Leaf}
use Rattle.bw_leaf.specs.Changed.{Bytes, order}
use Rattle.bw_lows.specs.LowHeads.{page_of_low}
use Rattle.bw_page.proofs.Indexing.{low_key, index-step}
use Rattle.bw_page.proofs.index.index_of_found.Goals as goal

pub loop-at-preserved : goal.loop-at-preserved
loop-at-preserved c =
    let more : 1 < c.loop-at.at = c.loop-at-test.true in
    let within : c.loop-at.at ≤ length c.args.pages.now = c.loop-at.invariant.1 in
    let low : c.in-Ok.low ≡ c.index-pages-at.result.low = cc (c.in-Ok.ensures.ok, c.low.ensures) in (
      omega arith,
      omega arith,
      index-step c.args.pages.now c.loop-at.at c.index-pages-at.result (page_of_low c.loop-at.index) (page_of_low c.insert.new.self) more within
          c.index-pages-at.is c.loop-at.invariant.2
          (λ q. c.in_ok-insert-in-Ok.ensures.ok q
          ∙ ap (λ (n : ℕ). cond (eq_by_cmp order q c.in-Ok.low) (Some n) (page_of_low c.loop-at.index q)) c.page.ensures
          ∙ ap (λ (k : Bytes). cond (eq_by_cmp order q k) (Some c.index-pages-at.result.page) (page_of_low c.loop-at.index q)) low),
    )

pub unreachable-requires : goal.unreachable-requires
unreachable-requires c =
    let more : 1 < c.loop-at.at = c.loop-at-test.true in
    let within : c.loop-at.at ≤ length c.args.pages.now = c.loop-at.invariant.1 in
    let key : IsKey c.index-pages-at.result.low =
    subst (λ (l : Leaf). IsKey l.low) (sym c.index-pages-at.is)
    (low_key c.args.pages.now (c.loop-at.at - 1) c.index-pages-at.result c.requires.keys (omega arith) (omega arith)) in
    let same : IsKey c.low.result.now = subst IsKey (sym c.low.ensures) key in
    absurd (cc (c.in-Err.ensures.variant.1 same))
