use Rattle.std.proofs.Common.{refl, sym, subst, arith}
use Rattle.bw_leaf.specs.Changed.{Bytes, Pairs}
use Rattle.bw_page.specs.Ahead.{IsStretch, HasGone}
use Rattle.bw_page.specs.Leaves.{union}
use Rattle.bw_page.proofs.Ahead.{ahead_less}
use Rattle.bw_page.proofs.Stretch.{gone_first, gone_more, gone_last, gone_full}
use Rattle.bw_walks.proofs.shared.share_stretch.Goals as goal

pub pages-init : goal.pages-init
pages-init c =
    subst (λ (x : Bytes × Pairs). HasGone (union c.args.leaves.now.leaves) c.args.key.now x.0 c.args.most x.1)
    (λ i. (sym c.copy-from.ensures i, sym c.clear.ensures.items i))
    (gone_first c.args.leaves.now.leaves c.args.key.now c.args.most)

pub pages-smaller : goal.pages-smaller
pages-smaller c =
    omega (arith, ahead_less c.pages.from c.in-Some.low c.args.leaves.now.leaves c.in-Some.ensures.some.above c.in-Some.ensures.some.its)

pub pages-preserved : goal.pages-preserved
pages-preserved c =
    subst (λ (ps : Pairs). HasGone (union c.args.leaves.now.leaves) c.args.key.now c.in-Some.low c.args.most ps)
    (sym c.in_ok-share_home.ensures)
    (gone_more c.args.leaves.now.m c.args.leaves.now.leaves c.count.ensures.lawful c.args.key.now c.pages.from c.args.most c.pages.found.items
    c.pages.invariant c.in-Some.low (omega (arith, c.pages-test.true, c.len.ensures)) c.in-Some.ensures.some)

pub returns-in-None : goal.returns-in-None
returns-in-None c =
    subst (λ (ps : Pairs). IsStretch (union c.args.leaves.now.leaves) c.args.key.now c.args.most ps)
    (sym c.in_ok-share_home.ensures)
    (gone_last c.args.leaves.now.m c.args.leaves.now.leaves c.count.ensures.lawful c.args.key.now c.pages.from c.args.most c.pages.found.items
    c.pages.invariant (omega (arith, c.pages-test.true, c.len.ensures)) (c.in-None.ensures.none refl))

pub returns : goal.returns
returns c =
    gone_full c.args.leaves.now.m c.args.leaves.now.leaves c.count.ensures.lawful c.args.key.now c.pages.from c.args.most c.pages.found.items
    c.pages.invariant (omega (arith, c.pages-test.false, c.len.ensures))
