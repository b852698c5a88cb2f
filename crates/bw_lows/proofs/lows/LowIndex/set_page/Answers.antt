use Rattle.std.proofs.Common.{◌≡◌, suc, ◌-◌, ◌<◌, true, false, cond, Some, List, subst, sym, ap, ◌∙◌, arith}
use Rattle.std.specs.Ordering.{is_eq}
use Rattle.bw_lows.specs.LowHeads.{order, page_of_low}
use Rattle.bw_lows.specs.Rows.{Low}
use Rattle.bw_lows.specs.Flat.{flat, AreBlocks}
use Rattle.bw_lows.proofs.Changed.{absent_first, absent_last, set_blocks, set_page, tie_read}
use Rattle.bw_lows.proofs.lows.LowIndex.set_page.Goals as goal

pub returns-then-within-eq0-clause-absent : goal.returns-then-within-eq0-clause-absent
returns-then-within-eq0-clause-absent c =
    let place = c.place-at.ensures in
    ap (λ (lows : List Low). page_of_low lows c.args.low.now) (sym c.self.view_is)
    ∙ absent_first c.args.low.now c.self.inside.blocks c.self.invariant c.place-at.result.0 c.place-at.result.1 place c.if-within-eq0.true

pub returns-then-not-is_at-clause-absent : goal.returns-then-not-is_at-clause-absent
returns-then-not-is_at-clause-absent c =
    let place = c.place-at.ensures in
    let some : 0 < c.place-at.result.1 = (let other = c.if-within-eq0.false in omega arith) in
    let last : suc (c.place-at.result.1 - 1) ≡ c.place-at.result.1 = omega arith in
    ap (λ (lows : List Low). page_of_low lows c.args.low.now) (sym c.self.view_is)
    ∙ absent_last c.args.low.now c.self.inside.blocks c.self.invariant c.place-at.result.0 c.place-at.result.1 place
    (c.place-at.result.1 - 1) last
    (tie_read c.args.low.now c.self.inside.blocks c.place-at.result.0 (c.place-at.result.1 - 1) c.block.result.now c.is_at.result false
    c.block.ensures c.is_at.ensures c.if-not-is_at.true)

pub invariant_of-self : goal.invariant_of-self
invariant_of-self c =
    let place = c.place-at.ensures in
    let some : 0 < c.place-at.result.1 = (let other = c.if-within-eq0.false in omega arith) in
    let last : suc (c.place-at.result.1 - 1) ≡ c.place-at.result.1 = omega arith in
    subst (λ (blocks : List (List Low)). AreBlocks blocks) (sym c.set_page.ensures)
    (set_blocks c.args.low.now c.self.inside.blocks c.self.invariant c.place-at.result.0 c.place-at.result.1 place
    (c.place-at.result.1 - 1) last c.args.page)

pub returns-clause-set : goal.returns-clause-set
returns-clause-set c q =
    let place = c.place-at.ensures in
    let some : 0 < c.place-at.result.1 = (let other = c.if-within-eq0.false in omega arith) in
    let last : suc (c.place-at.result.1 - 1) ≡ c.place-at.result.1 = omega arith in
    let tie = tie_read c.args.low.now c.self.inside.blocks c.place-at.result.0 (c.place-at.result.1 - 1) c.block.result.now c.is_at.result true
    c.block.ensures c.is_at.ensures c.if-not-is_at.false in
    ap (λ (blocks : List (List Low)). page_of_low (flat blocks) q) c.set_page.ensures
    ∙ set_page c.args.low.now c.self.inside.blocks c.self.invariant c.place-at.result.0 c.place-at.result.1 place
    (c.place-at.result.1 - 1) last tie c.args.page q
    ∙ ap (λ (lows : List Low). cond (is_eq (order q c.args.low.now)) (Some c.args.page) (page_of_low lows q)) c.self.view_is
