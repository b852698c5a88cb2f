use Rattle.std.proofs.Common.{◌≡◌, suc, ◌-◌, ◌<◌, true, false, cond, None, List, sym, ap, ◌∙◌, arith}
use Rattle.std.specs.Ordering.{is_eq}
use Rattle.bw_lows.specs.LowHeads.{order, page_of_low}
use Rattle.bw_lows.specs.Rows.{Low}
use Rattle.bw_lows.proofs.Ascending.{page_kept}
use Rattle.bw_lows.proofs.Changed.{absent_first, absent_last, out_blocks, out_page, tie_read}
use Rattle.bw_lows.proofs.lows.LowIndex.remove.Goals as goal

pub returns-then-within-eq0 : goal.returns-then-within-eq0
returns-then-within-eq0 c q =
    let place = c.place-at.ensures in
    page_kept q c.args.low.now c.args.self.now
    (ap (λ (lows : List Low). page_of_low lows c.args.low.now) (sym c.self.view_is)
    ∙ absent_first c.args.low.now c.self.inside.blocks c.self.invariant c.place-at.result.0 c.place-at.result.1 place c.if-within-eq0.true)

pub returns-then-not-is_at : goal.returns-then-not-is_at
returns-then-not-is_at c q =
    let place = c.place-at.ensures in
    let some : 0 < c.place-at.result.1 = (let other = c.if-within-eq0.false in omega arith) in
    let last : suc (c.place-at.result.1 - 1) ≡ c.place-at.result.1 = omega arith in
    page_kept q c.args.low.now c.args.self.now
    (ap (λ (lows : List Low). page_of_low lows c.args.low.now) (sym c.self.view_is)
    ∙ absent_last c.args.low.now c.self.inside.blocks c.self.invariant c.place-at.result.0 c.place-at.result.1 place
    (c.place-at.result.1 - 1) last
    (tie_read c.args.low.now c.self.inside.blocks c.place-at.result.0 (c.place-at.result.1 - 1) c.block.result.now c.is_at.result false
    c.block.ensures c.is_at.ensures c.if-not-is_at.true))

pub invariant_of-self : goal.invariant_of-self
invariant_of-self c =
    let place = c.place-at.ensures in
    let some : 0 < c.place-at.result.1 = (let other = c.if-within-eq0.false in omega arith) in
    let last : suc (c.place-at.result.1 - 1) ≡ c.place-at.result.1 = omega arith in
    out_blocks c.args.low.now c.self.inside.blocks c.self.invariant c.place-at.result.0 c.place-at.result.1 place
    (c.place-at.result.1 - 1) last c.take_out.new.self c.take_out.ensures.lows (c.take_out.ensures.filled c.self.invariant.filled)

pub returns : goal.returns
returns c q =
    let place = c.place-at.ensures in
    let some : 0 < c.place-at.result.1 = (let other = c.if-within-eq0.false in omega arith) in
    let last : suc (c.place-at.result.1 - 1) ≡ c.place-at.result.1 = omega arith in
    let tie = tie_read c.args.low.now c.self.inside.blocks c.place-at.result.0 (c.place-at.result.1 - 1) c.block.result.now c.is_at.result true
    c.block.ensures c.is_at.ensures c.if-not-is_at.false in
    out_page c.args.low.now c.self.inside.blocks c.self.invariant c.place-at.result.0 c.place-at.result.1 place
    (c.place-at.result.1 - 1) last tie c.take_out.new.self c.take_out.ensures.lows q
    ∙ ap (λ (lows : List Low). cond (is_eq (order q c.args.low.now)) None (page_of_low lows q)) c.self.view_is
