use Rattle.std.proofs.Common.{◌≡◌, ℕ, ◌-◌, ◌<◌, List, subst, sym, ap, ◌∙◌, arith}
use Rattle.bw_lows.specs.LowHeads.{page_of_low, IsGreatestLow, HasNoLow}
use Rattle.bw_lows.specs.Rows.{Low, page_at}
use Rattle.bw_lows.specs.Flat.{flat, block_at}
use Rattle.bw_lows.proofs.Flattened.{greatest_at, none_at}
use Rattle.bw_lows.proofs.lows.LowIndex.find.Goals as goal

pub returns-then-within-eq0-clause-none : goal.returns-then-within-eq0-clause-none
returns-then-within-eq0-clause-none c e =
    let place = c.place-at.ensures in
    subst (λ (lows : List Low). HasNoLow (page_of_low lows) c.args.key.now) c.self.view_is
    (none_at c.args.key.now c.self.inside.blocks c.self.invariant c.place-at.result.0 c.place-at.result.1 place c.if-within-eq0.true)

pub returns-clause-some : goal.returns-clause-some
returns-clause-some c =
    let place = c.place-at.ensures in
    let some : 0 < c.place-at.result.1 = (let other = c.if-within-eq0.false in omega arith) in
    let page : page_at (block_at c.self.inside.blocks c.place-at.result.0) (c.place-at.result.1 - 1) ≡ c.page.result =
    ap (λ (b : List Low). page_at b (c.place-at.result.1 - 1)) (sym c.block.ensures) ∙ sym c.page.ensures in
    subst (λ (lows : List Low). IsGreatestLow (page_of_low lows) c.args.key.now c.page.result) c.self.view_is
    (subst (λ (p : ℕ). IsGreatestLow (page_of_low (flat c.self.inside.blocks)) c.args.key.now p) page
    (greatest_at c.args.key.now c.self.inside.blocks c.self.invariant c.place-at.result.0 c.place-at.result.1 place
    (c.place-at.result.1 - 1) (omega arith)))
