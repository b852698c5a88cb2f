use Rattle.std.proofs.Common.{◌≡◌, ℕ, suc, ◌+◌, ◌<◌, ◌≤◌, List, length, subst, sym, ap, ◌∙◌, arith}
use Rattle.bw_lows.specs.LowHeads.{Bytes, page_of_low, IsLeastLow, HasNoHigher}
use Rattle.bw_lows.specs.Rows.{Low, low_at}
use Rattle.bw_lows.specs.Flat.{flat, block_at}
use Rattle.bw_lows.proofs.Flattened.{least_here, least_next, none_behind, none_of_none}
use Rattle.bw_lows.proofs.lows.LowIndex.above.Goals as goal

pub returns-then-within-len-clause-some : goal.returns-then-within-len-clause-some
returns-then-within-len-clause-some c =
    let place = c.place-at.ensures in
    let count : length c.self.inside.blocks ≡ c.len.result = sym c.len.ensures in
    let there : c.place-at.result.0 < length c.self.inside.blocks = omega (arith, c.if-at-len.false) in
    let block : c.block-block.result.now ≡ block_at c.self.inside.blocks c.place-at.result.0 = c.block-block.ensures in
    let inside : c.place-at.result.1 < length (block_at c.self.inside.blocks c.place-at.result.0) = omega (arith, c.if-within-len.true, c.len-2.ensures, ap length block) in
    let low : low_at (block_at c.self.inside.blocks c.place-at.result.0) c.place-at.result.1 ≡ c.low.result =
    ap (λ (b : List Low). low_at b c.place-at.result.1) (sym block) ∙ sym c.low.ensures in
    subst (λ (lows : List Low). IsLeastLow (page_of_low lows) c.args.key.now c.low.result) c.self.view_is
    (subst (λ (l : Bytes). IsLeastLow (page_of_low (flat c.self.inside.blocks)) c.args.key.now l) low
    (least_here c.args.key.now c.self.inside.blocks c.self.invariant c.place-at.result.0 c.place-at.result.1 place there inside))

pub returns-then-at-len-2-clause-some : goal.returns-then-at-len-2-clause-some
returns-then-at-len-2-clause-some c =
    let place = c.place-at.ensures in
    let count : length c.self.inside.blocks ≡ c.len.result = sym c.len.ensures in
    let there : c.place-at.result.0 < length c.self.inside.blocks = omega (arith, c.if-at-len.false) in
    let block : c.block-block.result.now ≡ block_at c.self.inside.blocks c.place-at.result.0 = c.block-block.ensures in
    let end : length (block_at c.self.inside.blocks c.place-at.result.0) ≤ c.place-at.result.1 = omega (arith, c.if-within-len.false, c.len-2.ensures, ap length block) in
    let next : suc c.place-at.result.0 < length c.self.inside.blocks = omega (arith, c.if-at-len-2.true, c.len-3.ensures, c.len.ensures) in
    let one : c.place-at.result.0 + 1 ≡ suc c.place-at.result.0 = omega arith in
    let other : c.block.result.now ≡ block_at c.self.inside.blocks (c.place-at.result.0 + 1) = c.block.ensures in
    let low : low_at (block_at c.self.inside.blocks (suc c.place-at.result.0)) 0 ≡ c.low-then-at-len-2.result =
    ap (λ (i : ℕ). low_at (block_at c.self.inside.blocks i) 0) (sym one)
    ∙ ap (λ (b : List Low). low_at b 0) (sym other) ∙ sym c.low-then-at-len-2.ensures in
    subst (λ (lows : List Low). IsLeastLow (page_of_low lows) c.args.key.now c.low-then-at-len-2.result) c.self.view_is
    (subst (λ (l : Bytes). IsLeastLow (page_of_low (flat c.self.inside.blocks)) c.args.key.now l) low
    (least_next c.args.key.now c.self.inside.blocks c.self.invariant c.place-at.result.0 c.place-at.result.1 place there end next))

pub returns-clause-none : goal.returns-clause-none
returns-clause-none c e =
    let place = c.place-at.ensures in
    let count : length c.self.inside.blocks ≡ c.len.result = sym c.len.ensures in
    let there : c.place-at.result.0 < length c.self.inside.blocks = omega (arith, c.if-at-len.false) in
    let block : c.block-block.result.now ≡ block_at c.self.inside.blocks c.place-at.result.0 = c.block-block.ensures in
    let end : length (block_at c.self.inside.blocks c.place-at.result.0) ≤ c.place-at.result.1 = omega (arith, c.if-within-len.false, c.len-2.ensures, ap length block) in
    let last : length c.self.inside.blocks ≤ suc c.place-at.result.0 = omega (arith, c.if-at-len-2.false, c.len-3.ensures, c.len.ensures) in
    subst (λ (lows : List Low). HasNoHigher (page_of_low lows) c.args.key.now) c.self.view_is
    (none_behind c.args.key.now c.self.inside.blocks c.self.invariant c.place-at.result.0 c.place-at.result.1 place there end last)

pub returns-then-at-len-clause-none : goal.returns-then-at-len-clause-none
returns-then-at-len-clause-none c e =
    let place = c.place-at.ensures in
    let count : length c.self.inside.blocks ≡ c.len.result = sym c.len.ensures in
    subst (λ (lows : List Low). HasNoHigher (page_of_low lows) c.args.key.now) c.self.view_is
    (none_of_none c.args.key.now c.self.inside.blocks c.place-at.result.0 c.place-at.result.1 place (omega (arith, c.if-at-len.true)))
