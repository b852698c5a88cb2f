use Rattle.std.proofs.Common.{◌≡◌, suc, ◌-◌, List, length, sym, subst, arith}
use Rattle.bw_record.specs.Keys.{is_below}
use Rattle.bw_lows.specs.Rows.{Low, low_at, Ascends, IsBoundary}
use Rattle.bw_lows.proofs.Flattened.{block_ascends, first_place, found_place}
use Rattle.bw_lows.proofs.blocks.Blocks.place.Goals as goal

pub returns-then-count-eq0 : goal.returns-then-count-eq0
returns-then-count-eq0 c =
    first_place c.args.key.now c.args.self.now c.requires c.count_begun-count.result c.count_begun-count.ensures c.if-count-eq0.true

pub count_upto-requires-clause-ascends : goal.count_upto-requires-clause-ascends
count_upto-requires-clause-ascends c =
    subst (λ (b : List Low). Ascends b) (sym c.block.ensures) (block_ascends c.args.self.now (c.count_begun-count.result - 1) c.requires.ascends)

pub returns : goal.returns
returns c =
    let next : suc (c.count_begun-count.result - 1) ≡ c.count_begun-count.result = (let some = c.if-count-eq0.false in omega arith) in
    found_place c.args.key.now c.args.self.now c.requires c.count_begun-count.result c.count_begun-count.ensures
    (c.count_begun-count.result - 1) c.count_upto.result next
    (subst (λ (b : List Low). IsBoundary (λ j. is_below c.args.key.now (low_at b j)) (length b) c.count_upto.result) c.block.ensures c.count_upto.ensures)
