use Rattle.std.proofs.Common.{◌≡◌, length, sym, ◌∙◌, arith}
use Rattle.bw_lows.specs.LowRow.{IsRow}
use Rattle.bw_lows.proofs.HeadBounds.{heads_ascend, bounds_by_heads, bounds_above, bounds_below}
use Rattle.bw_lows.proofs.row.Row.bounds.Goals as goal

pub returns-in-Some : goal.returns-in-Some
returns-in-Some c lows long asc is =
    let row : IsRow c.as_slice-shared.result.now c.as_slice-heads.result.now lows =
    rw (c.as_slice-shared.ensures.value, c.as_slice-heads.ensures.value) is in
    let row_long : length c.as_slice-heads.result.now ≡ c.args.count = grind (arith, c.if-heads-count.false, c.as_slice-heads.ensures.len) in
    bounds_by_heads _ _ lows c.args.count row_long long row c.args.key.now c.in-Some.rest.now _ _ c.head_of.ensures.bytes
    (sym c.as_slice-bytes.ensures.value ∙ c.in-Some.ensures) (rw c.head_of.ensures.value at (c.equal.ensures
    (heads_ascend _ _ lows c.args.count row_long long row asc)))

pub returns-in-None : goal.returns-in-None
returns-in-None c lows long asc is =
    let row : IsRow c.as_slice-shared.result.now c.as_slice-heads.result.now lows =
    rw (c.as_slice-shared.ensures.value, c.as_slice-heads.ensures.value) is in
    let row_long : length c.as_slice-heads.result.now ≡ c.args.count = grind (arith, c.if-heads-count.false, c.as_slice-heads.ensures.len) in
    bounds_above _ _ lows c.args.count row_long long row c.args.key.now
    (rw c.as_slice-bytes.ensures.value at (sym c.is_before.ensures ∙ c.if-is_before.true))
    (λ rest e. c.in-None.ensures rest (c.as_slice-bytes.ensures.value ∙ e))

pub returns-in-None-2 : goal.returns-in-None-2
returns-in-None-2 c lows long asc is =
    let row : IsRow c.as_slice-shared.result.now c.as_slice-heads.result.now lows =
    rw (c.as_slice-shared.ensures.value, c.as_slice-heads.ensures.value) is in
    let row_long : length c.as_slice-heads.result.now ≡ c.args.count = grind (arith, c.if-heads-count.false, c.as_slice-heads.ensures.len) in
    bounds_below _ _ lows c.args.count row_long long row c.args.key.now
    (rw c.as_slice-bytes.ensures.value at (sym c.is_before.ensures ∙ c.if-is_before.false))
    (λ rest e. c.in-None.ensures rest (c.as_slice-bytes.ensures.value ∙ e))
