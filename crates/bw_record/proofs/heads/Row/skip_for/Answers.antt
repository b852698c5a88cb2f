use Rattle.std.proofs.Common.{◌≡◌, ◌≤◌, false, length, take, drop, subst, sym, ◌∙◌, arith}
use Rattle.bw_record.specs.Heads.{AreBelow, BeginAbove, IsRow}
use Rattle.bw_record.specs.Keys.{is_below}
use Rattle.bw_record.proofs.HeadRows.{skipped_below, skipped_all, skip_above, all_skip_above}
use Rattle.bw_record.proofs.heads.Row.skip_for.Goals as goal

pub returns-in-Some-clause-below : goal.returns-in-Some-clause-below
returns-in-Some-clause-below c pairs is =
    let row : IsRow c.as_slice-shared.result.now c.as_slice-heads.result.now pairs =
    rw (c.as_slice-shared.ensures.value, c.as_slice-heads.ensures.value) is in
    let below = rw c.head_of.ensures.value at c.skip_among.ensures.below in
    subst (λ k. (c.skip_among.result.count ≤ length pairs) × AreBelow k (take c.skip_among.result.count pairs)) (sym c.in-Some.ensures)
    (skipped_below _ c.in-Some.rest.now _ pairs c.skip_among.result.count c.head_of.ensures.bytes row c.skip_among.ensures.within below)

pub returns-in-Some-clause-above : goal.returns-in-Some-clause-above
returns-in-Some-clause-above c pairs is above =
    let row : IsRow c.as_slice-shared.result.now c.as_slice-heads.result.now pairs =
    rw (c.as_slice-shared.ensures.value, c.as_slice-heads.ensures.value) is in
    let found = rw c.head_of.ensures.value at c.skip_among.ensures.above above in
    subst (λ k. BeginAbove k (drop c.skip_among.result.count pairs)) (sym c.in-Some.ensures)
    (skip_above _ c.in-Some.rest.now _ pairs c.skip_among.result.count row found.0 found.1)

pub returns-in-None-clause-below : goal.returns-in-None-clause-below
returns-in-None-clause-below c pairs is =
    let row : IsRow c.as_slice-shared.result.now c.as_slice-heads.result.now pairs =
    rw (c.as_slice-shared.ensures.value, c.as_slice-heads.ensures.value) is in
    skipped_all _ c.args.key.now _ pairs row (sym c.is_before.ensures ∙ c.if-is_before.true) c.in-None.ensures

pub returns-in-None-2-clause-above : goal.returns-in-None-2-clause-above
returns-in-None-2-clause-above c pairs is some =
    let row : IsRow c.as_slice-shared.result.now c.as_slice-heads.result.now pairs =
    rw (c.as_slice-shared.ensures.value, c.as_slice-heads.ensures.value) is in
    let up : is_below c.as_slice-shared.result.now c.args.key.now ≡ false = sym c.is_before.ensures ∙ c.if-is_before.false in
    all_skip_above _ c.args.key.now _ pairs row (grind (arith, c.is_empty.ensures, some)) up c.in-None-2.ensures
