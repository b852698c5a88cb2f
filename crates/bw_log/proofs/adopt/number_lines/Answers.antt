use Rattle.std.proofs.Common.{◌<◌, ap, length, refl, arith}
use Rattle.bw_log.proofs.Torn.{next_told}
use Rattle.bw_log.proofs.Adopted.{numbering_on, line_small}
use Rattle.bw_log.proofs.adopt.number_lines.Goals as goal

pub overflow_add-line : goal.overflow_add-line
overflow_add-line c =
    let inside : c.loop-i.i < length c.args.lines.now.items = omega (arith, c.loop-i-test.true, ap length c.as_slice-i-end.ensures.value) in
    let small = line_small _ _ _ _ _ c.index_mut-line.result.now c.loop-i.invariant inside c.index_mut-line.ensures.value c.requires in
    omega (arith, small)

pub loop-i-preserved : goal.loop-i-preserved
loop-i-preserved c =
    let inside : c.loop-i.i < length c.args.lines.now.items = omega (arith, c.loop-i-test.true, ap length c.as_slice-i-end.ensures.value) in
    numbering_on _ _ _ _ _ c.index_mut-line.result.now _ _ c.loop-i.invariant inside c.index_mut-line.ensures.value refl
    (next_told c.index_mut-line.result.now.number c.checked_add-next.result c.checked_add-next.ensures)
