use Rattle.std.proofs.Common.{get_or, refl, sym}
use Rattle.bw_pairs.proofs.Fielding.{on_err, stopped}
use Rattle.bw_pairs.proofs.csv.field_of.Goals as goal

pub returns-in_err-take-clause-err : goal.returns-in_err-take-clause-err
returns-in_err-take-clause-err g c =
    let l = c.loop-index in
    let held = g.B.Buffer.held l.reading.field.bytes in
    let byte = get_or c.args.line.now l.index 0 in
    on_err _ _ (stopped (g.B.Buffer.room c.args.bytes) (g.B.Buffer.room l.reading.field.bytes) byte l.index held (g.B.Buffer.held c.args.bytes)
    l.reading.at c.args.line.now c.loop-index-test.true refl l.invariant.read l.invariant.room (sym c.if-is_end.ensures) c.in_err-take.ensures.err)
