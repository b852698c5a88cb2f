use Rattle.std.proofs.Common.{get_or, refl}
use Rattle.bw_pairs.proofs.Escaping.{on_err, stopped}
use Rattle.bw_pairs.proofs.dump.unescaped.Goals as goal

pub returns-in_err-take-clause-err : goal.returns-in_err-take-clause-err
returns-in_err-take-clause-err g c =
    let l = c.loop-letter in
    let held = g.B.Buffer.held l.read.bytes in
    let letter = get_or c.args.line.now l.letter-index 0 in
    on_err _ _ (stopped (g.B.Buffer.room c.args.bytes) (g.B.Buffer.room l.read.bytes) letter l.letter-index held (g.B.Buffer.held c.args.bytes)
    l.read.escape c.args.line.now c.loop-letter-test.true refl l.invariant.read l.invariant.room c.in_err-take.ensures.err)
