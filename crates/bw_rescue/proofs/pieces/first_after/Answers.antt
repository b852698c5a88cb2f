use Rattle.std.proofs.Common.{refl, length, arith, false}
use Rattle.std.proofs.lemmas.Option.{slice_get_past}
use Rattle.bw_rescue.proofs.PiecesLooked.{passed_at}
use Rattle.bw_rescue.proofs.pieces.first_after.Goals as goal

pub loop-index-preserved : goal.loop-index-preserved
loop-index-preserved c = record {
  number = refl;
  passed = λ passed. passed_at c.args.at c.loop-index.index c.args.rows.now (record { from = 0; to = 0; fits = false; is_taken = false }) c.loop-index-test.true c.if-rows-index.false
      (c.loop-index.invariant.passed passed);
}

pub returns-clause-next : goal.returns-clause-next
returns-clause-next c = rw (slice_get_past c.args.rows.now (length c.args.rows.now) (omega arith)) (omega arith)
