use Rattle.std.proofs.Common.{ap, is_ok}
use Rattle.bw_digest.specs.Rows.{reach}
use Rattle.bw_file.proofs.Asking.{on_err, noted, not_noted}
use Rattle.bw_file.proofs.sums.note.Goals as goal

pub returns-in_err-write_sums-clause-failed : goal.returns-in_err-write_sums-clause-failed
returns-in_err-write_sums-clause-failed g c = on_err c.from_residual.result
    (not_noted (reach c.args.row) c.args.piece.now c.is_empty.result c.count.result c.sum_of-sum.result c.to_bytes.result _ c.args.asked.now.value c.write_sums.new.asked.value
    c.is_empty.ensures c.if-is_empty.false c.count.ensures.count c.sum_of-sum.ensures c.to_bytes.ensures (ap is_ok c.in_err-write_sums.was) c.write_sums.ensures)

pub returns-clause-asked : goal.returns-clause-asked
returns-clause-asked g c =
    noted (reach c.args.row) c.args.piece.now c.is_empty.result c.count.result c.sum_of-sum.result c.to_bytes.result _ c.args.asked.now.value c.write_sums.new.asked.value
    c.is_empty.ensures c.if-is_empty.false c.count.ensures.count c.sum_of-sum.ensures c.to_bytes.ensures (ap is_ok c.in_ok-write_sums.was) c.write_sums.ensures
