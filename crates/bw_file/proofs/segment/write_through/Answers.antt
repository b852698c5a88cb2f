use Rattle.std.proofs.Common.{ap, refl, is_ok}
use Rattle.bw_digest.specs.Rows.{reach}
use Rattle.bw_file.proofs.Asking.{on_err, on_err_of, broken_at_sync, broken_at_sum}
use Rattle.bw_file.proofs.segment.write_through.Goals as goal

pub returns-in_err-sync_bytes-clause-broken : goal.returns-in_err-sync_bytes-clause-broken
returns-in_err-sync_bytes-clause-broken g c = on_err c.from_residual-in_err-sync_bytes.result
    (broken_at_sync c.args.at (reach c.args.row) c.args.piece.now c.args.asked.now.value c.write_bytes.new.asked.value c.sync_bytes.new.asked.value
    c.args.at _ _ refl (ap is_ok c.in_ok-write_bytes.was) (ap is_ok c.in_err-sync_bytes.was) c.write_bytes.ensures c.sync_bytes.ensures)

pub returns-clause-broken : goal.returns-clause-broken
returns-clause-broken g c = on_err_of c.note.result
    (λ failed one. broken_at_sum c.args.at (reach c.args.row) c.args.piece.now c.args.asked.now.value c.write_bytes.new.asked.value c.sync_bytes.new.asked.value c.note.new.asked.value
    c.args.at _ _ refl (ap is_ok c.in_ok-write_bytes.was) (ap is_ok c.in_ok-sync_bytes.was) c.write_bytes.ensures c.sync_bytes.ensures one failed)
    c.note.ensures.failed c.note.ensures.has_one
