use Rattle.bw_calls.proofs.PlainLaws.{behind, collecting_moved, collecting_behind, no_chunk_moved}
use Rattle.bw_calls.proofs.LeaveLaws.{in_its}
use Rattle.bw_calls.proofs.NameLaws.{marks_moved, marks_then}
use Rattle.bw_calls.proofs.collecting.collect_doomed.Goals as goal

pub returns-in_err-i-clause-stays : goal.returns-in_err-i-clause-stays
returns-in_err-i-clause-stays g c = λ lawful doomed. (collecting_moved _ _ _ _ (c.chunks.invariant.1 lawful doomed) c.first_left.ensures.same).stays

pub returns-in_err-drop_chunk-in-Some-clause-stays : goal.returns-in_err-drop_chunk-in-Some-clause-stays
returns-in_err-drop_chunk-in-Some-clause-stays g c = λ lawful doomed.
    (collecting_behind _ _ _ c.args.number.bytes (collecting_moved _ _ _ _ (c.chunks.invariant.1 lawful doomed) c.first_left.ensures.same) c.drop_chunk.ensures.stays).stays

pub returns-in-None-clause-stays : goal.returns-in-None-clause-stays
returns-in-None-clause-stays g c = λ lawful doomed.
    let h = collecting_moved _ _ _ c.args.number.bytes (c.chunks.invariant.1 lawful doomed) c.first_left.ensures.same in
    let none = no_chunk_moved _ _ c.args.number.bytes (c.in_ok-i.ensures.none c.in-None.is) c.first_left.ensures.same in
    behind _ _ _ h.stays (c.free.ensures.stays h.stays.lawful none)

pub chunks-preserved : goal.chunks-preserved
chunks-preserved g c = (
  c.drop_chunk.ensures.ready,
  λ lawful doomed.
      collecting_behind _ _ _ c.args.number.bytes (collecting_moved _ _ _ _ (c.chunks.invariant.1 lawful doomed) c.first_left.ensures.same) c.drop_chunk.ensures.stays,
  λ lawful doomed ts among stops.
      let h = collecting_moved _ _ _ c.args.number.bytes (c.chunks.invariant.1 lawful doomed) c.first_left.ensures.same in
      c.drop_chunk.ensures.leaves h.stays.lawful h.doomed ts (in_its ts _ _ h.stays among)
      (c.first_left.ensures.leaves ts (c.chunks.invariant.2 lawful doomed ts among stops)),
  marks_then _ _ _ (marks_then _ _ _ c.chunks.invariant.3 (marks_moved _ _ c.first_left.ensures.same)) c.drop_chunk.ensures.marks,
)

pub returns-in_err-i-clause-leaves : goal.returns-in_err-i-clause-leaves
returns-in_err-i-clause-leaves g c = λ lawful doomed ts among stops. c.first_left.ensures.leaves ts (c.chunks.invariant.2 lawful doomed ts among stops)

pub returns-in_err-drop_chunk-in-Some-clause-leaves : goal.returns-in_err-drop_chunk-in-Some-clause-leaves
returns-in_err-drop_chunk-in-Some-clause-leaves g c = λ lawful doomed ts among stops.
    let h = collecting_moved _ _ _ c.args.number.bytes (c.chunks.invariant.1 lawful doomed) c.first_left.ensures.same in
    c.drop_chunk.ensures.leaves h.stays.lawful h.doomed ts (in_its ts _ _ h.stays among)
    (c.first_left.ensures.leaves ts (c.chunks.invariant.2 lawful doomed ts among stops))

pub returns-in-None-clause-leaves : goal.returns-in-None-clause-leaves
returns-in-None-clause-leaves g c = λ lawful doomed ts among stops.
    let h = collecting_moved _ _ _ c.args.number.bytes (c.chunks.invariant.1 lawful doomed) c.first_left.ensures.same in
    let none = no_chunk_moved _ _ c.args.number.bytes (c.in_ok-i.ensures.none c.in-None.is) c.first_left.ensures.same in
    c.free.ensures.leaves h.stays.lawful none ts (in_its ts _ _ h.stays among)
    (c.first_left.ensures.leaves ts (c.chunks.invariant.2 lawful doomed ts among stops))

pub returns-in_err-i-clause-marks : goal.returns-in_err-i-clause-marks
returns-in_err-i-clause-marks g c = marks_then _ _ _ c.chunks.invariant.3 (marks_moved _ _ c.first_left.ensures.same)

pub returns-in_err-drop_chunk-in-Some-clause-marks : goal.returns-in_err-drop_chunk-in-Some-clause-marks
returns-in_err-drop_chunk-in-Some-clause-marks g c = marks_then _ _ _ (marks_then _ _ _ c.chunks.invariant.3 (marks_moved _ _ c.first_left.ensures.same)) c.drop_chunk.ensures.marks

pub returns-in-None-clause-marks : goal.returns-in-None-clause-marks
returns-in-None-clause-marks g c = marks_then _ _ _ (marks_then _ _ _ c.chunks.invariant.3 (marks_moved _ _ c.first_left.ensures.same)) c.free.ensures.marks
