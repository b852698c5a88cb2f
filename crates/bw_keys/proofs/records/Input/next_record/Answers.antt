use Rattle.std.proofs.Common.{refl}
use Rattle.bw_keys.proofs.HandedOn.{handed_next}
use Rattle.bw_keys.proofs.records.Input.next_record.Goals.{in-Ok, in-Err}
use Rattle.bw_keys.proofs.records.Input.next_record.Goals as goal

pub returns-clause-handed : goal.returns-clause-handed
returns-clause-handed g c from has = elim c.match-next_record.branch [
  | in-Ok w ↦ handed_next from c.args.self.now.given.value c.note.new.given.value _ _ c.match-next_record.answer w.in-Ok.item w.answer-is c.note.ensures has w.in-Ok.ensures.says (w.in-Ok.ensures.left refl)
  | in-Err w ↦ rw w.answer-is tt
]
