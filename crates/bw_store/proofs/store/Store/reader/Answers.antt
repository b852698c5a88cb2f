use Rattle.std.proofs.Common.{rules}
use Rattle.bw_store.specs.Views.{kept_by}
use Rattle.bw_store.proofs.Readers.{reader_sound}
use Rattle.bw_store.proofs.Showing.{reader_follows}
use Rattle.bw_store.proofs.store.Store.reader.Goals as goal

pub returns-clause-goes : goal.returns-clause-goes
returns-clause-goes g c = record {
  sound = reader_sound (kept_by c.args.self.now (λ z. (goal.Segment-dyn g z).holding z.1)) c.reader.new.self c.requires.sound c.reader.ensures.same;
  follows = reader_follows (kept_by c.args.self.now (λ z. (goal.Segment-dyn g z).holding z.1)) c.reader.new.self c.reader.ensures.same;
  boxes = search rules;
  noted = search rules;
}
