use Rattle.bw_pairs.proofs.Membering.{no_name}
use Rattle.bw_pairs.proofs.json.Members.note.Goals as goal

pub returns-in_default-2-clause-err : goal.returns-in_default-2-clause-err
returns-in_default-2-clause-err c =
    let none = rw c.in_default.is at c.from_utf8.ensures.cases in
    no_name c.args.self.now c.args.name.now c.args.text.now.items none.0
