use Rattle.std.proofs.Common.{sym}
use Rattle.bw_pairs.proofs.Membering.{other_byte}
use Rattle.bw_pairs.proofs.json.Members.read_more.Goals as goal

pub returns-in_default-clause-ok : goal.returns-in_default-clause-ok
returns-in_default-clause-ok c =
    rw c.in_default.ensures.rest
    (other_byte c.args.self.now c.args.rest.now.bytes.now _ (sym c.in_default.ensures.byte) c.in_default.field-0-test.1)
