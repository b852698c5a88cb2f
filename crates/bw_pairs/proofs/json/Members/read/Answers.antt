use Rattle.bw_pairs.specs.Json.{text_of}
use Rattle.bw_pairs.proofs.Texting.{on_err}
use Rattle.bw_pairs.proofs.Membering.{no_named, no_text}
use Rattle.bw_pairs.proofs.json.Members.read.Goals as goal

pub returns-in_err-name-clause-err : goal.returns-in_err-name-clause-err
returns-in_err-name-clause-err c =
    on_err _ _ (no_named c.args.self.now (text_of c.args.rest.now.bytes.now) c.in_err-name.ensures.err)

pub returns-in_err-text-clause-err : goal.returns-in_err-text-clause-err
returns-in_err-text-clause-err c =
    on_err _ _ (no_text c.args.self.now c.args.rest.now.bytes.now c.in_ok-name.name.items c.short.new.self.bytes.now c.expect.new.self.bytes.now
    c.in_ok-name.ensures.ok c.in_ok-expect.ensures.ok c.in_err-text.ensures.err)
