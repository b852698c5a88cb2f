use Rattle.bw_pairs.proofs.Texting.{text_err}
use Rattle.bw_pairs.proofs.json.Rest.text.Goals as goal

pub returns-clause-err : goal.returns-clause-err
returns-clause-err g c =
    text_err c.letters.result (g.B.Buffer.room c.args.bytes) (g.B.Buffer.held c.args.bytes) c.args.self.now.bytes.now
    c.expect.new.self.bytes.now c.in_ok-expect.ensures.ok c.letters.ensures.err
