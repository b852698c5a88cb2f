use Rattle.bw_pairs.proofs.Texting.{number_ok, number_err}
use Rattle.bw_pairs.proofs.json.Rest.numbered.Goals as goal

pub returns-clause-ok : goal.returns-clause-ok
returns-clause-ok g c =
    number_ok c.push_letter.result (g.B.Buffer.held c.args.text.now) (g.B.Buffer.held c.push_letter.new.text) c.args.self.now.bytes.now
    c.code.new.self.bytes.now c.in_ok-code.code c.in_ok-code.ensures.ok c.push_letter.ensures.ok

pub returns-clause-err : goal.returns-clause-err
returns-clause-err g c =
    number_err c.push_letter.result (g.B.Buffer.room c.args.text.now) (g.B.Buffer.held c.args.text.now) c.args.self.now.bytes.now
    c.code.new.self.bytes.now c.in_ok-code.code c.in_ok-code.ensures.ok c.push_letter.ensures.err
