use Rattle.bw_pairs.specs.Json.{text_of}
use Rattle.bw_pairs.proofs.Texting.{short_ok, short_err}
use Rattle.bw_pairs.proofs.json.Rest.short.Goals as goal

pub returns-clause-ok : goal.returns-clause-ok
returns-clause-ok c =
    short_ok c.text.result c.new.result.items (text_of c.args.self.now.bytes.now) _ c.new.ensures c.text.ensures.ok

pub returns-clause-err : goal.returns-clause-err
returns-clause-err c =
    short_err c.text.result c.new.result.items (text_of c.args.self.now.bytes.now) 684 c.new.ensures c.text.ensures.err
