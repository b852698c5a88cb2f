use Rattle.bw_pairs.proofs.Blanks.{trimmed}
use Rattle.bw_pairs.proofs.json.Rest.skip_blanks.Goals as goal

pub returns : goal.returns
returns c = trimmed c.args.self.now.bytes.now c.trim_ascii_start-self.result.now c.trim_ascii_start-self.ensures.value
