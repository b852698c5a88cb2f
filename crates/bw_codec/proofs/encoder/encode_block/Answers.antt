use Rattle.std.proofs.Common.{ap, ◌∙◌, ◌++◌}
use Rattle.bw_codec.specs.Grammar.{block_bytes}
use Rattle.bw_codec.proofs.encoder.encode_block.Goals as goal

pub returns-clause-ok : goal.returns-clause-ok
returns-clause-ok c = c.write_block.ensures.items ∙ ap (λ l. l ++ block_bytes c.args.block.now) c.reserve.ensures.items
