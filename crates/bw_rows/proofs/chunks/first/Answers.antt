use Rattle.std.proofs.Common.{sym, arith}
use Rattle.std.proofs.lemmas.List.{take_all}
use Rattle.bw_rows.proofs.chunks.first.Goals as goal

pub returns-then-rest-lt-CHUNK-clause-value : goal.returns-then-rest-lt-CHUNK-clause-value
returns-then-rest-lt-CHUNK-clause-value c = sym (take_all 512 c.args.rest.now (omega arith))
