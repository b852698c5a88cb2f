use Rattle.std.proofs.Common.{sym, ◌∙◌}
use Rattle.bw_pairs.specs.Csv.{field_from, read_of}
use Rattle.bw_pairs.specs.declared.csv.At.TheVariants.{Begin}
use Rattle.bw_pairs.proofs.Escaping.{err_none}
use Rattle.bw_pairs.proofs.Fielding.{no_put_behind}
use Rattle.bw_pairs.proofs.csv.put_behind.Goals as goal

pub returns-in_err-second : goal.returns-in_err-second
returns-in_err-second c =
    err_none c.from_residual.result c.from_residual.ensures.0
    ∙ sym (no_put_behind (read_of c.args.first.now.bytes.items c.args.first.now.is_quoted) (field_from Begin c.args.rest.now) c.in_err-second.ensures.err)
