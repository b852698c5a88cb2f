use Rattle.std.proofs.Common.{sym, ◌∙◌}
use Rattle.bw_pairs.specs.Csv.{field_from}
use Rattle.bw_pairs.specs.declared.csv.At.TheVariants.{Begin}
use Rattle.bw_pairs.proofs.Escaping.{err_none}
use Rattle.bw_pairs.proofs.Fielding.{no_put}
use Rattle.bw_pairs.proofs.csv.csv_put_of.Goals as goal

pub returns-in_err-first : goal.returns-in_err-first
returns-in_err-first c =
    err_none c.from_residual.result c.from_residual.ensures.0
    ∙ sym (no_put (field_from Begin c.args.line.now) c.in_err-first.ensures.err)
