use Rattle.bw_pairs.specs.Csv.{field_from}
use Rattle.bw_pairs.specs.declared.csv.At.TheVariants.{Begin}
use Rattle.bw_pairs.proofs.Fielding.{short_ok, short_err}
use Rattle.bw_pairs.proofs.csv.short_of.Goals as goal

pub returns-clause-ok : goal.returns-clause-ok
returns-clause-ok c =
    short_ok c.field_of.result c.new.result.items (field_from Begin c.args.line.now) _ c.new.ensures c.field_of.ensures.ok

pub returns-clause-err : goal.returns-clause-err
returns-clause-err c =
    short_err c.field_of.result c.new.result.items (field_from Begin c.args.line.now) 1026 c.new.ensures c.field_of.ensures.err
