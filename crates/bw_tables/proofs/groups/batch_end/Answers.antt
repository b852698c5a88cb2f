use Rattle.std.proofs.Common.{◌≡◌, [], ◌∷◌}
use Rattle.bw_record.specs.declared.record.Record.TheVariants.{Del}
use Rattle.bw_rows.specs.Spelling.{stands_key}
use Rattle.bw_tables.proofs.CallLaws.{ends_batch, ends_no_mark}
use Rattle.bw_tables.proofs.groups.batch_end.Goals as goal

pub returns : goal.returns
returns c =
    let is : c.one.result ≡ Del stands_key ∷ [] = rw (c.one.ensures, c.stands_key.ensures) in
    record { ends = ends_batch c.one.result is; marks = ends_no_mark c.one.result is }
