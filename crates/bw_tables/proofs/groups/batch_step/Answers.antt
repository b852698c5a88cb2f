use Rattle.std.proofs.Common.{◌≡◌, [], ◌∷◌}
use Rattle.bw_record.specs.declared.record.Record.TheVariants.{Put}
use Rattle.bw_rows.specs.Spelling.{stands_key}
use Rattle.bw_tables.proofs.CallLaws.{makes_batch}
use Rattle.bw_tables.proofs.groups.batch_step.Goals as goal

pub returns : goal.returns
returns c =
    let is : c.one.result ≡ Put stands_key [] ∷ [] = rw (c.one.ensures, c.stands_key.ensures, c.nothing.ensures) in
    makes_batch c.one.result is
