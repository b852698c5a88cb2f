use Rattle.std.proofs.Common.{◌≡◌, [], ◌∷◌}
use Rattle.bw_record.specs.declared.record.Record.TheVariants.{Put, Del}
use Rattle.bw_rows.specs.Spelling.{doomed_key, free_key}
use Rattle.bw_tables.proofs.CallLaws.{frees, frees_no_mark}
use Rattle.bw_tables.proofs.groups.free_group.Goals as goal

pub returns : goal.returns
returns c =
    let is : c.add.new.group ≡ Del (doomed_key c.args.number.bytes) ∷ Put (free_key c.args.number.bytes) [] ∷ []
    = rw (c.add.ensures, c.one-group.ensures, c.doomed_key.ensures, c.free_key.ensures, c.nothing.ensures) in
    record { frees = frees c.args.number.bytes c.add.new.group is; marks = frees_no_mark c.args.number.bytes c.add.new.group is }
