use Rattle.std.proofs.Common.{◌≡◌, ◌++◌, length, rules, arith}
use Rattle.bw_tables.specs.Writing.{taking, chunk_records}
use Rattle.bw_tables.proofs.CallLaws.{begins}
use Rattle.bw_tables.proofs.groups.first_group.Goals as goal

pub returns-clause-begins : goal.returns-clause-begins
returns-clause-begins c =
    let wide : length c.args.number.bytes ≡ 8 = search rules in
    let is : c.add_chunks.new.group ≡ taking c.args.number.bytes ++ chunk_records c.args.number.bytes c.args.value.now 0 c.args.to
    = search rules in
    begins c.args.number.bytes c.args.value.now c.args.to c.add_chunks.new.group wide (omega arith) is
