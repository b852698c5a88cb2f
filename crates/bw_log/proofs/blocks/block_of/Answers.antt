use Rattle.bw_log.proofs.Looked.{not_bad, gave}
use Rattle.bw_log.proofs.blocks.block_of.Goals as goal

pub unreachable-requires : goal.unreachable-requires
unreachable-requires c =
    let x = c.requires in
    not_bad c.in-Err-BadBytes.field-0 x.0 c.in-Err-BadBytes.field-0-is (c.in-Err-BadBytes.ensures.only x.0 (x.1.lawful, x.1.rest, x.1.is))

pub returns-in-Ok-clause-found : goal.returns-in-Ok-clause-found
returns-in-Ok-clause-found c block s = gave block c.in-Ok.block (c.in-Ok.ensures.only block (s.lawful, s.rest, s.is))
