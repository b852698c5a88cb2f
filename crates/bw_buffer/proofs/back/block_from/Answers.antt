use Rattle.std.proofs.Common.{[], sym, ◌∙◌, append-nil}
use Rattle.bw_codec.specs.Grammar.{block_bytes}
use Rattle.bw_buffer.proofs.ReadBack.{not_bad, gave}
use Rattle.bw_buffer.proofs.back.block_from.Goals as goal

pub unreachable-requires : goal.unreachable-requires
unreachable-requires c =
    let x = c.requires in
    not_bad c.in-Err-BadBytes.field-0 x.0 c.in-Err-BadBytes.field-0-is
    (c.in-Err-BadBytes.ensures.only x.0 (x.1, [], x.2 ∙ sym (append-nil (block_bytes x.0))))

pub returns-in-Ok : goal.returns-in-Ok
returns-in-Ok c block lawful is = gave block c.in-Ok.block (c.in-Ok.ensures.only block (lawful, [], is ∙ sym (append-nil (block_bytes block))))
