use Rattle.std.proofs.Common.{◌≡◌, List, ◌++◌, take}
use Rattle.bw_record.specs.declared.block.Place.{Place}
use Rattle.bw_record.specs.declared.block.Block.{Block}
use Rattle.bw_log.specs.Places.{placed}
use Rattle.bw_lines.specs.Reading.{IsRead}
use Rattle.bw_lines.proofs.links.read_blocks_linked.Given as goal

abbrev pub invariant-loop-block : goal.invariant-loop-block
invariant-loop-block l = record {
  index : l.index ≡ l.block-index;
  read : (done : List (Place × Block)) → IsRead l.first done l.initial.lines
      → IsRead l.first (done ++ placed l.number 0 (take l.block-index l.items)) l.lines;
}
