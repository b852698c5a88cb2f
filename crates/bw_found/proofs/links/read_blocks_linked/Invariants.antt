use Rattle.std.proofs.Common.{◌≡◌, ℕ, ◌+◌, ◌≤◌, List, ◌++◌, length, take, drop}
use Rattle.bw_record.specs.declared.block.Place.{Place}
use Rattle.bw_record.specs.declared.block.Block.{Block}
use Rattle.bw_codec.specs.Grammar.{body_bytes_in}
use Rattle.bw_log.specs.Places.{placed}
use Rattle.bw_found.specs.Lent.{IsBody}
use Rattle.bw_lines.specs.Reading.{IsRead}
use Rattle.bw_found.proofs.links.read_blocks_linked.Given as goal

abbrev pub invariant-next : goal.invariant-next
invariant-next l = record {
  small : l.index + length l.rest ≤ length l.body;
  there : (m : ℕ) (blocks : List Block) → IsBody l.version m blocks l.body → l.rest ≡ body_bytes_in l.version (drop l.index blocks);
  read : (m : ℕ) (blocks : List Block) (done : List (Place × Block)) → IsBody l.version m blocks l.body → IsRead l.first done l.initial.lines
      → IsRead l.first (done ++ placed l.number 0 (take l.index blocks)) l.lines;
}

abbrev pub decreases-next : goal.decreases-next
decreases-next l = length l.rest
