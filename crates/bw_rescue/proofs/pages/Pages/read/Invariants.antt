use Rattle.std.specs.Prelude.{◌≡◌, ◌++◌, List, length}
use Rattle.bw_record.specs.declared.block.Block.{Block}
use Rattle.bw_rescue.specs.Pages.{AreRead}
use Rattle.bw_rescue.proofs.pages.Pages.read.Given as goal

abbrev pub invariant-loop-block : goal.invariant-loop-block
invariant-loop-block l = record {
  read : (done : List Block) → AreRead done l.fn.self.lines → AreRead (done ++ l.yielded) l.self.lines;
  all : l.yielded ++ l.block-iterator.rest.items ≡ l.fn.frame.blocks;
  same : (l.self.gaps ≡ l.initial.self.gaps) × (l.self.last ≡ l.initial.self.last);
  long : length l.block-iterator.rest.items ≡ l.block-iterator.rest.len;
}
