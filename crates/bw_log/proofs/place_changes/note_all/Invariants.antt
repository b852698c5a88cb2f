use Rattle.std.proofs.Common.{◌≡◌, length, drop}
use Rattle.bw_log.specs.PageTable.{noted_all, HaveLines}
use Rattle.bw_log.proofs.place_changes.note_all.Given as goal

abbrev pub invariant-loop-index : goal.invariant-loop-index
invariant-loop-index l = record {
  noted : noted_all l.frame l.index (drop l.index l.buffer.blocks) l.pages.items ≡ noted_all l.frame 0 l.buffer.blocks l.initial.pages.items;
  lines : HaveLines (drop l.index l.buffer.blocks) (length l.pages.items);
}
