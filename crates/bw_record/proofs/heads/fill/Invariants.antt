-- A head for each pair so far, each of which begins with the bytes.
use Rattle.std.proofs.Common.{◌≡◌, length, take}
use Rattle.bw_record.specs.Heads.{heads, Share}
use Rattle.bw_record.proofs.heads.fill.Given as goal

abbrev pub invariant-loop-pair : goal.invariant-loop-pair
invariant-loop-pair l = record {
  share : Share l.shared (take l.pair-index l.pairs);
  heads_are : l.row.items ≡ heads (length l.shared) (take l.pair-index l.pairs);
}
