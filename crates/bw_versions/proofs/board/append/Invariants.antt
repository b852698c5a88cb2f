use Rattle.std.proofs.Common.{◌≡◌, ◌+◌, ◌++◌, take, map, vec_len, vec_capacity}
use Rattle.bw_versions.proofs.board.append.Given as goal

abbrev pub invariant-loop-entry : goal.invariant-loop-entry
invariant-loop-entry l = record {
  so_far : map (λ s. s.value) l.entries.items ≡ map (λ s. s.value) l.initial.entries.items ++ take l.entry-index l.more;
  count : vec_len l.entries ≡ vec_len l.initial.entries + l.entry-index;
  capacity : vec_capacity l.entries ≡ vec_capacity l.initial.entries;
}
