use Rattle.std.proofs.Common.{◌≡◌, ◌+◌, ◌++◌, take, map, vec_len, vec_capacity}
use Rattle.bw_history.proofs.history.note_all.Given as goal

abbrev pub invariant-loop-entry : goal.invariant-loop-entry
invariant-loop-entry l = record {
  so_far : map (λ s. s.value) l.past.items ≡ map (λ s. s.value) l.initial.past.items ++ take l.entry-index l.entries;
  count : vec_len l.past ≡ vec_len l.initial.past + l.entry-index;
  capacity : vec_capacity l.past ≡ vec_capacity l.initial.past;
}
