use Rattle.std.proofs.Common.{ℕ, ◌≡◌, None, drop}
use Rattle.std.specs.HashMap.{spare, hash_map_len}
use Rattle.bw_buffer.specs.Index.{index_at}
use Rattle.bw_buffer.specs.Rows.{IsUntouched}
use Rattle.bw_buffer.proofs.buffer.close_all.Given as goal

-- what the rows that are left do not touch has no index
abbrev pub invariant-loop-row : goal.invariant-loop-row
invariant-loop-row l = record {
  none : (q : ℕ) → IsUntouched q (drop l.row-index l.rows) → index_at l.index q ≡ None;
  len : hash_map_len l.index ≡ hash_map_len l.initial.index;
  room : spare l.index ≡ spare l.initial.index;
}
