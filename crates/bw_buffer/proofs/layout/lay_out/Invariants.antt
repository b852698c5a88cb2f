use Rattle.std.proofs.Common.{◌≡◌, ◌-◌, ◌++◌, ◌≤◌, [], length, take, drop, vec_len}
use Rattle.std.specs.Vec.{vec_capacity}
use Rattle.bw_codec.specs.Grammar.{head_bytes}
use Rattle.bw_buffer.specs.Rows.{parts, pieces_length}
use Rattle.bw_buffer.specs.Gaps.{filled, ends}
use Rattle.bw_buffer.proofs.layout.lay_out.Given as goal

abbrev pub invariant-loop-row : goal.invariant-loop-row
invariant-loop-row l = record {
  bytes : l.bytes.items ≡ head_bytes l.number (l.size - 20) (length l.rows) ++ filled 0 (take l.row-index l.rows) [];
  spots : l.spots.items ≡ ends 20 0 (take l.row-index l.rows) [];
  bytes_len : vec_len l.bytes ≡ length l.bytes.items;
  bytes_room : l.size ≤ vec_capacity l.bytes;
  bytes_kept : vec_capacity l.initial.bytes ≤ vec_capacity l.bytes;
  spots_len : vec_len l.spots ≡ l.row-index;
  spots_kept : vec_capacity l.initial.spots ≤ vec_capacity l.spots;
}

abbrev pub invariant-loop-piece : goal.invariant-loop-piece
invariant-loop-piece l = record {
  bytes : l.bytes.items ≡ head_bytes l.number (l.size - 20) (length l.rows) ++ filled 0 l.rows (take l.piece-index (parts l.pieces l.arena));
  spots : l.spots.items ≡ ends 20 0 l.rows (take l.piece-index (parts l.pieces l.arena));
  rest : l.rest ≡ drop (pieces_length (take l.piece-index l.pieces)) l.arena;
  bytes_kept : vec_capacity l.initial.bytes ≤ vec_capacity l.bytes;
  spots_kept : vec_capacity l.initial.spots ≤ vec_capacity l.spots;
}
