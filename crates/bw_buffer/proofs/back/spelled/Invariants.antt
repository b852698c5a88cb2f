use Rattle.std.proofs.Common.{◌≡◌, ◌++◌, take, drop}
use Rattle.bw_buffer.specs.Rows.{bytes_at, front_of, parts, pieces_length}
use Rattle.bw_buffer.proofs.back.spelled.Given as goal

abbrev pub invariant-loop-piece : goal.invariant-loop-piece
invariant-loop-piece l = record {
  bytes : l.bytes.items ≡ front_of l.row ++ bytes_at l.block (take l.piece-index (parts l.pieces l.arena));
  rest : l.rest ≡ drop (pieces_length (take l.piece-index l.pieces)) l.arena;
}
