use Rattle.std.proofs.Common.{[], false, arith, refl}
use Rattle.bw_buffer.specs.declared.buffer.Buffer.TheInside.{Inside}
use Rattle.bw_buffer.specs.Laid.{Holds}
use Rattle.bw_buffer.proofs.Holding.{filled, seen}
use Rattle.bw_buffer.proofs.Beginning.{begun}
use Rattle.bw_buffer.proofs.buffer.Buffer.new.Goals as goal
use Rattle.bw_buffer.proofs.buffer.Buffer.new.Goals.{In_ok-bytes}

abbrev fields : In_ok-bytes → Inside
fields c = record {
  frame = c.args.frame;
  limit = c.args.limit;
  size = 20;
  is_sealed = false;
  rows = c.in_ok-rows.rows;
  pieces = c.in_ok-pieces.pieces;
  arena = c.in_ok-arena.arena;
  deltas = c.in_ok-deltas.deltas;
  spots = c.in_ok-spots.spots;
  bytes = c.in_ok-bytes.bytes;
}

empty : (c : In_ok-bytes) → Holds (fields c) []
empty c = begun (fields c) record {
  rows = c.in_ok-rows.ensures.items;
  pieces = c.in_ok-pieces.ensures.items;
  arena = c.in_ok-arena.ensures.items;
  size = refl;
  unsealed = refl;
  told = λ p. (rw c.in_ok-deltas.ensures.empty refl);
  numbered = c.requires.numbered;
  limited = c.requires.limit;
  rows_room = omega (arith, c.in_ok-rows.ensures.exact);
  pieces_room = omega (arith, c.in_ok-pieces.ensures.exact);
  arena_room = omega (arith, c.in_ok-arena.ensures.exact);
  deltas_few = (let n = c.in_ok-deltas.ensures.len in omega arith);
  deltas_room = (let s = c.in_ok-deltas.ensures.spare in let m = c.most_kept.ensures in omega arith);
  spots_room = omega (arith, c.in_ok-spots.ensures.exact);
  bytes_room = omega (arith, c.in_ok-bytes.ensures.exact);
}

pub invariant_of-result : goal.invariant_of-result
invariant_of-result c = filled (fields c) [] (empty c)

pub returns : goal.returns
returns c = seen (fields c) [] (empty c)
