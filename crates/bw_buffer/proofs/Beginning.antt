-- A buffer without a block.

use Rattle.std.proofs.Common.{◌≡◌, ℕ, ◌+◌, ◌*◌, ◌≤◌, ◌<◌, false, None, List, [], length, arith, ap, sym, ◌∙◌, subst}
use Rattle.std.specs.List.{AllByRecursion as All}
use Rattle.std.specs.Vec.{vec_capacity}
use Rattle.std.specs.HashMap.{spare, hash_map_len}
use Rattle.bw_buffer.specs.Index.{index_at}
use Rattle.bw_buffer.specs.Rows.{pieces_length, AreRows}
use Rattle.bw_buffer.specs.Laid.{parts_of, Holds}
use Rattle.bw_buffer.specs.declared.buffer.Buffer.TheInside.{Inside}
use Rattle.bw_buffer.specs.declared.rows.Row.{Row}
use Rattle.bw_buffer.specs.declared.rows.Piece.{Piece}

pub record Begun (a : Inside) : Type 0 where
  pub rows : a.rows.items ≡ []
  pub pieces : a.pieces.items ≡ []
  pub arena : a.arena.items ≡ []
  pub size : a.size ≡ 20
  pub unsealed : a.is_sealed ≡ false
  pub told : (p : ℕ) → index_at a.deltas p ≡ None
  pub numbered : 1 ≤ a.frame
  pub limited : (65536 ≤ a.limit) × (a.limit ≤ 262144)
  pub rows_room : a.limit ≤ 8 * vec_capacity a.rows + 7
  pub pieces_room : a.limit ≤ 3 * vec_capacity a.pieces + 2
  pub arena_room : a.limit ≤ vec_capacity a.arena
  pub deltas_few : 64 * hash_map_len a.deltas ≤ a.limit
  pub deltas_room : 9 * a.limit ≤ 64 * (hash_map_len a.deltas + spare a.deltas) + 119
  pub spots_room : a.limit ≤ 8 * vec_capacity a.spots + 7
  pub bytes_room : a.limit ≤ vec_capacity a.bytes

pub begun : (a : Inside) → Begun a → Holds a []
begun a b =
    let none_pieces : length a.pieces.items ≡ 0 = ap (λ (l : List Piece). length l) b.pieces in
    let none_bytes : length a.arena.items ≡ 0 = ap (λ (l : List ℕ). length l) b.arena in
    let size = b.size in
    record {
      rows = subst (λ (rs : List Row). AreRows 0 rs (parts_of a) []) (sym b.rows) tt;
      within = subst (λ (qs : List Piece). All (λ q. q.block < length a.rows.items) qs) (sym b.pieces) tt;
      parted = ap pieces_length b.pieces ∙ sym none_bytes;
      size = b.size;
      lawful = tt;
      told = b.told;
      numbered = b.numbered;
      fits = (let l = b.limited.0 in omega arith);
      limited = b.limited;
      sealed = λ e. (let u = b.unsealed in absurd cc);
      rows_room = b.rows_room;
      pieces_few = omega arith;
      pieces_room = b.pieces_room;
      arena_few = omega arith;
      arena_room = b.arena_room;
      deltas_few = (let f = b.deltas_few in omega arith);
      deltas_room = b.deltas_room;
      spots_room = b.spots_room;
      bytes_room = b.bytes_room;
    }
