-- A buffer holds rows and the bytes of their pieces; the blocks are what these spell once they are laid out.

use Rattle.std.specs.Prelude.{ℕ, ◌+◌, ◌*◌, ◌≡◌, ◌≤◌, ◌<◌, true, Some, None, List, [], ◌++◌, length}
use Rattle.std.specs.List.{AllByRecursion}
use Rattle.std.specs.Vec.{vec_capacity}
use Rattle.std.specs.HashMap.{spare, hash_map_len}
use Rattle.bw_buffer.specs.Index.{index_at}
use Rattle.bw_record.specs.Version.{latest}
use Rattle.bw_codec.specs.Grammar.{body_bytes, head_bytes, IsBlock}
use Rattle.bw_codec.specs.Reading.{Found, many_at, block_at}
use Rattle.bw_record.specs.declared.block.Block.{Block}
use Rattle.bw_buffer.specs.Filling.{Filling}
use Rattle.bw_buffer.specs.Joining.{last_delta}
use Rattle.bw_buffer.specs.Rows.{Parts, parts, pieces_length, laid, AreRows}
use Rattle.bw_buffer.specs.declared.buffer.Buffer.TheInside.{Inside}

abbrev pub first_of : Found (List Block) → List Block
first_of None = []
first_of (Some read) = read.0

abbrev pub parts_of : Inside → Parts
parts_of a = parts a.pieces.items a.arena.items

abbrev pub body_of : Inside → List ℕ
body_of a = laid 0 a.rows.items (parts_of a)

-- the blocks that a frame's body spells
unfoldable pub blocks_in : ℕ → List ℕ → List Block
blocks_in count body = first_of (many_at (block_at latest 32) count body)

abbrev pub blocks_of : Inside → List Block
blocks_of a = blocks_in (length a.rows.items) (body_of a)

abbrev pub filling_of : Inside → Filling
filling_of a = record { frame = a.frame; limit = a.limit; blocks = blocks_of a; is_sealed = a.is_sealed }

-- fields that hold these blocks
pub record Holds (a : Inside) (blocks : List Block) : Type 0 where
  pub rows : AreRows 0 a.rows.items (parts_of a) blocks
  pub within : AllByRecursion (λ q. q.block < length a.rows.items) a.pieces.items
  pub parted : pieces_length a.pieces.items ≡ length a.arena.items
  pub size : a.size ≡ 20 + length (body_bytes blocks)
  pub lawful : AllByRecursion (IsBlock 32) blocks
  -- the map gives the last block of each page, if that is a Delta
  pub told : (p : ℕ) → index_at a.deltas p ≡ last_delta p blocks
  pub numbered : 1 ≤ a.frame
  pub fits : a.size ≤ a.limit
  pub limited : (65536 ≤ a.limit) × (a.limit ≤ 262144)
  -- once sealed, the bytes are those of the frame
  pub sealed : a.is_sealed ≡ true → a.bytes.items ≡ head_bytes a.frame (length (body_bytes blocks)) (length blocks) ++ body_bytes blocks
  -- room for all that may come: no block has fewer than eight bytes, and no piece fewer than three
  pub rows_room : a.limit ≤ 8 * vec_capacity a.rows + 7
  pub pieces_few : 3 * length a.pieces.items + 20 ≤ a.size
  pub pieces_room : a.limit ≤ 3 * vec_capacity a.pieces + 2
  pub arena_few : length a.arena.items + 20 ≤ a.size
  pub arena_room : a.limit ≤ vec_capacity a.arena
  -- the map keeps pages of earlier frames too: when a frame begins, at most one for each 64 bytes of the limit
  pub deltas_few : 64 * hash_map_len a.deltas + 160 ≤ 8 * a.size + a.limit
  pub deltas_room : 9 * a.limit ≤ 64 * (hash_map_len a.deltas + spare a.deltas) + 119
  pub spots_room : a.limit ≤ 8 * vec_capacity a.spots + 7
  pub bytes_room : a.limit ≤ vec_capacity a.bytes

abbrev pub IsLaid : Inside → Type 0
IsLaid a = Holds a (blocks_of a)
