-- Pages by records and pairs that stay where they lie, in blocks that are known to be lawful.

use Rattle.std.specs.Prelude.{ℕ, zero, suc, ◌^◌, ◌<◌, ◌≡◌, Option, Some, List, [], ◌∷◌, ◌++◌, length}
use Rattle.std.specs.List.{flat_map, AllByRecursion}
use Rattle.bw_record.specs.Lawful.{IsPairIn, IsOpIn}
use Rattle.bw_record.specs.declared.record.Record.{Record}
use Rattle.bw_record.specs.declared.leaf.Leaf.{Leaf}
use Rattle.bw_record.specs.declared.block.Place.{Place}
use Rattle.bw_record.specs.declared.block.Block.{Block}
use Rattle.bw_codec.specs.Bytes.{number_bytes, text}
use Rattle.bw_codec.specs.Grammar.{op_bytes_in, pair_bytes_in, place_bytes, ops_bytes_in, pairs_bytes_in, upper_bytes_in, body_bytes_in, IsDeltaIn, IsBaseIn, IsSplitIn, IsBlockIn}
use Rattle.bw_codec.specs.Reading.{◌>>=◌, op_at, pair_at}
use Rattle.bw_leaf.specs.Changed.{Pairs, changed}

-- a page after n records at the front of bytes
unfoldable pub ops_into : ℕ → Leaf → ℕ → List ℕ → Option Leaf
ops_into v leaf zero bytes = Some leaf
ops_into v leaf (suc n) bytes = op_at v bytes >>= λ op. ops_into v (changed op.0 leaf) n op.1

-- a page with n pairs at the front of bytes after those that it has
unfoldable pub pairs_into : ℕ → Leaf → ℕ → List ℕ → Option Leaf
pairs_into v leaf zero bytes = Some leaf
pairs_into v leaf (suc n) bytes = pair_at v bytes >>= λ p. pairs_into v (record leaf { pairs = leaf.pairs ++ p.0 ∷ [] }) n p.1

-- these are so many lawful records, and stand at the front of bytes
pub record AreOps (v count : ℕ) (bytes : List ℕ) (ops : List Record) : Type 0 where
  pub count_is : count ≡ length ops
  pub each : AllByRecursion (IsOpIn v) ops
  pub rest : List ℕ
  pub there : bytes ≡ flat_map (op_bytes_in v) ops ++ rest

-- these are so many lawful pairs, and stand at the front of bytes
pub record ArePairs (v count : ℕ) (bytes : List ℕ) (pairs : Pairs) : Type 0 where
  pub count_is : count ≡ length pairs
  pub each : AllByRecursion (IsPairIn v) pairs
  pub rest : List ℕ
  pub there : bytes ≡ flat_map (pair_bytes_in v) pairs ++ rest

-- what stands after the tag of a lawful block
pub record IsDeltaAfter (v page : ℕ) (back : Place) (ops : List Record) (bytes : List ℕ) : Type 0 where
  pub lawful : IsDeltaIn v page back ops
  pub rest : List ℕ
  pub there : bytes ≡ (number_bytes 4 page ++ (place_bytes back ++ ops_bytes_in v ops)) ++ rest

pub record IsBaseAfter (v m : ℕ) (leaf : Leaf) (bytes : List ℕ) : Type 0 where
  pub small : m < 2 ^ 16
  pub lawful : IsBaseIn v m leaf
  pub rest : List ℕ
  pub there : bytes ≡ (number_bytes 4 leaf.page ++ (text leaf.low ++ pairs_bytes_in v leaf.pairs)) ++ rest

pub record IsSplitAfter (v m page : ℕ) (back : Place) (upper : Leaf) (bytes : List ℕ) : Type 0 where
  pub small : m < 2 ^ 16
  pub lawful : IsSplitIn v m page back upper
  pub rest : List ℕ
  pub there : bytes ≡ (number_bytes 4 page ++ (place_bytes back ++ upper_bytes_in v upper)) ++ rest

-- the body of a lawful frame
pub record IsBody (v m : ℕ) (blocks : List Block) (body : List ℕ) : Type 0 where
  pub small : m < 2 ^ 16
  pub lawful : AllByRecursion (IsBlockIn v m) blocks
  pub there : body ≡ body_bytes_in v blocks
