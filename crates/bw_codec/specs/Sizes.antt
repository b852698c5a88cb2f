-- How long lawful blocks are at most, and that each fits a frame in which nothing else stands.

use Rattle.std.specs.Prelude.{ℕ, ◌+◌, ◌*◌, ◌≤◌, ◌≡◌, List, [], ◌∷◌, length}
use Rattle.bw_record.specs.Version.{latest}
use Rattle.bw_codec.specs.Grammar.{block_bytes, body_bytes, IsBase, IsDelta, IsSplit, IsHeader}
use Rattle.bw_record.specs.declared.record.Record.{Record}
use Rattle.bw_record.specs.declared.leaf.Leaf.{Leaf}
use Rattle.bw_record.specs.declared.block.Place.{Place}
use Rattle.bw_codec.specs.declared.head.Header.{Header}
use Rattle.bw_record.specs.declared.block.Block.{Block}
use Rattle.bw_record.specs.declared.block.Block.TheVariants.{Delta, Base, Split}

-- blocks of at most so many bytes
abbrev pub AreShort : ℕ → List Block → Type 0
AreShort n blocks = length (body_bytes blocks) ≤ n

-- a frame of only these blocks is within a limit
abbrev pub FitEmptyFrame : ℕ → List Block → Type 0
FitEmptyFrame f blocks = 20 + length (body_bytes blocks) ≤ f

-- the lengths of blocks by the pairs and records in them
pub record BlockLengths : Type 0 where
  pub base : (m : ℕ) (leaf : Leaf) → IsBase m leaf → length (block_bytes (Base leaf)) ≤ 136 + m * 643
  pub delta : (page : ℕ) (back : Place) (ops : List Record) → IsDelta page back ops
      → length (block_bytes (Delta page back ops)) ≤ 19 + length ops * 644
  pub split : (m page : ℕ) (back : Place) (upper : Leaf) → IsSplit m page back upper
      → length (block_bytes (Split page back upper)) ≤ 152 + length upper.pairs * 643

-- the largest blocks, if a page has at most 32 pairs
pub record LargestBlocks : Type 0 where
  pub base : (leaf : Leaf) → IsBase 32 leaf → AreShort 20712 (Base leaf ∷ [])
  -- of one record
  pub delta : (page : ℕ) (back : Place) (op : Record) → IsDelta page back (op ∷ [])
      → AreShort 663 (Delta page back (op ∷ []) ∷ [])
  -- of 33 pairs 16 stay, and 17 go
  pub split : (page : ℕ) (back : Place) (upper : Leaf) → IsSplit 32 page back upper → length upper.pairs ≤ 17
      → AreShort 11083 (Split page back upper ∷ [])
  -- the blocks of one record, however many pairs go
  pub both : (page : ℕ) (back : Place) (op : Record) (parent : ℕ) (link : Place) (upper : Leaf)
      → IsDelta page back (op ∷ []) → IsSplit 32 parent link upper
      → AreShort 21500 (Delta page back (op ∷ []) ∷ Split parent link upper ∷ [])

-- so a page, and the blocks of one record, fit an empty frame of each segment
pub record LargestFit : Type 0 where
  pub base : (h : Header) (leaf : Leaf) → IsHeader h → h.version ≡ latest → IsBase h.m leaf → FitEmptyFrame h.f (Base leaf ∷ [])
  pub delta : (h : Header) (page : ℕ) (back : Place) (op : Record) → IsHeader h → h.version ≡ latest → IsDelta page back (op ∷ [])
      → FitEmptyFrame h.f (Delta page back (op ∷ []) ∷ [])
  pub both : (h : Header) (page : ℕ) (back : Place) (op : Record) (parent : ℕ) (link : Place) (upper : Leaf)
      → IsHeader h → h.version ≡ latest → IsDelta page back (op ∷ []) → IsSplit h.m parent link upper
      → FitEmptyFrame h.f (Delta page back (op ∷ []) ∷ Split parent link upper ∷ [])
