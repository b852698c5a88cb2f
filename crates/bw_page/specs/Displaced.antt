-- A leaf that a record changed, as it was before.

use Rattle.std.specs.Prelude.{ℕ, ◌+◌, ◌-◌, ◌≤◌, ◌<◌, ◌≡◌, Bool, false, Option, Some, ◌++◌, length, slice_index_or, insert}
use Rattle.bw_record.specs.declared.leaf.Leaf.{Leaf}
use Rattle.bw_record.specs.declared.record.Record.TheVariants.{Del}
use Rattle.bw_leaf.specs.Changed.{Bytes, changed}
use Rattle.bw_page.specs.Seats.{is_among, Seating}

pub record Displaced : Type 0 where
  pub leaf : Leaf
  -- how many pages there were
  pub pages : ℕ
  -- the key of the record
  pub key : Bytes
  -- whether the record split the page
  pub is_split : Bool

-- two parts as one leaf
abbrev pub joined : Leaf → Leaf → Leaf
joined lower upper = record lower { pairs = lower.pairs ++ upper.pairs }

-- a leaf with one more pair at a place
abbrev pub with_pair_at : Leaf → ℕ → Bytes × Bytes → Leaf
with_pair_at leaf at pair = record leaf { pairs = insert leaf.pairs at pair }

-- the seat of a leaf among others, in memory
pub record HasSeat (d : Displaced) (seats : Seating) : Type 0 where
  pub page : (1 ≤ d.leaf.page) × (d.leaf.page - 1 < length seats.items)
  pub here : is_among d.leaf.page seats.evicted ≡ false

-- in the seat of a leaf that lost a pair stands the leaf without it
abbrev pub IsLess : Displaced → Seating → Type 0
IsLess d seats = (x : Leaf) → slice_index_or seats.items (d.leaf.page - 1) x ≡ changed (Del d.key) d.leaf

-- the parts of a leaf that was split: the lower one in its seat, and the upper one; without the record's pair they are the leaf
pub record AreParts (d : Displaced) (seats : Seating) (upper : Option Leaf) : Type 0 where
  pub other : Leaf
  pub is : upper ≡ Some other
  pub few : (x : Leaf) → length (slice_index_or seats.items (d.leaf.page - 1) x).pairs + length other.pairs ≤ length d.leaf.pairs + 1
  pub whole : (x : Leaf) → changed (Del d.key) (joined (slice_index_or seats.items (d.leaf.page - 1) x) other) ≡ d.leaf
