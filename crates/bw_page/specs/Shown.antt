-- What callers see of `Leaves`, and what its calls say.

use Rattle.std.specs.Prelude.{ℕ, ◌+◌, ◌^◌, ◌<◌, ◌≡◌, Bool, false, if◌then◌else◌, nat_le, Option, None, Some, List, length}
use Rattle.std.specs.List.{AllByRecursion}
use Rattle.std.specs.Option.{IsSomeAnd}
use Rattle.bw_record.specs.Keys.{is_below}
use Rattle.bw_record.specs.Record.{key_of}
use Rattle.bw_record.specs.declared.leaf.Leaf.{Leaf}
use Rattle.bw_record.specs.declared.record.Record.{Record}
use Rattle.bw_page.specs.declared.leaves.Applied.{Applied}
use Rattle.bw_leaf.specs.Changed.{Bytes, changed}
use Rattle.bw_page.specs.Leaves.{home, leaf_at, applied, pages}
use Rattle.bw_page.specs.Seats.{is_among}

-- leaves of at most m pairs each
pub record Shown : Type 0 where
  pub m : ℕ
  pub leaves : List Leaf
  -- the pages that are not in memory, ascending
  pub evicted : List ℕ

-- a page is not in memory; a page that there is not is not evicted
abbrev pub is_evicted_page : ℕ → Shown → Bool
is_evicted_page page f = is_among page f.evicted

-- the leaf of a page, if there is one in memory
abbrev pub leaf_here : ℕ → Shown → Option Leaf
leaf_here page f = if is_evicted_page page f then None else leaf_at page f.leaves

-- the page at which a record of a key is directed is in memory
abbrev pub IsHere : Bytes → Shown → Type 0
IsHere key f = is_evicted_page (home key f.leaves).page f ≡ false

-- after one record, and after several
abbrev pub after_record : Shown → Record → Shown
after_record f r = record f { leaves = applied f.m f.leaves r }

abbrev pub run : Shown → List Record → Shown
run f records = record f { leaves = pages f.m f.leaves records }

-- the page that a record is directed at, and the one that it makes, if it does
abbrev pub applied_by : Shown → Record → Applied
applied_by f r = record {
  page = (home (key_of r) f.leaves).page;
  made = if nat_le (length (changed r (home (key_of r) f.leaves)).pairs) f.m then None else Some (length f.leaves + 1);
}

-- the record makes a page for which there is no number
abbrev pub IsSpent : Shown → Record → Type 0
IsSpent f r = (f.m < length (changed r (home (key_of r) f.leaves)).pairs) × (length f.leaves + 1 ≡ 2 ^ 32)

-- a leaf's low is not above the key, and is the greatest such low
abbrev pub HasGreatestLow : Bytes → List Leaf → Leaf → Type 0
HasGreatestLow key leaves leaf =
    (is_below key leaf.low ≡ false) × AllByRecursion (λ l. is_below key l.low ≡ false → is_below leaf.low l.low ≡ false) leaves

-- a page with the greatest low not above the key
abbrev pub TakesKey : Bytes → List Leaf → ℕ → Type 0
TakesKey key leaves page = IsSomeAnd (leaf_at page leaves) (HasGreatestLow key leaves)
