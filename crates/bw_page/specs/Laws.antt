-- What holds of leaves, of chains and of frames over the definitions only.

use Rattle.std.specs.Prelude.{ℕ, ◌+◌, ◌<◌, ◌≤◌, ◌≡◌, ◌↔◌, ◌⊎◌, ◌==◌, false, IsTrue, if◌then◌else◌, Some, List, ◌++◌, map, length}
use Rattle.std.specs.List.{AllByRecursion}
use Rattle.bw_record.specs.Keys.{is_below, ascends}
use Rattle.bw_record.specs.Lawful.{IsOp}
use Rattle.bw_codec.specs.Grammar.{IsBase}
use Rattle.bw_record.specs.Record.{key_of}
use Rattle.bw_record.specs.declared.block.Frame.{Frame}
use Rattle.bw_record.specs.declared.leaf.Leaf.{Leaf}
use Rattle.bw_record.specs.declared.record.Record.{Record}
use Rattle.bw_leaf.specs.declared.chain.Link.{Link}
use Rattle.bw_leaf.specs.Changed.{Bytes, all_changed}
use Rattle.bw_page.specs.Leaves.{home, directed_at, result_of, leaf_at, AreNumbered, BeginsEmpty, HaveOwnLows, AreLeaves, HasPage}
use Rattle.bw_page.specs.Shown.{Shown, IsHere}
use Rattle.bw_page.specs.Batch.{AreHere, NoneBeyond}
use Rattle.bw_page.specs.Leaves.{applied}
use Rattle.bw_leaf.specs.SplitRule.{lower_of, upper_of}
use Rattle.bw_leaf.specs.Links.{told}
use Rattle.bw_page.specs.Lows.{home_page}
use Rattle.bw_page.specs.Standing.{Stand}

-- ---- leaves

-- a key lies at or above a leaf's low, and below each greater low, so below the next one
abbrev pub LiesBetween : List Leaf → Leaf → Bytes → Type 0
LiesBetween leaves leaf key =
    (is_below key leaf.low ≡ false) × AllByRecursion (λ l. IsTrue (is_below leaf.low l.low) → IsTrue (is_below key l.low)) leaves

-- lawful leaves said by ranges: the lows, read in their order, ascend strictly from the empty low of page 1, and each
-- key lies in its leaf's range
pub record AreRanged (m : ℕ) (leaves : List Leaf) : Type 0 where
  pub pages : AreNumbered 1 leaves
  pub first : BeginsEmpty leaves
  pub lows : HaveOwnLows leaves
  pub each : AllByRecursion (IsBase m) leaves
  pub ranges : AllByRecursion (λ l. AllByRecursion (λ p. LiesBetween leaves l p.0) l.pairs) leaves

-- keys stand where records of them are directed exactly if they lie in their leaf's range
abbrev pub HomesAreRanges : Type 0
HomesAreRanges = (m : ℕ) (leaves : List Leaf) → AreLeaves m leaves ↔ AreRanged m leaves

-- only the lows decide at which page a record is directed
abbrev pub LowsTell : Type 0
LowsTell = (m : ℕ) (leaves : List Leaf) (key : Bytes) → AreLeaves m leaves → home_page key (map (λ l. l.low) leaves) ≡ (home key leaves).page

-- leaves after a record, page by page: the page that it changes, or the lower part of that page; the new page; and all
-- others as before
pub record ChangesOnePage (m : ℕ) (leaves : List Leaf) (r : Record) : Type 0 where
  pub whole : length (result_of leaves r).pairs ≤ m → (p : ℕ)
      → leaf_at p (applied m leaves r) ≡ (if directed_at leaves r == p then Some (result_of leaves r) else leaf_at p leaves)
  pub as_many : length (result_of leaves r).pairs ≤ m → length (applied m leaves r) ≡ length leaves
  pub lower : m < length (result_of leaves r).pairs → (p : ℕ) → p ≤ length leaves
      → leaf_at p (applied m leaves r) ≡ (if directed_at leaves r == p then Some (lower_of m (result_of leaves r)) else leaf_at p leaves)
  pub upper : m < length (result_of leaves r).pairs
      → leaf_at (length leaves + 1) (applied m leaves r) ≡ Some (upper_of m (length leaves + 1) (result_of leaves r))
  pub one_more : m < length (result_of leaves r).pairs → length (applied m leaves r) ≡ length leaves + 1

-- a record does to lawful leaves what it does page by page
abbrev pub AppliesPageByPage : Type 0
AppliesPageByPage = (m : ℕ) (leaves : List Leaf) (r : Record) → 1 ≤ m → AreLeaves m leaves → IsOp r → ChangesOnePage m leaves r

-- ---- chains

-- records applied twice in a row do what they do once
abbrev pub TwiceIsOnce : Type 0
TwiceIsOnce = (leaf : Leaf) (records : List Record) → IsTrue (ascends leaf.pairs) → all_changed records (all_changed records leaf) ≡ all_changed records leaf

-- so records may be read over a newer page of the log, in which the oldest of them stand already
abbrev pub ReadsOverNewer : Type 0
ReadsOverNewer =
    (leaf : Leaf) (old new : List Record) → IsTrue (ascends leaf.pairs) → all_changed (old ++ new) (all_changed old leaf) ≡ all_changed (old ++ new) leaf

-- and so may the links of a chain
abbrev pub ChainsReadOverNewer : Type 0
ChainsReadOverNewer =
    (leaf : Leaf) (new old : List Link) → IsTrue (ascends leaf.pairs) → told (new ++ old) (told old leaf) ≡ told (new ++ old) leaf

-- ---- frames

-- frames stand for one list of leaves only
abbrev pub StandsAsOne : Type 0
StandsAsOne = (m : ℕ) (frames : List Frame) (a b : List Leaf) → Stand m frames a → Stand m frames b → a ≡ b

-- ---- records applied as one

-- a key's page after a record is the one before it, or the new one that the record made
abbrev pub HomesStay : Type 0
HomesStay =
    (m : ℕ) (leaves : List Leaf) (r : Record) (key : Bytes) → 1 ≤ m → HasPage m leaves r → AreLeaves m leaves → IsOp r
    → ((home key (applied m leaves r)).page ≡ (home key leaves).page) ⊎ ((home key (applied m leaves r)).page ≡ length leaves + 1)

-- records whose pages are in memory find them there when their turn comes: what a record makes is in memory
abbrev pub HereTogether : Type 0
HereTogether =
    (f : Shown) (records : List Record) → 1 ≤ f.m → AreLeaves f.m f.leaves → NoneBeyond f → AllByRecursion IsOp records
    → AllByRecursion (λ r. IsHere (key_of r) f) records → AreHere f records
