-- Pages with low keys, what a record does to them, and the map that they hold. Leaves are listed by page, from 1.

use Rattle.std.specs.Prelude.{ℕ, ◌+◌, ◌-◌, ◌^◌, ◌<◌, zero, suc, ◌≡◌, nat_le, Bool, if◌then◌else◌, not, ◌&&◌, Option, None, List, [], ◌∷◌, ◌++◌, length}
use Rattle.std.specs.Prelude.{slice_get, slice_set}
use Rattle.std.specs.List.{fold, flat_map, AllByRecursion}
use Rattle.std.specs.FinMap as finite
use Rattle.bw_record.specs.Keys.{is_below}
use Rattle.bw_codec.specs.Grammar.{IsBase}
use Rattle.bw_record.specs.Record.{key_of}
use Rattle.bw_record.specs.declared.leaf.Leaf.{Leaf}
use Rattle.bw_record.specs.declared.record.Record.{Record}
use Rattle.bw_leaf.specs.Changed.{Bytes, Map, changed, changed_map, empty_leaf}
use Rattle.bw_leaf.specs.SplitRule.{lower_of, upper_of}

-- ---- the page at which a record is directed

-- whether a leaf's low is not above the key, and greater than the low of the best leaf so far
abbrev pub is_better : Bytes → Leaf → Leaf → Bool
is_better key leaf l = not (is_below key l.low) && is_below leaf.low l.low

-- the leaf with the greatest low not above the key; `leaf` is the best so far
abbrev pub best : Bytes → Leaf → List Leaf → Leaf
best key leaf [] = leaf
best key leaf (l ∷ ls) = best key (if is_better key leaf l then l else leaf) ls

-- the leaf with the greatest low not above the key
abbrev pub home : Bytes → List Leaf → Leaf
home key [] = empty_leaf
home key (l ∷ ls) = best key l ls

-- the page at which a record is directed
abbrev pub directed_at : List Leaf → Record → ℕ
directed_at leaves r = (home (key_of r) leaves).page

-- the leaf at whose page a record is directed, after the record, however many pairs it then has
abbrev pub result_of : List Leaf → Record → Leaf
result_of leaves r = changed r (home (key_of r) leaves)

-- the leaf of a page
abbrev pub leaf_at : ℕ → List Leaf → Option Leaf
leaf_at zero leaves = None
leaf_at (suc n) leaves = slice_get leaves n

-- ---- lawful leaves

-- pages are numbered one after the other
abbrev pub AreNumbered : ℕ → List Leaf → Type 0
AreNumbered n [] = Unit {0}
AreNumbered n (l ∷ ls) = (l.page ≡ n) × AreNumbered (n + 1) ls

-- there is a first page, and its low is empty
abbrev pub BeginsEmpty : List Leaf → Type 0
BeginsEmpty [] = ⊥
BeginsEmpty (l ∷ ls) = l.low ≡ []

-- two pages have two lows
abbrev pub HaveOwnLows : List Leaf → Type 0
HaveOwnLows leaves = AllByRecursion (λ a. AllByRecursion (λ b. a.low ≡ b.low → a.page ≡ b.page) leaves) leaves

-- each key of a leaf stands where a record of it is directed
abbrev pub AtHome : List Leaf → Leaf → Type 0
AtHome leaves leaf = AllByRecursion (λ p. (home p.0 leaves).page ≡ leaf.page) leaf.pairs

-- lawful leaves of at most m pairs each; `specs/Laws.antt` says the same by the ranges between lows
pub record AreLeaves (m : ℕ) (leaves : List Leaf) : Type 0 where
  pub pages : AreNumbered 1 leaves
  pub first : BeginsEmpty leaves
  pub lows : HaveOwnLows leaves
  pub each : AllByRecursion (IsBase m) leaves
  pub homes : AllByRecursion (AtHome leaves) leaves

-- ---- the split rule among all leaves

-- leaves with one of them in its place
abbrev pub with_leaf : List Leaf → Leaf → List Leaf
with_leaf leaves leaf = slice_set leaves (leaf.page - 1) leaf

-- leaves with one of them in its place, split in two if it has more than m pairs
abbrev pub placed : ℕ → List Leaf → Leaf → List Leaf
placed m leaves leaf =
    if nat_le (length leaf.pairs) m then with_leaf leaves leaf
    else with_leaf leaves (lower_of m leaf) ++ upper_of m (length leaves + 1) leaf ∷ []

-- leaves after a record
abbrev pub applied : ℕ → List Leaf → Record → List Leaf
applied m leaves r = placed m leaves (changed r (home (key_of r) leaves))

-- there is a number for a new page, if the record makes one
abbrev pub HasPage : ℕ → List Leaf → Record → Type 0
HasPage m leaves r = m < length (changed r (home (key_of r) leaves)).pairs → length leaves + 1 < 2 ^ 32

-- ---- histories

-- there is a number for each new page of records
abbrev pub HasPages : ℕ → List Leaf → List Record → Type 0
HasPages m leaves [] = Unit {0}
HasPages m leaves (r ∷ rs) = HasPage m leaves r × HasPages m (applied m leaves r) rs

-- leaves after records
abbrev pub pages : ℕ → List Leaf → List Record → List Leaf
pages m start records = fold (applied m) start records

-- all pairs of all pages
abbrev pub union : List Leaf → Map
union leaves = finite.from_entries (flat_map (λ l. l.pairs) leaves)

-- the map after records
abbrev pub plain : List Leaf → List Record → Map
plain start records = fold changed_map (union start) records
