-- The pairs of pages in the order of their keys, from a key back.

use Rattle.std.specs.Prelude.{◌≡◌, ◌≤◌, ◌+◌, ℕ, suc, false, IsTrue, if◌then◌else◌, Option, Some, None, List, [], ◌∷◌, length, Result, Ok, Err}
use Rattle.std.specs.List.{AllByRecursion}
use Rattle.std.specs.Option.{IsSomeAnd}
use Rattle.std.specs.FinMap as finite
use Rattle.std.specs.FinMap.Entries.{find}
use Rattle.bw_record.specs.Keys.{is_below, IsBytes}
use Rattle.bw_record.specs.declared.leaf.Leaf.{Leaf}
use Rattle.bw_leaf.specs.Changed.{Bytes, Pairs, Map, order}
use Rattle.bw_page.specs.Leaves.{home, leaf_at}
use Rattle.bw_walks.specs.declared.back.Reach.{Reach}
use Rattle.bw_walks.specs.declared.back.Reach.TheVariants.{With, Without}
use Rattle.bw_walks.specs.declared.back.Look.{Look}
use Rattle.bw_walks.specs.declared.back.Look.TheVariants.{Found, Before, End}

-- ---- the greatest of some keys

-- a key that is meant has this value, and no greater one that is meant has any
pub record IsGreatestPair (value_of : Bytes → Option Bytes) (Meant : Bytes → Type 0) (pair : Bytes × Bytes) : Type 0 where
  pub its : value_of pair.0 ≡ Some pair.1
  pub meant : Meant pair.0
  pub none : (q : Bytes) → Meant q → IsTrue (is_below pair.0 q) → value_of q ≡ None

-- the pair with the greatest key that is meant, if one of them has a value
abbrev pub IsGreatest : (Bytes → Option Bytes) → (Bytes → Type 0) → Option (Bytes × Bytes) → Type 0
IsGreatest value_of Meant None = (q : Bytes) → Meant q → value_of q ≡ None
IsGreatest value_of Meant (Some pair) = IsGreatestPair value_of Meant pair

-- the pair of a map with the greatest key at or below this one, if there is one
abbrev pub IsLast : Map → Bytes → Option (Bytes × Bytes) → Type 0
IsLast map key pair = IsGreatest (λ q. finite.get map q) (λ q. is_below key q ≡ false) pair

-- the pair of a map with the greatest key below this one, if there is one
abbrev pub IsLastBelow : Map → Bytes → Option (Bytes × Bytes) → Type 0
IsLastBelow map key pair = IsGreatest (λ q. finite.get map q) (λ q. IsTrue (is_below q key)) pair

-- ---- a page

-- a walk back from a key may answer this one
abbrev pub IsInReach : Reach → Bytes → Bytes → Type 0
IsInReach With key q = is_below key q ≡ false
IsInReach Without key q = IsTrue (is_below q key)

-- how many pairs of a page are in reach, if the search for the key ended so
abbrev pub count_of : Result ℕ ℕ → Reach → ℕ
count_of (Ok at) With = suc at
count_of (Ok at) Without = at
count_of (Err at) reach = at

-- the pair of a page with the greatest key in reach, if there is one
abbrev pub IsLastOn : Reach → Bytes → Pairs → Option (Bytes × Bytes) → Type 0
IsLastOn reach key pairs pair = IsGreatest (λ q. find order q pairs) (IsInReach reach key) pair

-- what a look at a page says: its last pair in reach; or that there is none, and the page's low
abbrev pub TellsOn : Reach → Bytes → Leaf → Look → Type 0
TellsOn reach key leaf (Found pair) = IsLastOn reach key leaf.pairs (Some pair)
TellsOn reach key leaf (Before low) = IsLastOn reach key leaf.pairs None × (low ≡ leaf.low)
TellsOn reach key leaf End = IsLastOn reach key leaf.pairs None × (leaf.low ≡ [])

abbrev pub TellsOfPage : Reach → Bytes → ℕ → List Leaf → Look → Type 0
TellsOfPage reach key page leaves look = IsSomeAnd (leaf_at page leaves) (λ leaf. TellsOn reach key leaf look)

-- ---- the page before

-- no list of at most 128 bytes stands between two keys
pub record IsNextBelow (key before : Bytes) : Type 0 where
  pub below : IsTrue (is_below before key)
  pub last : (q : Bytes) → IsBytes q → length q ≤ 128 → IsTrue (is_below q key) → is_below before q ≡ false

-- a leaf's low is below this one, and is the greatest such low
pub record IsLeafBefore (leaves : List Leaf) (low : Bytes) (leaf : Leaf) : Type 0 where
  pub below : IsTrue (is_below leaf.low low)
  pub greatest : AllByRecursion (λ l. IsTrue (is_below l.low low) → is_below leaf.low l.low ≡ false) leaves

-- the page with the greatest low below this one
abbrev pub IsPageBefore : List Leaf → Bytes → ℕ → Type 0
IsPageBefore leaves low page = IsSomeAnd (leaf_at page leaves) (IsLeafBefore leaves low)

-- ---- a walk

-- a walk back has come to this leaf: no key in reach that belongs to a page with a greater low has a value
abbrev pub HasComeTo : Map → List Leaf → Reach → Bytes → Leaf → Type 0
HasComeTo map leaves reach key leaf =
    (q : Bytes) → IsInReach reach key q → IsTrue (is_below leaf.low (home q leaves).low) → finite.get map q ≡ None

-- a walk back has come to the leaf of this page, which is there
abbrev pub HasComeBack : Map → List Leaf → Reach → Bytes → ℕ → Type 0
HasComeBack map leaves reach key page = IsSomeAnd (leaf_at page leaves) (HasComeTo map leaves reach key)

-- how many pages have their low below a key
abbrev pub behind : Bytes → List Leaf → ℕ
behind key [] = 0
behind key (l ∷ ls) = (if is_below l.low key then 1 else 0) + behind key ls

-- how many pages have their low below that of a leaf
abbrev pub behind_leaf : Option Leaf → List Leaf → ℕ
behind_leaf None leaves = 0
behind_leaf (Some leaf) leaves = behind leaf.low leaves
