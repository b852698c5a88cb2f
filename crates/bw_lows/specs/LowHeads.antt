-- Lows with their pages, and the greatest low up to a key and the least above one.

use Rattle.std.specs.Prelude.{ℕ, ◌≡◌, List, Option, Some, None, IsSome, IsTrue, false}
use Rattle.std.specs.BTreeMap.{is_at}
use Rattle.std.specs.Map.{lookup}
use Rattle.std.specs.Ordering.{nat_cmp}
use Rattle.std.specs.Cmp.Lexicographic.{slice_cmp}
use Rattle.std.specs.declared.cmp.Ordering.{Ordering}
use Rattle.bw_record.specs.Keys.{is_below}

abbrev pub Bytes : Type 0
Bytes = List ℕ

-- keys are ordered by bytes, a beginning before its continuation
abbrev pub order : Bytes → Bytes → Ordering
order = slice_cmp nat_cmp

-- the page of a low
abbrev pub page_of_low : List (Bytes × ℕ) → Bytes → Option ℕ
page_of_low lows low = lookup (is_at (order low)) lows

-- the page of the greatest low that is not above a key
pub record IsGreatestLow (lows : Bytes → Option ℕ) (key : Bytes) (page : ℕ) : Type 0 where
  pub low : Bytes
  pub its : lows low ≡ Some page
  pub upto : is_below key low ≡ false
  pub greatest : (q : Bytes) → is_below key q ≡ false → IsSome (lows q) → is_below low q ≡ false

-- each low is above a key
abbrev pub HasNoLow : (Bytes → Option ℕ) → Bytes → Type 0
HasNoLow lows key = (q : Bytes) → is_below key q ≡ false → lows q ≡ None

-- the least low that is above a key
pub record IsLeastLow (lows : Bytes → Option ℕ) (key low : Bytes) : Type 0 where
  pub its : IsSome (lows low)
  pub above : IsTrue (is_below key low)
  pub least : (q : Bytes) → IsTrue (is_below key q) → IsSome (lows q) → is_below q low ≡ false

-- no low is above a key
abbrev pub HasNoHigher : (Bytes → Option ℕ) → Bytes → Type 0
HasNoHigher lows key = (q : Bytes) → IsTrue (is_below key q) → lows q ≡ None
