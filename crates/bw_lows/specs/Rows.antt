-- Lows in a row, each with its page.

use Rattle.std.specs.Prelude.{ℕ, ◌≡◌, ◌<◌, ◌≤◌, suc, Bool, true, false, IsTrue, List, [], ◌∷◌, get_or, map}
use Rattle.std.specs.List.{AllByRecursion}
use Rattle.bw_record.specs.Keys.{is_below}
use Rattle.bw_lows.specs.LowHeads.{Bytes}

abbrev pub Low : Type 0
Low = Bytes × ℕ

-- beyond the last low: no bytes
abbrev pub nothing : Low
nothing = ([], 0)

abbrev pub low_at : List Low → ℕ → Bytes
low_at lows i = (get_or lows i nothing).0

abbrev pub page_at : List Low → ℕ → ℕ
page_at lows i = (get_or lows i nothing).1

-- lows without their pages
abbrev pub keys : List Low → List Bytes
keys lows = map (λ p. p.0) lows

-- no low is above a key
abbrev pub AllUpTo : Bytes → List Low → Type 0
AllUpTo key lows = AllByRecursion (λ p. is_below key p.0 ≡ false) lows

-- each low is above a key
abbrev pub AllAbove : Bytes → List Low → Type 0
AllAbove key lows = AllByRecursion (λ p. IsTrue (is_below key p.0)) lows

-- each low is below all that follow it
abbrev pub Ascends : List Low → Type 0
Ascends [] = Unit {0}
Ascends (p ∷ ps) = AllAbove p.0 ps × Ascends ps

-- of so many places, the one before the n-th is not above, and the n-th is
pub record IsBoundary (is_above : ℕ → Bool) (count n : ℕ) : Type 0 where
  pub within : n ≤ count
  pub before : (i : ℕ) → suc i ≡ n → is_above i ≡ false
  pub behind : n < count → is_above n ≡ true

-- what a search by halves keeps: the place before `from` is not above, and the place at `to` is
pub record IsBetween (is_above : ℕ → Bool) (count from to : ℕ) : Type 0 where
  pub order : from ≤ to
  pub within : to ≤ count
  pub before : (i : ℕ) → suc i ≡ from → is_above i ≡ false
  pub behind : to < count → is_above to ≡ true
