-- The heads of lows, taken after the bytes with which all of them begin, and what a search among
-- them finds.

use Rattle.std.specs.Prelude.{ℕ, ◌≡◌, ◌⊎◌, ◌<◌, ◌≤◌, suc, List, [], get_or, length, map, drop}
use Rattle.std.specs.List.{AllByRecursion}
use Rattle.bw_record.specs.Keys.{IsBytes}
use Rattle.bw_record.specs.Heads.{head, BeginsWith}
use Rattle.bw_lows.specs.LowHeads.{Bytes}
use Rattle.bw_lows.specs.Rows.{Low}

-- the low begins with these bytes, and each after them is a byte
abbrev pub Begins : Bytes → Bytes → Type 0
Begins shared low = BeginsWith shared low × IsBytes (drop (length shared) low)

-- the head of what stands after these bytes
abbrev pub head_behind : Bytes → Bytes → ℕ
head_behind shared low = head (drop (length shared) low)

abbrev pub IsHeadBehind : Bytes → Bytes → ℕ → Type 0
IsHeadBehind shared low h = Begins shared low × (h ≡ head_behind shared low)

-- the head of each low, taken after the bytes that all share
abbrev pub IsWholeRow : Bytes → List ℕ → List Low → Type 0
IsWholeRow shared row lows = AllByRecursion (λ p. Begins shared p.0) lows × (row ≡ map (λ p. head_behind shared p.0) lows)

-- the row beside lows: these heads, or none
abbrev pub IsRow : Bytes → List ℕ → List Low → Type 0
IsRow shared row lows = (row ≡ []) ⊎ IsWholeRow shared row lows

-- heads ascend, and may be the same
abbrev pub DoAscend : List ℕ → Type 0
DoAscend row = (i j : ℕ) → i < j → j < length row → get_or row i 0 ≤ get_or row j 0

-- what a search among heads keeps: of those from `least` on, the one before `from` is below another
-- head, and the one at `to` is not
pub record IsHeadBetween (row : List ℕ) (h least from to : ℕ) : Type 0 where
  pub least_from : least ≤ from
  pub order : from ≤ to
  pub within : to ≤ length row
  pub before : (i : ℕ) → suc i ≡ from → least < from → get_or row i 0 < h
  pub behind : to < length row → h ≤ get_or row to 0

-- of the heads from `least` on, the one before the n-th is below another head, and the n-th is not
pub record IsHeadBoundary (row : List ℕ) (h least n : ℕ) : Type 0 where
  pub order : least ≤ n
  pub within : n ≤ length row
  pub before : (i : ℕ) → suc i ≡ n → least < n → get_or row i 0 < h
  pub behind : n < length row → h ≤ get_or row n 0

-- the heads that equal another stand from `from` on and before `to`
pub record IsHeadRun (row : List ℕ) (h from to : ℕ) : Type 0 where
  pub order : from ≤ to
  pub within : to ≤ length row
  pub before : (i : ℕ) → suc i ≡ from → get_or row i 0 < h
  pub behind : to < length row → h < get_or row to 0
