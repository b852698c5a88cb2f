-- Rows of lows, one after the other, as one row.

use Rattle.std.specs.Prelude.{ℕ, suc, ◌≡◌, ◌<◌, ◌≤◌, List, [], ◌++◌, get_or, length, map, take, drop}
use Rattle.std.specs.List.{AllByRecursion, flat_map}
use Rattle.bw_lows.specs.LowHeads.{Bytes}
use Rattle.bw_lows.specs.Rows.{Low, nothing, AllUpTo, AllAbove, Ascends}

abbrev pub flat : List (List Low) → List Low
flat blocks = flat_map (λ b. b) blocks

abbrev pub block_at : List (List Low) → ℕ → List Low
block_at blocks i = get_or blocks i []

-- the first low of each block
abbrev pub firsts : List (List Low) → List Low
firsts blocks = map (λ b. get_or b 0 nothing) blocks

-- the lows before the n-th of a block, and those from it on
abbrev pub lows_before : List (List Low) → ℕ → ℕ → List Low
lows_before blocks i n = flat (take i blocks) ++ take n (block_at blocks i)

abbrev pub lows_behind : List (List Low) → ℕ → ℕ → List Low
lows_behind blocks i n = drop n (block_at blocks i) ++ flat (drop (suc i) blocks)

-- no block is empty
abbrev pub AreFilled : List (List Low) → Type 0
AreFilled blocks = AllByRecursion (λ b. 0 < length b) blocks

pub record AreBlocks (blocks : List (List Low)) : Type 0 where
  pub filled : AreFilled blocks
  pub ascends : Ascends (flat blocks)

-- the place at which a key parts the lows: the n-th of the i-th block
pub record IsPlace (key : Bytes) (blocks : List (List Low)) (i n : ℕ) : Type 0 where
  pub block : 0 < length blocks → i < length blocks
  pub within : n ≤ length (block_at blocks i)
  pub found : 0 < n → i < length blocks
  pub none : n ≡ 0 → AllAbove key (flat blocks)
  pub upto : AllUpTo key (lows_before blocks i n)
  pub above : AllAbove key (lows_behind blocks i n)
