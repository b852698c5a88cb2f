-- A turn goes in rounds: no lane falls behind that knew of groups when it began.

use Rattle.std.specs.Prelude.{ℕ, suc, ◌+◌, ◌<◌, ◌≤◌, ◌⊎◌, nat_le, if◌then◌else◌, IfOk, List, MatchResult, Result, length, drop}
use Rattle.bw_ring.specs.declared.lane.Lane.{Lane}
use Rattle.bw_history.specs.History.{groups_of}
use Rattle.bw_history.specs.Lanes.{known_at}
use Rattle.bw_terms.specs.declared.fault.TurnFault.{TurnFault}
use Rattle.bw_core.specs.declared.turn.Count.{Count}
use Rattle.bw_core.specs.Kept.{Kept}

-- how many groups this writer gave since
abbrev pub gave : Kept → Kept → ℕ → ℕ
gave old new writer = groups_of writer (drop (length old.entries) new.entries)

-- how many groups a lane knows of
abbrev pub known_of : List Lane → ℕ → ℕ
known_of lanes i = length (known_at lanes i)

-- as long as a lane has not given all groups of which it knew at first, no other gave two more than
-- it
abbrev pub IsFair : List Lane → Kept → Kept → Type 0
IsFair lanes old new = (i j : ℕ) → gave old new i < known_of lanes i → gave old new j ≤ gave old new i + 1

-- ---- on the way

-- so many rounds went over a lane: it gave a group in each, or all of which it knew at first; of
-- these it still knows what it did not give
pub record IsAtRound (rounds known given left : ℕ) : Type 0 where
  pub most : given ≤ rounds
  pub least : (rounds ≤ given) ⊎ (known ≤ given)
  pub stays : known ≤ given + left

-- one round more went over the lanes before this one
abbrev pub rounds_over : ℕ → ℕ → ℕ → ℕ
rounds_over rounds lane i = if nat_le lane i then rounds else suc rounds

-- since these lanes and this store so many rounds are done, and one more went over the lanes before
-- this one
pub record InRound (rounds lane : ℕ) (first_lanes : List Lane) (first : Kept) (lanes : List Lane) (s : Kept) : Type 0 where
  pub low : length first.entries ≤ length s.entries
  pub each : (i : ℕ) → IsAtRound (rounds_over rounds lane i) (known_of first_lanes i) (gave first s i) (known_of lanes i)

-- a round goes over this lane
abbrev pub GoesOver : ℕ → List Lane → Kept → Result Count TurnFault → List Lane → Kept → Type 0
GoesOver lane lanes old result new_lanes new =
    (first_lanes : List Lane) (first : Kept) (rounds : ℕ) → InRound rounds lane first_lanes first lanes old
    → MatchResult result (λ _. InRound rounds (lane + 1) first_lanes first new_lanes new) (λ _. IsFair first_lanes first new)

-- a round is done, unless so many groups were taken before
abbrev pub GoesRound : ℕ → List Lane → Kept → Result Count TurnFault → List Lane → Kept → Type 0
GoesRound limit lanes old result new_lanes new =
    (first_lanes : List Lane) (first : Kept) (rounds : ℕ) → InRound rounds 0 first_lanes first lanes old
    → IsFair first_lanes first new × IfOk result (λ n. n.groups < limit → InRound (suc rounds) 0 first_lanes first new_lanes new)
