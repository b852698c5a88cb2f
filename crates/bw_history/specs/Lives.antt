-- Lives of one store: each ends in a stop, and the next one goes on from what that left.

use Rattle.std.specs.Prelude.{ℕ, List, [], ◌∷◌}
use Rattle.std.specs.List.{flat_map}
use Rattle.bw_history.specs.declared.entry.Entry.{Entry}
use Rattle.bw_history.specs.Machine.{Machine, MayLeave, Steps, after, begun}

pub record Life : Type 0 where
  -- the machine as it was when it stopped
  pub last : Machine
  -- the entries that the stop left of it
  pub left : List Entry

-- this life began here, made steps, and stopped
pub record Lived (first : Machine) (life : Life) : Type 0 where
  pub count : ℕ
  pub steps : Steps count first life.last
  pub left : MayLeave life.last life.left

-- the machine that goes on from what a life left
abbrev pub next_of : Life → Machine
next_of life = begun (after life.last.start life.left)

-- these lives, one after the other, and then the steps of the one that goes on
abbrev pub Lives : Machine → List Life → Machine → Type 0
Lives first [] here = (n : ℕ) × Steps n first here
Lives first (life ∷ lives) here = Lived first life × Lives (next_of life) lives here

-- what all lives left, one after the other
abbrev pub left_of : List Life → List Entry
left_of lives = flat_map (λ life. life.left) lives
