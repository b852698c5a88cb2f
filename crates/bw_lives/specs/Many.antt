-- Any number of lives of one store, by the calls that were made and by what `relive` says.

use Rattle.std.specs.Prelude.{ℕ, ◌≡◌, List, [], ◌∷◌, map}
use Rattle.bw_page.specs.Leaves.{pages}
use Rattle.bw_history.specs.declared.entry.Entry.{Entry}
use Rattle.bw_history.specs.Entries.{records}
use Rattle.bw_history.specs.Laws as laws
use Rattle.bw_history.specs.Lives as history
use Rattle.bw_history.specs.Machine.{IsMachine, Steps}
use Rattle.bw_core.specs.Following.{Continues}
use Rattle.bw_core.specs.Kept.{Kept}
use Rattle.bw_core.specs.Machine.{machine_of}
use Rattle.bw_core.specs.Relived.{Relives}

-- calls, one after the other
pub record Goes (first last : Kept) : Type 0 where
  pub continues : Continues first last
  pub count : ℕ
  pub steps : Steps count (machine_of first) (machine_of last)

pub record Life : Type 0 where
  -- the store as it was when it ended, and as it was when it began again
  pub last : Kept
  pub next : Kept
  -- the entries that the end left
  pub left : List Entry

-- a life that began here: calls, an end, and another beginning
pub record Lived (first : Kept) (life : Life) : Type 0 where
  pub goes : Goes first life.last
  pub relives : Relives life.last life.next
  pub left : relives.left ≡ life.left

-- these lives, and then the calls of the one that goes on
abbrev pub Lives : Kept → List Life → Kept → Type 0
Lives first [] here = Goes first here
Lives first (life ∷ lives) here = Lived first life × Lives life.next lives here

-- a life as one of the machine
abbrev pub life_of : Life → history.Life
life_of life = record { last = machine_of life.last; left = life.left }

-- what they come to
pub record Outlives (first : Kept) (lives : List Life) (here : Kept) : Type 0 where
  -- they are lives of the machine, which loses nothing
  pub steps : history.Lives (machine_of first) (map life_of lives) (machine_of here)
  pub machine : laws.Outlives (machine_of first) (map life_of lives) (machine_of here)
  -- and page by page they are one life
  pub start : here.start ≡ pages first.filed.m first.start (records (history.left_of (map life_of lives)))
  pub pairs : here.filed.m ≡ first.filed.m

-- however many lives a store has, they are one
abbrev pub LivesLoseNothing : Type 0
LivesLoseNothing = (first : Kept) (lives : List Life) (here : Kept) → IsMachine (machine_of first) → Lives first lives here → Outlives first lives here
