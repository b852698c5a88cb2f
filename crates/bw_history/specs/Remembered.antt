-- What a contract sees of a history of which a beginning may have left memory.

use Rattle.std.specs.Prelude.{ℕ, ◌≤◌, List}
use Rattle.bw_history.specs.declared.entry.Entry.{Entry}

pub record Remembered : Type 0 where
  -- all entries, those that left memory first
  pub items : List Entry
  -- how many left it
  pub gone : ℕ
  -- how many more there is room for, in memory and once they leave it
  pub room : ℕ
  pub later : ℕ

-- so many more entries take no memory, now or when they leave it
abbrev pub HasRoom : ℕ → Remembered → Type 0
HasRoom n h = (n ≤ h.room) × (n ≤ h.later)
