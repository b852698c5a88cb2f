-- What a store notes beside what it keeps.

use Rattle.std.specs.Prelude.{ℕ}
use Rattle.bw_care.specs.declared.tally.Tally.{Tally}

pub record Noted : Type 0 where
  -- how many entries of the history left memory
  pub gone : ℕ
  -- what was counted
  pub tally : Tally
