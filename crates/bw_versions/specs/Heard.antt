-- What a reader saw and heard.

use Rattle.std.specs.Prelude.{◌≡◌, List, Option, Some, None}
use mathlib.Core.List.{IsPrefix}
use Rattle.logbook.specs.Pages.{Book}
use Rattle.bw_versions.specs.Batches.{BatchData}
use Rattle.bw_versions.specs.Reach.{Reach}

pub record Heard : Type 0 where
  -- the book of the reader's store
  pub book : Book
  pub seen : List BatchData
  -- of the lists heard since the last read the longest, of which the others are beginnings; `seen`
  -- if none was heard
  pub learnt : List BatchData

-- what a reader's seat knows begins with m
abbrev pub Beyond : Reach → Option Reach → Type 0
Beyond m None = ⊥
Beyond m (Some p) = (p.book ≡ m.book) × IsPrefix m.log p.log

-- a read that was answered: the list that was read begins with all that was seen, and with all that was learnt
pub record Reads (old new : Heard) : Type 0 where
  pub book : new.book ≡ old.book
  pub seen : IsPrefix old.seen new.seen
  pub learnt : IsPrefix old.learnt new.seen
  -- nothing is learnt that is not seen
  pub level : new.learnt ≡ new.seen
