-- What a contract sees of a store's versions.

use Rattle.std.specs.Prelude.{ℕ, ◌≡◌, ◌≤◌, ◌⊎◌, List, [], ◌∷◌, ◌++◌, length}
use Rattle.bw_page.specs.Shown.{Shown}
use Rattle.logbook.specs.Pages.{Book}
use Rattle.bw_history.specs.declared.entry.Entry.{Entry}
use Rattle.bw_versions.specs.Batches.{BatchData, entries_of}

pub record Versioned : Type 0 where
  -- the leaves at which the store started
  pub start : Shown
  -- the book of all its batches
  pub book : Book
  pub published : List BatchData
  -- the batches in the book, also those of which the publication was refused: the next one brings them
  pub entered : List BatchData
  -- how many readers may still be made
  pub places : ℕ

-- the history that these entries end: what the book has, and these
abbrev pub history_of : Versioned → List Entry → List Entry
history_of v fresh = entries_of v.entered ++ fresh

-- the start and all of these entries are published
pub record IsUpTo (v : Versioned) (es : List Entry) : Type 0 where
  pub begun : 1 ≤ length v.published
  pub all : v.entered ≡ v.published
  pub entries : entries_of v.published ≡ es

-- at most one batch is entered: all of these entries that the book has not, whole
abbrev pub EntersWhole : List BatchData → List BatchData → List Entry → Type 0
EntersWhole old new es =
    (new ≡ old) ⊎ ((b : BatchData) × (new ≡ old ++ b ∷ []) × (entries_of old ++ b.entries ≡ es))
