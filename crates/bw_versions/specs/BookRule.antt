-- The rule of the book: a word counts the batches in it.

use Rattle.std.specs.Prelude.{ℕ, ◌≡◌, ◌==◌, ◌<◌, true, List, [], ◌∷◌, ◌++◌, length, MatchBool}
use mathlib.Core.List.{IsPrefix}
use Rattle.logbook.specs.Pages.{Cell, Step, View, Book, Named}
use Rattle.bw_versions.specs.Batches.{BatchData}

-- the first word is the number of batches; the second, which no one has, stays 0
pub record IsKept (cells : List Cell) (log : List BatchData) : Type 0 where
  pub words : cells ≡ (length log, true) ∷ (0, true) ∷ []

-- the word that counts
abbrev pub head_of : Book → Named
head_of b = record { tracked = true; key = 0; book = b }

-- if the word was the number seen, the batch is added to what was seen; else more stood there,
-- which is seen now
abbrev pub Adds : Step BatchData → View BatchData ℕ → ℕ → View BatchData ℕ → Type 0
Adds s v found w = MatchBool (found == s.old) (w.0 ≡ v.0 ++ s.ask ∷ []) (length w.0 ≡ found)

abbrev pub IsLonger : List BatchData → List BatchData → Type 0
IsLonger xs ys = IsPrefix xs ys × (length xs < length ys)
