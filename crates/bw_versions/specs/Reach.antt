-- What a contract sees of a front.

use Rattle.std.specs.Prelude.{List}
use Rattle.logbook.specs.Pages.{Book}
use Rattle.bw_versions.specs.Batches.{BatchData}

-- a book, and a beginning of the batches in it
pub record Reach : Type 0 where
  pub book : Book
  pub log : List BatchData
