-- What is published at once, as plain data.

use Rattle.std.specs.Prelude.{List, Option}
use Rattle.std.specs.List.{flat_map}
use Rattle.bw_page.specs.Shown.{Shown}
use Rattle.bw_history.specs.declared.entry.Entry.{Entry}

-- entries, and the start leaves if the batch is the first
pub record BatchData : Type 0 where
  pub start : Option Shown
  pub entries : List Entry

-- the entries of batches, joined
abbrev pub entries_of : List BatchData → List Entry
entries_of bs = flat_map (λ b. b.entries) bs
