-- A list of batches, as a whole.

use Rattle.std.specs.Prelude.{◌≡◌, List, ◌∷◌, Some}
use Rattle.bw_page.specs.Shown.{Shown}
use Rattle.bw_versions.specs.Batches.{BatchData, entries_of}
use Rattle.bw_versions.specs.Posted.{posted_of}

-- the start is the first batch's, and the entries are those of all batches, joined
abbrev pub AreJoined : Type 0
AreJoined = (b : BatchData) (bs : List BatchData) (start : Shown) → b.start ≡ Some start
    → posted_of (b ∷ bs) ≡ Some (record { start = start; entries = entries_of (b ∷ bs) })
