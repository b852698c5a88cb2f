-- What a refused publication leaves of its batch.

use Rattle.std.specs.Prelude.{◌≡◌, List, [], ◌∷◌, ◌++◌}
use Rattle.bw_versions.specs.declared.publisher.Unpublished.{Unpublished}
use Rattle.bw_versions.specs.declared.publisher.Unpublished.TheVariants.{Entered, Back}
use Rattle.bw_versions.specs.Batches.{BatchData}

-- it is in the book, or it comes back and the book is as before
abbrev pub WasKept : BatchData → List BatchData → List BatchData → Unpublished → Type 0
WasKept batch old new Entered = new ≡ old ++ batch ∷ []
WasKept batch old new (Back given) = (given ≡ batch) × (new ≡ old)
