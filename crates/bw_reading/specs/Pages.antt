-- The pages that segments stand for.

use Rattle.std.specs.Prelude.{◌≡◌, ◌⊎◌, Ok, Err, List, [], ◌∷◌}
use Rattle.bw_record.specs.declared.leaf.Leaf.{Leaf}
use Rattle.bw_device.specs.Holding.{Holding}
use Rattle.bw_leaf.specs.Changed.{empty_leaf}
use Rattle.bw_care.specs.Recovery.{Finding, recovery}
use Rattle.bw_lines.specs.declared.cause.RecoverCause.TheVariants.{Empty}

-- recovery finds these pages in the boxes
pub record AreFound (boxes : List Holding) (leaves : List Leaf) : Type 0 where
  pub finding : Finding
  pub found : recovery boxes ≡ Ok finding
  pub pages : leaves ≡ finding.leaves

-- no frame in the boxes is whole, and there is one page without a pair
pub record AreNone (boxes : List Holding) (leaves : List Leaf) : Type 0 where
  pub empty : recovery boxes ≡ Err Empty
  pub one : leaves ≡ empty_leaf ∷ []

-- the pages for which boxes stand
abbrev pub ArePagesOf : List Holding → List Leaf → Type 0
ArePagesOf boxes leaves = AreFound boxes leaves ⊎ AreNone boxes leaves
