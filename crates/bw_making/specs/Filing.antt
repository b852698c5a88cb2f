-- The blocks of one record, as they are put into the frame in the making, and whether a Delta has room there.

use Rattle.std.specs.Prelude.{ℕ, ◌≡◌, ◌≤◌, List, [], ◌∷◌, length}
use Rattle.bw_record.specs.declared.record.Record.{Record}
use Rattle.bw_record.specs.declared.block.Place.{Place}
use Rattle.bw_record.specs.declared.block.Block.{Block}
use Rattle.bw_record.specs.declared.block.Block.TheVariants.{Delta, Base, Split}
use Rattle.bw_buffer.specs.Filling.{Filling, size_of, with_all}

-- a Delta of one record of a page
abbrev pub IsDeltaOf : ℕ → Block → Type 0
IsDeltaOf page (Delta p back ops) = (p ≡ page) × (length ops ≡ 1)
IsDeltaOf page (Base leaf) = ⊥
IsDeltaOf page (Split p back upper) = ⊥

abbrev pub IsSplit : Block → Type 0
IsSplit (Delta p back ops) = ⊥
IsSplit (Base leaf) = ⊥
IsSplit (Split p back upper) = Unit {0}

-- a Delta of a page, and a Split after it or nothing
abbrev pub AreOne : ℕ → List Block → Type 0
AreOne page [] = ⊥
AreOne page (b ∷ []) = IsDeltaOf page b
AreOne page (b ∷ c ∷ []) = IsDeltaOf page b × IsSplit c
AreOne page (b ∷ c ∷ d ∷ bs) = ⊥

-- a Delta of this one record of a page fits, whatever block of the page is before it
abbrev pub FitsDelta : Filling → ℕ → Record → Type 0
FitsDelta making page item = (back : Place) → size_of (with_all making (Delta page back (item ∷ []) ∷ [])) ≤ making.limit
