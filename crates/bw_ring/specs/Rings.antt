-- The two rings of a writer: the first record of each group, and its others.

use Rattle.std.specs.Prelude.{ℕ, ◌+◌, List, [], ◌∷◌}
use Rattle.bw_record.specs.declared.record.Record.{Record}
use Rattle.bw_ring.specs.declared.slots.First.{First}
use Rattle.bw_ring.specs.declared.slots.First.TheVariants.{Alone, Leads}
use Rattle.bw_ring.specs.declared.slots.Rest.{Rest}
use Rattle.bw_ring.specs.declared.slots.Rest.TheVariants as rest

-- the records after the first
abbrev pub rest_of : Rest → List Record
rest_of (rest.One items) = items
rest_of (rest.Two items) = items
rest_of (rest.Three items) = items

-- how many of these first records lead others
abbrev pub leading : List First → ℕ
leading [] = 0
leading (Alone r ∷ fs) = leading fs
leading (Leads r ∷ fs) = 1 + leading fs

-- the groups of these, up to the first one whose others are not there
abbrev pub grouped : List First → List Rest → List (List Record)
grouped [] rests = []
grouped (Alone r ∷ fs) rests = (r ∷ []) ∷ grouped fs rests
grouped (Leads r ∷ fs) [] = []
grouped (Leads r ∷ fs) (x ∷ rests) = (r ∷ rest_of x) ∷ grouped fs rests
