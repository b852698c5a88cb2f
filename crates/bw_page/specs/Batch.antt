-- Records applied as one.

use Rattle.std.specs.Prelude.{ℕ, ◌+◌, ◌<◌, ◌≡◌, nat_le, if◌then◌else◌, false, Option, None, Some, List, [], ◌∷◌, take, length, slice_get}
use Rattle.bw_record.specs.Record.{key_of}
use Rattle.bw_record.specs.declared.leaf.Leaf.{Leaf}
use Rattle.bw_record.specs.declared.record.Record.{Record}
use Rattle.bw_page.specs.declared.leaves.batch.Step.{Step}
use Rattle.bw_page.specs.Leaves.{directed_at, result_of, HasPage}
use Rattle.bw_leaf.specs.SplitRule.{upper_of}
use Rattle.bw_page.specs.Shown.{Shown, IsSpent, IsHere, is_evicted_page, after_record, run}

-- one of the records, after those before it, makes a page for which there is no number
abbrev pub SomeIsSpent : Shown → List Record → Type 0
SomeIsSpent f records =
    (k : ℕ) × (r : Record) × (slice_get records k ≡ Some r) × IsSpent (run f (take k records)) r

-- the page of each record is in memory when its turn comes
abbrev pub AreHere : Shown → List Record → Type 0
AreHere f [] = Unit {0}
AreHere f (r ∷ rs) = IsHere (key_of r) f × (HasPage f.m f.leaves r → AreHere (after_record f r) rs)

-- no page is evicted that there is not: what a record makes is in memory
abbrev pub NoneBeyond : Shown → Type 0
NoneBeyond f = (p : ℕ) → length f.leaves < p → is_evicted_page p f ≡ false

-- ---- what records do, one after the other

-- the upper part of a leaf that has too many pairs
abbrev pub upper_if : ℕ → ℕ → Leaf → Option Leaf
upper_if m page leaf = if nat_le (length leaf.pairs) m then None else Some (upper_of m page leaf)

-- the page at which a record is directed, and the new page that it makes, if it does
abbrev pub step_of : Shown → Record → Step
step_of f r = record { page = directed_at f.leaves r; upper = upper_if f.m (length f.leaves + 1) (result_of f.leaves r) }

abbrev pub steps_of : Shown → List Record → List Step
steps_of f [] = []
steps_of f (r ∷ rs) = step_of f r ∷ steps_of (after_record f r) rs
