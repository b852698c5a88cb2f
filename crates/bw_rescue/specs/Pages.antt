-- The pages of a damaged log, read forwards over the frames that are whole.

use Rattle.std.specs.Prelude.{ℕ, ◌+◌, ◌-◌, ◌≡◌, ◌≤◌, ◌⊎◌, ◌&&◌, nat_lt, if◌then◌else◌, Option, Some, None, List, [], ◌∷◌, ◌++◌, length}
use Rattle.std.specs.BTreeMap as tree
use Rattle.std.specs.Ordering.{nat_cmp}
use Rattle.bw_record.specs.declared.leaf.Leaf.{Leaf}
use Rattle.bw_record.specs.declared.block.Block.{Block}
use Rattle.bw_leaf.specs.Changed.{all_changed}
use Rattle.bw_leaf.specs.Forwards.{kept_below, content}
use Rattle.bw_lines.specs.Lawful.{contents}
use Rattle.bw_rescue.specs.declared.lost.Loss.{Loss}
use Rattle.bw_rescue.specs.declared.lost.Loss.TheVariants.{Frames}
use Rattle.bw_rescue.specs.declared.pages.Gap.{Gap}
use Rattle.bw_rescue.specs.declared.pages.Line.{Line}
use Rattle.bw_rescue.specs.declared.pages.Change.{Change}
use Rattle.bw_rescue.specs.declared.pages.Change.TheVariants.{Records, Split}

-- a page after a change
abbrev pub change_of : Change → Leaf → Leaf
change_of (Records ops) leaf = all_changed ops.now leaf
change_of (Split separator) leaf = kept_below separator.now leaf

-- a line after a change: if no block is missing, none was before, and the page is changed
abbrev pub IsChanged : Change → Option Line → Option Line → Type 0
IsChanged change None new = new ≡ None
IsChanged change (Some line) None = ⊥
IsChanged change (Some line) (Some new) = new.lost ≡ None → (line.lost ≡ None) × (new.draft ≡ change_of change line.draft)

-- a page is what blocks make it, read forwards, unless one is missing; without a line it was never
-- set
abbrev pub IsPageOf : List Block → ℕ → Option Line → Type 0
IsPageOf done p None = content p done ≡ None
IsPageOf done p (Some line) = line.lost ≡ None → content p done ≡ Some line.draft

-- these blocks were read, and no other
abbrev pub AreRead : List Block → tree.BTreeMap ℕ Line → Type 0
AreRead done lines = (p : ℕ) → IsPageOf done p (tree.get nat_cmp lines p)

-- ---- what is brought back

-- losses are added, or else this holds
abbrev pub TellsUnless : Type 0 → List Loss → List Loss → Type 0
TellsUnless P old new = (length old ≤ length new) × (length new ≡ length old → P)

-- the pages of these blocks from 1 on, as many as there are lines
abbrev pub AreAll : List Block → tree.BTreeMap ℕ Line → List Leaf → Type 0
AreAll done lines leaves = leaves ≡ contents done 1 (length lines.entries)

-- ---- frames that are missing

-- all numbers between the last frame that was read and the next one, if there are any; none before
-- the first frame, while the last is 0
abbrev pub gap_before : ℕ → ℕ → List Gap
gap_before last number = if nat_lt 0 last && nat_lt (last + 1) number then record { first = last + 1; last = number - 1 } ∷ [] else []

-- all gaps between frames of these numbers, after a last one
abbrev pub gaps_of : ℕ → List ℕ → List Gap
gaps_of last [] = []
gaps_of last (number ∷ numbers) = gap_before last number ++ gaps_of number numbers

-- a number stands in one of these gaps
abbrev pub IsAmong : ℕ → List Gap → Type 0
IsAmong number [] = ⊥
IsAmong number (gap ∷ gaps) = ((gap.first ≤ number) × (number ≤ gap.last)) ⊎ IsAmong number gaps

abbrev pub told_gap : Gap → Loss
told_gap gap = Frames gap.first gap.last
