-- What the calls leave that only ask or read, or change only the boxes: what the core's call
-- leaves, beside readers that see the same.

use Rattle.std.specs.Prelude.{ℕ, Result, List}
use Rattle.bw_record.specs.declared.leaf.Leaf.{Leaf}
use Rattle.bw_device.specs.Holding.{Holding}
use Rattle.bw_terms.specs.declared.fault.StoreFault.{StoreFault}
use Rattle.bw_core.specs.Reading as core
use Rattle.bw_store.specs.Kept.{Kept, Beside, core_of, with_versions}

-- the pages of the history
abbrev pub leaves_now : Kept → List Leaf
leaves_now s = core.leaves_now (core_of s)

-- a call that at most reads the boxes: cuts and all held bytes stay
abbrev pub HasRead : Kept → Kept → Type 0
HasRead old new = Beside core.HasRead old new

-- one spare more, which goes last
abbrev pub with_spare : Kept → Holding → Kept
with_spare s one = with_versions (core.with_spare (core_of s) one) s.versions

-- the current segment takes no more frames
abbrev pub rolled : Kept → Kept
rolled s = with_versions (core.rolled (core_of s)) s.versions

-- what a call leaves that may have had to read the live segments of these indices
abbrev pub ReadLeaves : {A : Type 0} → (ℕ → Type 0) → Kept → Result A StoreFault → Kept → Type 0
ReadLeaves reads old result new = Beside (λ o s. core.ReadLeaves reads o result s) old new

-- what a read of a page leaves, which there may not be
abbrev pub PageLeaves : (ℕ → Type 0) → Kept → Result Leaf StoreFault → Kept → Type 0
PageLeaves reads old result new = Beside (λ o s. core.PageLeaves reads o result s) old new

-- what a walk leaves, which may have had to read several pages
abbrev pub WalkLeaves : {A : Type 0} → Kept → Result A StoreFault → Kept → Type 0
WalkLeaves old result new = Beside (λ o s. core.WalkLeaves o result s) old new
