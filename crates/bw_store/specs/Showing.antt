-- What a publication leaves, and the calls that end with one.

use Rattle.std.specs.Prelude.{ℕ, Bool, false, ◌≡◌, ◌⊎◌, ◌++◌, List, [], Option, Some, Result, Ok, Err}
use Rattle.bw_versions.specs.Batches.{BatchData}
use Rattle.bw_versions.specs.Posted.{posted_of}
use Rattle.bw_versions.specs.Versioned.{EntersWhole, IsUpTo, Versioned}
use Rattle.bw_page.specs.Shown.{Shown}
use Rattle.bw_ring.specs.declared.lane.Lane.{Lane}
use Rattle.bw_terms.specs.declared.fault.StoreFault.{StoreFault}
use Rattle.bw_terms.specs.declared.fault.StoreFault.TheVariants.{NoMemory}
use Rattle.bw_history.specs.History.{upto}
use Rattle.bw_core.specs.Faults.{FlushAnswers}
use Rattle.bw_core.specs.Faults as faults
use Rattle.bw_core.specs.Emptied as core
use Rattle.bw_core.specs.Settled as core_settled
use Rattle.bw_store.specs.Following.{RefusedAt, TookSome}
use Rattle.bw_store.specs.Kept.{Kept, Beside, core_of, start_of, with_batches}

-- before the first publication: so many readers may be made, and they start from these leaves
pub record AreUnseen (leaves : Shown) (readers : ℕ) (v : Versioned) : Type 0 where
  pub start : v.start ≡ leaves
  pub published : v.published ≡ []
  pub entered : v.entered ≡ []
  pub places : v.places ≡ readers

-- so many readers may still be made
abbrev pub with_places : Kept → ℕ → Kept
with_places s places = record s { versions = record s.versions { places = places } }

-- ---- the core's words

abbrev pub flush_refusal : Kept → Option StoreFault
flush_refusal s = faults.flush_refusal (core_of s)

abbrev pub FlushLeaves : Kept → Result (Option ℕ) StoreFault → Kept → Type 0
FlushLeaves old result new = Beside (λ o s. faults.FlushLeaves o result s) old new

abbrev pub Emptied : Bool → Kept → Kept → Type 0
Emptied takes_last old new = Beside (core.Emptied takes_last) old new

abbrev pub IsAllCut : Kept → Type 0
IsAllCut s = core_settled.IsAllCut (core_of s)

abbrev pub IsSettled : Kept → Type 0
IsSettled s = core_settled.IsSettled (core_of s)

-- ---- a publication

-- readers have the start, and the entries up to the durable cut
abbrev pub IsLevel : Kept → Type 0
IsLevel s = IsUpTo s.versions (upto s.cuts s.entries s.durable)

-- the start and the entries up to the durable cut are published, all at once; nothing is if readers
-- have them already
pub record Shows (old new : Kept) : Type 0 where
  pub is : new ≡ with_batches old new.versions.published new.versions.entered
  pub shown : posted_of new.versions.published ≡ Some (record { start = start_of old; entries = upto old.cuts old.entries old.durable })
  pub more : List BatchData
  pub grows : new.versions.published ≡ old.versions.published ++ more
  pub level : IsLevel new
  -- what was not entered before is one batch
  pub whole : EntersWhole old.versions.entered new.versions.entered (upto old.cuts old.entries old.durable)
  pub idle : IsLevel old → new ≡ old

-- a publication was refused, when there was something to publish: what is published stays
pub record Hides (old new : Kept) : Type 0 where
  pub is : new ≡ with_batches old old.versions.published new.versions.entered
  pub whole : EntersWhole old.versions.entered new.versions.entered (upto old.cuts old.entries old.durable)
  pub fresh : IsLevel old → ⊥

-- a flush, and then a publication; if that finds no memory the frame is durable
abbrev pub FlushShows : Kept → Result (Option ℕ) StoreFault → Kept → Type 0
FlushShows old (Ok number) new = (middle : Kept) × FlushLeaves old (Ok number) middle × Shows middle new
FlushShows old (Err fault) new =
    FlushLeaves old (Err fault) new ⊎ ((fault ≡ NoMemory) × ((middle : Kept) × Emptied false old middle × Hides middle new))

-- records were taken one after the other, and then the flush was refused
abbrev pub FlushStops : Kept → StoreFault → Kept → Type 0
FlushStops old fault new =
    (middle : Kept) × TookSome old middle × FlushAnswers (flush_refusal middle) (Err fault) × FlushLeaves middle (Err fault) new

-- why a settlement was refused: a record was, or the flush after all of them, or the publication
abbrev pub SettleRefuses : Kept → List Lane → (ℕ → Bool) → StoreFault → Kept → Type 0
SettleRefuses old lanes away fault new =
    RefusedAt old lanes away fault new
    ⊎ (FlushStops old fault new
    ⊎ ((fault ≡ NoMemory) × ((middle : Kept) × TookSome old middle × ((flushed : Kept) × Emptied false middle flushed × Hides flushed new))))

-- records were taken one after the other, then flushed, then published
abbrev pub Settles : Kept → Kept → Type 0
Settles old new =
    (middle : Kept) × TookSome old middle × ((flushed : Kept) × Emptied false middle flushed × Shows flushed new)

-- a call, and then a publication; if that finds no memory the call is done
abbrev pub ThenShows : {A : Type 0} → (Result A StoreFault → Kept → Type 0) → Result A StoreFault → Kept → Type 0
ThenShows leaves (Ok x) new = (middle : Kept) × leaves (Ok x) middle × Shows middle new
ThenShows {A} leaves (Err fault) new =
    leaves (Err fault) new ⊎ ((fault ≡ NoMemory) × ((middle : Kept) × ((x : A) × leaves (Ok x) middle) × Hides middle new))
