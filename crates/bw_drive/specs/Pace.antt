-- How the store is tended while writers put, turn by turn.

use Rattle.std.specs.Prelude.{ℕ, zero, suc, ◌+◌, ◌%◌, ◌≡◌, ◌==◌, ◌<◌, ◌≤◌, ◌⊎◌, Bool, true, false, Option, List, Ok, Err, length}
use Rattle.bw_care.specs.declared.cleaner.Cleaned.{Cleaned}
use Rattle.bw_ring.specs.declared.lane.Lane.{Lane}
use Rattle.bw_terms.specs.declared.fault.StoreFault.{StoreFault}
use Rattle.bw_store.specs.Kept.{Kept}
use Rattle.bw_store.specs.Following.{TookInTurn, RefusedAt, groups_since}
use Rattle.bw_core.specs.Faults.{FlushAnswers}
use Rattle.bw_store.specs.Renewing.{CleanShows}
use Rattle.bw_store.specs.Showing.{FlushShows, flush_refusal}
use Rattle.bw_drive.specs.declared.plan.Plan.{Plan}

-- a turn takes at most so many groups
pub record TurnedOnce (limit : ℕ) (old new : Kept) : Type 0 where
  pub records : ℕ
  pub took : TookInTurn records old new
  pub within : groups_since old new ≤ limit

-- a flush is due after each so many turns, which are counted from 0
abbrev pub is_due : ℕ → ℕ → Bool
is_due every turn = (turn + 1) % every == 0

abbrev pub Flushes : Kept → Kept → Type 0
Flushes old new =
    (number : Option ℕ) × FlushAnswers (flush_refusal old) (Ok number) × FlushShows old (Ok number) new

-- a cleaning is due after a flush if so many segments are live, or never
abbrev pub IsCleanDue : ℕ → Kept → Type 0
IsCleanDue clean_at s = (1 ≤ clean_at) × (clean_at ≤ length s.log.live)

abbrev pub MayClean : ℕ → Kept → Kept → Type 0
MayClean clean_at old new =
    ((IsCleanDue clean_at old → ⊥) × (new ≡ old))
    ⊎ (IsCleanDue clean_at old × ((cleaned : Cleaned) × CleanShows old (Ok cleaned) new))

-- a flush, and the cleaning that is due after it
abbrev pub FlushesAndCleans : ℕ → Kept → Kept → Type 0
FlushesAndCleans clean_at old new = (flushed : Kept) × Flushes old flushed × MayClean clean_at flushed new

-- what follows a turn
abbrev pub Tends : Bool → ℕ → Kept → Kept → Type 0
Tends false clean_at old new = new ≡ old
Tends true clean_at old new = FlushesAndCleans clean_at old new

-- so many turns one after the other, each with what follows it
abbrev pub Paces : Plan → ℕ → Kept → Kept → Type 0
Paces plan zero old new = new ≡ old
Paces plan (suc n) old new =
    (before : Kept) × Paces plan n old before
    × ((turned : Kept) × TurnedOnce plan.limit before turned
    × Tends (is_due plan.flush_every n) plan.clean_at turned new)

-- ---- the first refusal

-- the flush was refused, or the cleaning after it
abbrev pub FlushOrCleanStops : ℕ → Kept → StoreFault → Kept → Type 0
FlushOrCleanStops clean_at old cause new =
    (FlushAnswers (flush_refusal old) (Err cause) × FlushShows old (Err cause) new)
    ⊎ ((flushed : Kept) × Flushes old flushed × IsCleanDue clean_at flushed × CleanShows flushed (Err cause) new)

-- a turn was refused, or what is due after it was
abbrev pub TurnStops : Plan → Bool → Kept → StoreFault → Kept → Type 0
TurnStops plan due old cause new =
    ((lanes : List Lane) × (away : ℕ → Bool) × RefusedAt old lanes away cause new)
    ⊎ ((due ≡ true) × ((turned : Kept) × TurnedOnce plan.limit old turned × FlushOrCleanStops plan.clean_at turned cause new))

-- so many turns went, and the one after them was refused
pub record PaceStops (plan : Plan) (most : ℕ) (old : Kept) (cause : StoreFault) (new : Kept) : Type 0 where
  pub turns : ℕ
  pub few : turns < most
  pub before : Kept
  pub paced : Paces plan turns old before
  pub refused : TurnStops plan (is_due plan.flush_every turns) before cause new
