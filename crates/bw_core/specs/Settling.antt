-- What a settlement leaves: records taken one after the other, and a flush after them.

use Rattle.std.specs.Prelude.{ℕ, Bool, false, ◌⊎◌, List, Err}
use Rattle.bw_terms.specs.declared.fault.StoreFault.{StoreFault}
use Rattle.bw_core.specs.Kept.{Kept}
use Rattle.bw_ring.specs.declared.lane.Lane.{Lane}
use Rattle.bw_core.specs.Faults.{FlushAnswers, FlushLeaves, flush_refusal}
use Rattle.bw_core.specs.Emptied.{Emptied}
use Rattle.bw_core.specs.Following.{RefusedAt, TookSome}

-- records were taken one after the other, and then the flush was refused
abbrev pub FlushStops : Kept → StoreFault → Kept → Type 0
FlushStops old fault new =
    (middle : Kept) × TookSome old middle × FlushAnswers (flush_refusal middle) (Err fault) × FlushLeaves middle (Err fault) new

-- why a settlement was refused: a record was, or the flush after all of them
abbrev pub SettleRefuses : Kept → List Lane → (ℕ → Bool) → StoreFault → Kept → Type 0
SettleRefuses old lanes away fault new = RefusedAt old lanes away fault new ⊎ FlushStops old fault new

-- records were taken one after the other, then flushed
abbrev pub Settles : Kept → Kept → Type 0
Settles old new = (middle : Kept) × TookSome old middle × Emptied false middle new
