-- A flush that answered Ok, and what a call leaves that takes its step after one.

use Rattle.std.specs.Prelude.{ℕ, ◌≡◌, ◌⊎◌, Bool, true, Option, Result, Ok, Err}
use Rattle.bw_terms.specs.declared.fault.StoreFault.{StoreFault}
use Rattle.bw_terms.specs.declared.fault.StoreFault.TheVariants.{NoMemory}
use Rattle.bw_core.specs.Kept.{Kept}
use Rattle.bw_core.specs.Faults.{FlushAnswers, FlushLeaves, refusal_by}

-- nothing is in the making
pub record Emptied (takes_last : Bool) (old middle : Kept) : Type 0 where
  pub number : Option ℕ
  pub answers : FlushAnswers (refusal_by takes_last old) (Ok number)
  pub leaves : FlushLeaves old (Ok number) middle

-- a flush that may take the last spare was refused, or memory was wanting after it
abbrev pub IsUnready : Kept → StoreFault → Kept → Type 0
IsUnready old fault new =
    (FlushAnswers (refusal_by true old) (Err fault) × FlushLeaves old (Err fault) new)
    ⊎ ((middle : Kept) × Emptied true old middle × (fault ≡ NoMemory) × (new ≡ middle))

-- a step after such a flush
abbrev pub Behind : {A : Type 0} → (Kept → Result A StoreFault → Kept → Type 0) → Kept → Result A StoreFault → Kept → Type 0
Behind leaves old (Ok x) new = (middle : Kept) × Emptied true old middle × leaves middle (Ok x) new
Behind leaves old (Err fault) new = IsUnready old fault new ⊎ ((middle : Kept) × Emptied true old middle × leaves middle (Err fault) new)

-- a call that looks first: it goes on where this holds, and is refused so at once where that holds
abbrev pub WhereSome : {A : Type 0} → Type 0 → Type 0 → StoreFault → (Kept → Result A StoreFault → Kept → Type 0)
    → Kept → Result A StoreFault → Kept → Type 0
WhereSome some none refusal leaves old (Ok x) new = some × leaves old (Ok x) new
WhereSome some none refusal leaves old (Err fault) new = (none × (fault ≡ refusal) × (new ≡ old)) ⊎ (some × leaves old (Err fault) new)
