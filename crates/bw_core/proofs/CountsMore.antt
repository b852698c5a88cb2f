-- What a call counts that gives segments up.

use Rattle.std.proofs.Common.{◌≡◌, ℕ, Bool, true, false, Result, inr, Ok, Err, refl}
use Rattle.std.specs.Prelude.{is_ok}
use Rattle.bw_care.specs.Tallies.{counted_by}
use Rattle.bw_care.specs.declared.tally.Tally.{Tally}
use Rattle.bw_terms.specs.declared.fault.StoreFault.{StoreFault}
use Rattle.bw_core.specs.Counting.{counted_gone, CountsStep}
use Rattle.bw_core.specs.Emptied.{Emptied}
use Rattle.bw_core.specs.Kept.{Kept}

module _ {A : Type 0} (gone : Kept → ℕ) (leaves : Kept → Result A StoreFault → Kept → Type 0) where
  pub step_counts : (old middle new : Kept) (r : Result A StoreFault) (t u : Tally) → Emptied true old middle → leaves middle r new
      → u ≡ counted_gone (gone middle) t middle (is_ok r) new → CountsStep gone leaves old t r new u
  step_counts old middle new (Ok x) t u empty moved is = (middle, empty, moved, is)
  step_counts old middle new (Err fault) t u empty moved is = inr (middle, empty, moved, is)

-- how many pages there were at the start stays as it was
pub pages_kept : (t : Tally) (done : Bool) (frames before after gone count : ℕ) → (counted_by t done frames before after gone count).pages ≡ t.pages
pages_kept t true frames before after gone count = refl
pages_kept t false frames before after gone count = refl
