-- Calls that take nothing back, one after the other.

use Rattle.std.proofs.Common.{◌≡◌, ◌∙◌, ℕ, Option, Result, refl, subst, sym}
use Rattle.bw_device.specs.Holding.{Holding}
use Rattle.bw_terms.specs.declared.fault.StoreFault.{StoreFault}
use Rattle.bw_core.specs.declared.store.Core.{Core}
use Rattle.bw_core.specs.Faults.{FlushLeaves}
use Rattle.bw_core.specs.Following.{Follows, HasBoxes}
use Rattle.bw_core.specs.Going.{GoesOn, IsQuiet, KeepsIntake}
use Rattle.bw_core.specs.Kept.{Kept}
use Rattle.bw_core.specs.Kept as kept
use Rattle.bw_core.specs.Machine.{KeepsAs, RunsAs}
use Rattle.bw_core.specs.Views.{kept_by, noted_of, IsSound}
use Rattle.bw_core.proofs.FollowMore.{follow_then, follows_as, follows_left}
use Rattle.bw_core.proofs.Machines.{may_leave}

-- after its steps a store is sound, and so each cut stands, and what a stop leaves is found
pub runs_as : {A : Type 0} (old : Kept) (result : Result A StoreFault) (new : Kept) → kept.IsSound new → KeepsAs result old new → RunsAs old result new
runs_as old result new sound steps = record { each_cut = sound.stands; steps = steps; may_leave = may_leave new sound }

module _ {I : Type 0} {H : I → Type 0} where
  -- nothing was done
  pub goes_nowhere : (s : Core I H) (v : (i : I) × H i → Holding) → IsSound s v → GoesOn s s v
  goes_nowhere s v sound =
      let turned = follows_as (kept_by s v) (kept_by s v) refl in
      record { sound = sound; follows = turned.follows; boxes = turned.boxes; noted = refl }

  -- a flush
  pub goes_flushed : (old new : Core I H) (v : (i : I) × H i → Holding) (result : Result (Option ℕ) StoreFault) → KeepsIntake old new v
      → FlushLeaves (kept_by old v) result (kept_by new v) → GoesOn old new v
  goes_flushed old new v result keeps left =
      let turned = follows_left (kept_by old v) (kept_by new v) result left in
      record { sound = keeps.sound; follows = turned.follows; boxes = turned.boxes; noted = keeps.noted }

  -- and then what it keeps and notes is as it was
  pub goes_same : (old middle new : Core I H) (v : (i : I) × H i → Holding) → GoesOn old middle v → kept_by new v ≡ kept_by middle v
      → noted_of new ≡ noted_of middle → GoesOn old new v
  goes_same old middle new v goes same noted = record {
    sound = subst kept.IsSound (sym same) goes.sound;
    follows = subst (λ (k : Kept). Follows (kept_by old v) k) (sym same) goes.follows;
    boxes = subst (λ (k : Kept). HasBoxes (kept_by old v) k) (sym same) goes.boxes;
    noted = noted ∙ goes.noted;
  }

  -- and then another call
  pub goes_then : (old middle new : Core I H) (v : (i : I) × H i → Holding) → GoesOn old middle v → IsQuiet middle new v
      → Follows (kept_by middle v) (kept_by new v) × HasBoxes (kept_by middle v) (kept_by new v) → GoesOn old new v
  goes_then old middle new v goes quiet more = record {
    sound = quiet.sound;
    follows = follow_then (kept_by old v) (kept_by middle v) (kept_by new v) goes.follows more.0;
    boxes = record { same = more.1.same ∙ goes.boxes.same };
    noted = quiet.noted ∙ goes.noted;
  }
