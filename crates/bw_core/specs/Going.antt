-- What calls leave alike, whatever they do.

use Rattle.std.specs.Prelude.{◌≡◌}
use Rattle.bw_device.specs.Holding.{Holding}
use Rattle.bw_core.specs.declared.store.Core.{Core}
use Rattle.bw_core.specs.Following.{Follows, HasBoxes}
use Rattle.bw_core.specs.Views.{kept_by, noted_of, IsSound}

module _ {I : Type 0} {H : I → Type 0} where
  -- the store stays sound, no segment is given up, each box has its place, and nothing is noted
  pub record GoesOn (old new : Core I H) (v : (i : I) × H i → Holding) : Type 0 where
    pub sound : IsSound new v
    pub follows : Follows (kept_by old v) (kept_by new v)
    pub boxes : HasBoxes (kept_by old v) (kept_by new v)
    pub noted : noted_of new ≡ noted_of old

  -- the store stays sound, and nothing is noted
  pub record IsQuiet (old new : Core I H) (v : (i : I) × H i → Holding) : Type 0 where
    pub sound : IsSound new v
    pub noted : noted_of new ≡ noted_of old

  -- the store stays sound, nothing is noted, and its lanes and its history are as they were
  pub record KeepsIntake (old new : Core I H) (v : (i : I) × H i → Holding) : Type 0 where
    pub sound : IsSound new v
    pub intake : new.intake ≡ old.intake
    pub noted : noted_of new ≡ noted_of old
