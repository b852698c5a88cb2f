-- A walk over a segment, frame by frame.

use Rattle.std.specs.Prelude.{ℕ, ◌≡◌, Bool, true, false, if◌then◌else◌, [], ◌∷◌, ◌++◌}
use Rattle.bw_rescue.specs.declared.held.Walk.{Walk}
use Rattle.bw_rescue.specs.declared.held.Worth.{Worth}
use Rattle.bw_rescue.specs.declared.held.Worth.TheVariants.{Sound, Damaged, Unchecked}
use Rattle.bw_rescue.specs.Hurt.{cuts}

abbrev pub is_damaged : Worth → Bool
is_damaged Sound = false
is_damaged Damaged = true
is_damaged Unchecked = false

-- it goes on to the end of a frame, which is taken if it is not damaged
pub record GoesTo (number end : ℕ) (damaged : Bool) (old new : Walk) : Type 0 where
  pub at : new.at ≡ end
  pub cuts : cuts new.pieces ≡ cuts old.pieces
  pub spots : new.spots.items ≡ (if damaged then old.spots.items else old.spots.items ++ (record { number = number; at = old.at }) ∷ [])
  pub last : new.last ≡ (if damaged then old.last else number)
