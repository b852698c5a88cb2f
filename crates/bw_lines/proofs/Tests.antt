-- Tests that are joined.

use Rattle.std.proofs.Common.{◌≡◌, ◌&&◌, Bool, true, false, not, refl}

-- not both hold
pub and_not : (a b : Bool) → (a ≡ true → b ≡ true → ⊥) → (a && b) ≡ false
and_not false b never = refl
and_not true false never = refl
and_not true true never = absurd (never refl refl)

pub not_true : (b : Bool) → not b ≡ true → b ≡ false
not_true true e = absurd cc
not_true false e = refl
