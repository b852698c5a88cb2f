-- The segments of a log as they were when a frame was its last.

use Rattle.std.specs.Prelude.{ℕ, ◌≡◌, List, [], ◌∷◌, take}
use Rattle.bw_look.specs.declared.image.Image.{Image}
use Rattle.bw_look.specs.Restored.{IsKept}

-- of the file of a lease this much is kept
pub record IsCut (last : ℕ) (old new : Image) : Type 0 where
  pub kept : ℕ
  pub is : IsKept last old.bytes.items kept
  pub bytes : new.bytes.items ≡ take kept old.bytes.items
  pub lease : new.lease ≡ old.lease

abbrev pub AreCut : ℕ → List Image → List Image → Type 0
AreCut last [] [] = Unit {0}
AreCut last [] (n ∷ new) = ⊥
AreCut last (o ∷ old) [] = ⊥
AreCut last (o ∷ old) (n ∷ new) = IsCut last o n × AreCut last old new
