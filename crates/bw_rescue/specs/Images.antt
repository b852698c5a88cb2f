-- The live segments of a store as a copy has them.

use Rattle.std.specs.Prelude.{ℕ, ◌≡◌, Option, Some, List, map}
use Rattle.bw_device.specs.Holding.{Holding}
use Rattle.bw_look.specs.declared.image.Image.{Image}

-- an image has the bytes of a segment, and its lease
pub record Copied : Type 0 where
  pub lease : Option ℕ
  pub bytes : List ℕ

abbrev pub copied : Image → Copied
copied image = record { lease = image.lease; bytes = image.bytes.items }

abbrev pub copy_of : Holding → Copied
copy_of h = record { lease = Some h.lease; bytes = h.bytes }

-- one image of each segment, in their order
abbrev pub AreImages : List Image → List Holding → Type 0
AreImages images segments = map copied images ≡ map copy_of segments
