-- Whether two folders have the same files.

use Rattle.std.specs.Prelude.{ℕ, ◌≡◌, nat_eq, if◌then◌else◌, Option, List, [], ◌∷◌}
use Rattle.std.specs.Option.{option_eq}
use Rattle.bw_look.specs.declared.image.Image.{Image}

-- the bytes of a lease's file, of which the first counts; none if there is no such file
abbrev pub bytes_at : Option ℕ → List Image → List ℕ
bytes_at lease [] = []
bytes_at lease (i ∷ images) = if option_eq nat_eq i.lease lease then i.bytes.items else bytes_at lease images

-- each file of a folder has the bytes that another has at its lease
abbrev pub AreHeld : List Image → List Image → Type 0
AreHeld others [] = Unit {0}
AreHeld others (i ∷ images) = (bytes_at i.lease others ≡ i.bytes.items) × AreHeld others images

-- at each lease both have the same bytes
abbrev pub AreAlike : List Image → List Image → Type 0
AreAlike images others = (lease : Option ℕ) → bytes_at lease images ≡ bytes_at lease others
