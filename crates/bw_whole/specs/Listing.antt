-- Segments as a `Vec` of their bytes.

use Rattle.std.specs.Prelude.{ℕ, map, List}
use Rattle.std.specs.declared.vec.Vec.{Vec}
use Rattle.std.specs.declared.alloc.Global.{Global}

-- the bytes of each of a list
abbrev pub bytes_of : List (Vec ℕ Global) → List (List ℕ)
bytes_of vs = map (λ (v : Vec ℕ Global). v.items) vs
