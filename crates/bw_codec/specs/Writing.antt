-- What writing does to a `Vec` that has the room.

use Rattle.std.specs.Prelude.{ℕ, ◌+◌, ◌≡◌, ◌≤◌, List, ◌++◌, length}
use Rattle.std.specs.Vec.{vec_len, vec_capacity}
use Rattle.std.specs.declared.vec.Vec.{Vec}
use Rattle.std.specs.declared.alloc.Global.{Global}

-- so many bytes more fit without a growth
abbrev pub HasRoom : Vec ℕ Global → ℕ → Type 0
HasRoom v n = vec_len v + n ≤ vec_capacity v

-- these bytes stand at the end now, and there is no less room than before for them all
pub record Adds (old new : Vec ℕ Global) (bytes : List ℕ) : Type 0 where
  pub items : new.items ≡ old.items ++ bytes
  pub len : vec_len new ≡ vec_len old + length bytes
  pub capacity : vec_capacity old ≤ vec_capacity new
