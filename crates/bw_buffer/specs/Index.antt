-- Of each page whose last block is a Delta, the index of that block; a page that was closed stays with none.

use Rattle.std.specs.Prelude.{ℕ, nat_eq, Option, Some, None}
use Rattle.std.specs.HashMap.{HashMap, get}

abbrev pub flat : Option (Option ℕ) → Option ℕ
flat None = None
flat (Some o) = o

module _ {S : Type 0} where
  abbrev pub index_at : HashMap ℕ (Option ℕ) S → ℕ → Option ℕ
  index_at m p = flat (get nat_eq m p)
