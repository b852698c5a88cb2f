-- The key that comes next.

use Rattle.std.specs.Prelude.{◌≡◌, ◌↔◌, false, IsTrue, List, ℕ, Option, Some, None}
use Rattle.bw_record.specs.Keys.{is_below, IsBytes, IsKey}

-- the other is above this one, and a key is above this one exactly if it is not below the other; or
-- there is no other, and no key is above
abbrev pub IsAfter : List ℕ → Option (List ℕ) → Type 0
IsAfter key (Some next) = IsTrue (is_below key next) × ((q : List ℕ) → IsBytes q → IsKey q → IsTrue (is_below key q) ↔ (is_below q next ≡ false))
IsAfter key None = (q : List ℕ) → IsBytes q → IsKey q → is_below key q ≡ false
