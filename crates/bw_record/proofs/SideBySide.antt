-- The loop that looks at keys side by side.

use Rattle.std.proofs.Common.{ℕ, ◌&&◌, Bool, true, Option, Some, None, List, [], ◌∷◌}
use Rattle.bw_record.specs.Keys.{is_below, ascends}

-- the keys after one ascend, and the first is above it
abbrev pub ascends_after : Option (List ℕ) → List (List ℕ × List ℕ) → Bool
ascends_after None pairs = ascends pairs
ascends_after (Some key) [] = true
ascends_after (Some key) (p ∷ ps) = is_below key p.0 && ascends (p ∷ ps)
