-- The newest flushed link of links that stand oldest first.

use Rattle.std.specs.Prelude.{ℕ, ◌+◌, Option, Some, List, [], ◌∷◌}
use Rattle.bw_record.specs.declared.block.Place.{Place}
use Rattle.bw_leaf.specs.declared.chain.Link.{Link}
use Rattle.bw_leaf.specs.declared.chain.Link.TheVariants.{Delta, Flushed}

-- its index and its place, if n links stand in front and `found` is the one found among them
abbrev pub mark_after : ℕ → Option (ℕ × Place) → List Link → Option (ℕ × Place)
mark_after n found [] = found
mark_after n found (Delta r ∷ links) = mark_after (n + 1) found links
mark_after n found (Flushed place ∷ links) = mark_after (n + 1) (Some (n, place)) links
