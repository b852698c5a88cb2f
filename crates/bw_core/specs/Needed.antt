-- How much of a live segment is still needed, and when it pays to clean the oldest.

use Rattle.std.specs.Prelude.{ℕ, ◌+◌, ◌-◌, ◌*◌, ◌≤◌, nat_lt, nat_le, ◌&&◌, Bool, false, if◌then◌else◌, Option, Some, None, List, [], ◌∷◌, length}
use Rattle.bw_codec.specs.Grammar.{block_bytes}
use Rattle.bw_record.specs.declared.leaf.Leaf.{Leaf}
use Rattle.bw_record.specs.declared.block.Place.{Place}
use Rattle.bw_record.specs.declared.block.Block.TheVariants.{Base}
use Rattle.bw_record.specs.declared.block.Frame.{Frame}
use Rattle.bw_log.specs.Contents.{counted}
use Rattle.bw_log.specs.Places.{base_of}
use Rattle.bw_log.specs.Spans.{last_upto}
use Rattle.bw_care.specs.Tallies.{length_at}
use Rattle.bw_core.specs.Kept.{Kept}

-- a place, if there is one, stands in the frames after one and up to another
abbrev pub is_between : ℕ → ℕ → Option Place → Bool
is_between after last None = false
is_between after last (Some place) = nat_lt after place.frame && nat_le place.frame last

-- how many bytes a page's Base has as the page stands, if it was last set in these frames
abbrev pub needed_by : ℕ → ℕ → List Frame → Leaf → ℕ
needed_by after last frames leaf = if is_between after last (base_of leaf.page frames) then length (block_bytes (Base leaf)) else 0

abbrev pub needed_of : ℕ → ℕ → List Frame → List Leaf → ℕ
needed_of after last frames [] = 0
needed_of after last frames (l ∷ ls) = needed_by after last frames l + needed_of after last frames ls

-- how many bytes the Bases have of the pages that were last set in the i-th live segment, by the
-- frames that it has
abbrev pub needed_in : Kept → ℕ → ℕ
needed_in s i =
    needed_of (last_upto (s.log.number + i - 1) s.log.frames) (last_upto (s.log.number + i) s.log.frames) (counted s.log) s.filed.leaves

-- at least two segments are live, and the oldest has at least twice as many bytes as are needed of it, and 88 more
abbrev pub Pays : Kept → Type 0
Pays s = (2 ≤ length s.log.live) × (2 * needed_in s 0 + 88 ≤ length_at s.log.live 0)
