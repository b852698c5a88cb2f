-- The pages that pairs in the order of their keys make, and the segments of these.

use Rattle.std.specs.Prelude.{ℕ, ◌+◌, ◌^◌, ◌≤◌, ◌⊎◌, nat_lt, Bool, if◌then◌else◌, List, [], ◌∷◌, ◌++◌, length}
use Rattle.bw_record.specs.Keys.{ascends}
use Rattle.bw_record.specs.declared.leaf.Leaf.{Leaf}
use Rattle.bw_record.specs.declared.block.Block.TheVariants.{Base}
use Rattle.bw_whole.specs.Framing.{Framed, unwritten, with_frame, with_page, IsLastFrame}

abbrev pub Pair : Type 0
Pair = List ℕ × List ℕ

pub record Making : Type 0 where
  -- the full pages
  pub framed : Framed
  -- the page that takes pairs
  pub page : Leaf

-- what a log may have: the most pairs of a page, the most bytes of a frame and of a segment
pub record AreLimits (m f room : ℕ) : Type 0 where
  pub pairs : (4 ≤ m) × (m ≤ 32)
  pub frame : (65536 ≤ f) × (f ≤ 262144)
  pub segment : (24 + f ≤ room) × (room ≤ 1073741824)

-- no pair yet: an empty page 1
abbrev pub without_pairs : ℕ → ℕ → ℕ → Making
without_pairs m f room = record { framed = unwritten m f room; page = record { page = 1; low = []; pairs = [] } }

-- whether the key of a pair is above that of the pair before it
abbrev pub is_next : Making → Pair → Bool
is_next w pair = ascends (w.page.pairs ++ pair ∷ [])

abbrev pub has_room : Making → Bool
has_room w = nat_lt (length w.page.pairs) w.framed.m

-- the page with a pair more
abbrev pub page_with : Leaf → Pair → Leaf
page_with leaf pair = record leaf { pairs = leaf.pairs ++ pair ∷ [] }

-- the next page: it begins at a key
abbrev pub page_after : Leaf → List ℕ → Leaf
page_after leaf key = record { page = leaf.page + 1; low = key; pairs = [] }

-- the full page stands in a frame, and the next one is empty
abbrev pub turned : List ℕ → Making → Making
turned key w = record { framed = with_page w.framed (Base w.page); page = page_after w.page key }

-- the next page, if there is no room in the one that there is
abbrev pub roomy : List ℕ → Making → Making
roomy key w = if has_room w then w else turned key w

abbrev pub with_pair : Making → Pair → Making
with_pair w pair = let v = roomy pair.0 w in record v { page = page_with v.page pair }

-- there is no number for a page more, or for a frame more
abbrev pub IsSpent : Making → Type 0
IsSpent w = (2 ^ 32 ≤ w.page.page + 1) ⊎ IsLastFrame w.framed

-- the segments, once the last page and the last frame are put
abbrev pub segments_of : Framed → List (List ℕ)
segments_of w = w.closed ++ w.newest ∷ []

abbrev pub finished : Making → List (List ℕ)
finished w = segments_of (with_frame (with_page w.framed (Base w.page)))
