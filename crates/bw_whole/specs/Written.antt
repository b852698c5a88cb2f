-- What a log is that was written whole: pairs on full pages, these in frames, and those in segments.

use Rattle.std.specs.Prelude.{ℕ, ◌+◌, ◌^◌, ◌<◌, ◌≤◌, ◌≡◌, ◌==◌, if◌then◌else◌, List, [], ◌∷◌, ◌++◌, length, map}
use Rattle.std.specs.Bool.{IsTrue}
use Rattle.std.specs.List.{fold, flat_map, AllByRecursion}
use Rattle.bw_record.specs.Keys.{ascends}
use Rattle.bw_record.specs.Lawful.{IsPair}
use Rattle.bw_record.specs.declared.leaf.Leaf.{Leaf}
use Rattle.bw_record.specs.declared.block.Block.TheVariants.{Base}
use Rattle.bw_record.specs.declared.block.Frame.{Frame}
use Rattle.bw_codec.specs.Grammar.{frame_bytes, first_key, IsBase, IsFrame}
use Rattle.bw_leaf.specs.Forwards.{blocks_of}
use Rattle.bw_page.specs.Standing.{Stand}
use Rattle.bw_whole.specs.Framing.{header_of}
use Rattle.bw_whole.specs.Paging.{Pair, AreLimits, without_pairs, with_pair, finished}

-- ---- pages

-- page 1 has the empty low, and any other its first key
abbrev pub low_of : ℕ → List Pair → List ℕ
low_of n pairs = if n == 1 then [] else first_key pairs

-- a lawful page of this number
pub record IsNumbered (m n : ℕ) (leaf : Leaf) : Type 0 where
  pub number : leaf.page ≡ n
  pub low : leaf.low ≡ low_of n leaf.pairs
  pub lawful : IsBase m leaf

-- pages from a number on, each of them full
abbrev pub AreFull : ℕ → ℕ → List Leaf → Type 0
AreFull m n [] = Unit {0}
AreFull m n (l ∷ ls) = IsNumbered m n l × (length l.pairs ≡ m) × AreFull m (n + 1) ls

abbrev pub pairs_of : List Leaf → List Pair
pairs_of leaves = flat_map (λ l. l.pairs) leaves

-- ---- frames

-- lawful frames from a number on
abbrev pub AreFrames : ℕ → ℕ → ℕ → List Frame → Type 0
AreFrames m f n [] = Unit {0}
AreFrames m f n (x ∷ xs) = (x.number ≡ n) × IsFrame m f x × AreFrames m f (n + 1) xs

-- the frames of all segments
abbrev pub all_frames : List (List Frame) → List Frame
all_frames parts = flat_map (λ x. x) parts

-- ---- segments

-- the bytes of a segment of this number with these frames
abbrev pub segment_of : ℕ → ℕ → ℕ → List Frame → List ℕ
segment_of m f n frames = header_of m f n ++ flat_map frame_bytes frames

-- those of segments from a number on
abbrev pub segments_from : ℕ → ℕ → ℕ → List (List Frame) → List (List ℕ)
segments_from m f n [] = []
segments_from m f n (x ∷ xs) = segment_of m f n x ∷ segments_from m f (n + 1) xs

-- ---- the log

-- these are the segments of a log of these pairs, and of nothing else
pub record IsLogOf (m f room : ℕ) (pairs : List Pair) (segments : List (List ℕ)) : Type 0 where
  pub full : List Leaf
  pub last : Leaf
  pub parts : List (List Frame)
  -- all pages but the last are full
  pub pages : AreFull m 1 full
  pub end : IsNumbered m (length full + 1) last
  -- no page but page 1 is empty
  pub begun : 1 ≤ length full → 1 ≤ length last.pairs
  pub pairs_are : pairs_of (full ++ last ∷ []) ≡ pairs
  -- each page stands in a frame, and nothing else does
  pub frames : AreFrames m f 1 (all_frames parts)
  pub blocks : blocks_of (all_frames parts) ≡ map Base (full ++ last ∷ [])
  -- read forwards, these are the pages, and they are lawful
  pub stands : Stand m (all_frames parts) (full ++ last ∷ [])
  -- all frames stand in the segments, and nothing else does
  pub bytes : segments ≡ segments_from m f 1 parts
  pub short : AllByRecursion (λ b. length b ≤ room) segments

-- what is put in the order of the keys and then ended is a log of that
abbrev pub WritesThem : Type 0
WritesThem =
    (m f room : ℕ) (pairs : List Pair) → AreLimits m f room → AllByRecursion IsPair pairs → IsTrue (ascends pairs) → length pairs + 1 < 2 ^ 32
    → IsLogOf m f room pairs (finished (fold with_pair (without_pairs m f room) pairs))
