-- What is said of bytes that are checked, of which nothing is kept.

use Rattle.std.specs.Prelude.{ℕ, zero, suc, ◌≡◌, if◌then◌else◌, Option, Some, None, List, [], ◌∷◌}
use Rattle.bw_record.specs.Keys.{is_below}
use Rattle.bw_record.specs.declared.leaf.Leaf.{Leaf}
use Rattle.bw_codec.specs.declared.head.FrameRead.{FrameRead}
use Rattle.bw_codec.specs.declared.head.FrameRead.TheVariants.{Whole, Tail}
use Rattle.bw_codec.specs.declared.check.FrameSeen.{FrameSeen}
use Rattle.bw_codec.specs.declared.check.FrameSeen.TheVariants as seen
use Rattle.bw_codec.specs.Grammar.{IsFront}
use Rattle.bw_codec.specs.Reading.{Found, ◌>>=◌, pair_at}

-- the bytes after what was read
abbrev pub past : {X : Type 0} → Found X → Option (List ℕ)
past None = None
past (Some read) = Some read.1

-- the key of a pair that was read, and the bytes after the pair
abbrev pub keyed : Found (List ℕ × List ℕ) → Found (List ℕ)
keyed None = None
keyed (Some read) = Some (read.0.0, read.1)

-- so many pairs whose keys ascend, the first after this key: the bytes after them
unfoldable pub rising_after : ℕ → ℕ → List ℕ → List ℕ → Option (List ℕ)
rising_after v zero before bytes = Some bytes
rising_after v (suc n) before bytes =
    keyed (pair_at v bytes) >>= λ pair. if is_below before pair.0 then rising_after v n pair.0 pair.1 else None

abbrev pub first_key : List (List ℕ × List ℕ) → Option (List ℕ)
first_key [] = None
first_key (p ∷ ps) = Some p.0

-- the first key of pairs that were read, if there is one, and the bytes after the pairs
abbrev pub led_by : Found (List (List ℕ × List ℕ)) → Found (Option (List ℕ))
led_by None = None
led_by (Some read) = Some (first_key read.0, read.1)

-- the number of a page that was read, and the bytes after the page
abbrev pub paged : Found Leaf → Found ℕ
paged None = None
paged (Some read) = Some (read.0.page, read.1)

-- a whole frame is given by its number and its length
abbrev pub seen_of : FrameRead → FrameSeen
seen_of (Whole frame used) = seen.Whole frame.number used
seen_of Tail = seen.Tail

-- what is said stands at the front of bytes
pub record IsSeen (v m f : ℕ) (bytes : List ℕ) (told : FrameSeen) : Type 0 where
  pub read : FrameRead
  pub there : IsFront v m f bytes read
  pub is : told ≡ seen_of read
