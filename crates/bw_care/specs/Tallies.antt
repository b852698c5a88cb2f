-- What a store counts beside what it keeps.

use Rattle.std.specs.Prelude.{ℕ, zero, suc, ◌+◌, ◌-◌, ◌^◌, Bool, if◌then◌else◌, min, List, [], ◌∷◌, length}
use Rattle.bw_device.specs.Holding.{Holding}
use Rattle.bw_care.specs.declared.tally.Tally.{Tally}

-- a count with so many more: it stays where it is at the greatest number
abbrev pub up : ℕ → ℕ → ℕ
up n more = min (n + more) (2 ^ 64 - 1)

-- ---- bytes of segments

abbrev pub bytes_of : List Holding → ℕ
bytes_of [] = 0
bytes_of (h ∷ hs) = length h.bytes + bytes_of hs

-- those of the one at an index, if there is one
abbrev pub length_at : List Holding → ℕ → ℕ
length_at [] i = 0
length_at (h ∷ hs) zero = length h.bytes
length_at (h ∷ hs) (suc i) = length_at hs i

-- ---- counts

-- nothing yet, over so many pages and bytes
abbrev pub counted_from : ℕ → ℕ → Tally
counted_from pages bytes = record {
  pages = pages;
  bytes = bytes;
  given_up = 0;
  cleanings = 0;
  cleaner_frames = 0;
  cleaner_bytes = 0;
  evictions = 0;
}

abbrev pub counted_out : Tally → Tally
counted_out t = record t { evictions = up t.evictions 1 }

abbrev pub counted_up : Tally → ℕ → ℕ → ℕ → ℕ → Tally
counted_up t frames bytes given_up cleanings = record t {
  given_up = up t.given_up given_up;
  cleanings = up t.cleanings cleanings;
  cleaner_frames = up t.cleaner_frames frames;
  cleaner_bytes = up t.cleaner_bytes bytes;
}

-- ---- what a cleaning counts

-- so many frames, and as many bytes as there are more after it than before; if it is done, the
-- segments that were given up, and their bytes, which are among these
abbrev pub counted_by : Tally → Bool → ℕ → ℕ → ℕ → ℕ → ℕ → Tally
counted_by t done frames before after gone count =
    if done then counted_up t frames (up after gone - before) gone count else counted_up t frames (up after 0 - before) 0 0
