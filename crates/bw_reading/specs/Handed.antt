-- The segments that C hands in: their bytes stand one after the other, and so do those of the sums beside them. Of each there are two
-- lengths, of its bytes and of its sums; a length without the other is of no segment.

use Rattle.std.specs.Prelude.{ℕ, ◌+◌, ◌≤◌, List, [], ◌∷◌, take, drop, length, max}
use Rattle.bw_device.specs.Holding.{Holding}
use Rattle.bw_device.specs.Memory.{fresh_holding}
use Rattle.bw_digest.specs.Sums.{no_sums, sums_in, told_end, Fits}
use Rattle.bw_leaf.specs.Changed.{Bytes}
use Rattle.bw_reading.specs.declared.segments.TheConstants.{LEAST}

-- the segments as new copies in memory, each with its bytes, and with room for them and for a header and the longest frame at least:
-- their leases go up from this one
abbrev pub boxes_from : ℕ → Bytes → List ℕ → List Holding
boxes_from n bytes [] = []
boxes_from n bytes (len ∷ []) = []
boxes_from n bytes (len ∷ sums_len ∷ parts) = fresh_holding n (max LEAST len) (take len bytes) ∷ boxes_from (n + 1) (drop len bytes) parts

-- the segments that C hands in: the first has lease 0
abbrev pub boxes_in : Bytes → List ℕ → List Holding
boxes_in bytes parts = boxes_from 0 bytes parts

-- bytes fit the sums beside them, and none of them are missing
abbrev pub FitSums : Bytes → Bytes → Type 0
FitSums bytes sums = Fits bytes no_sums (sums_in (length bytes) sums) × (told_end sums ≤ length bytes)

-- the bytes of each segment are all there, and so are its sums, which they fit
abbrev pub AreWhole : Bytes → Bytes → List ℕ → Type 0
AreWhole bytes sums [] = Unit {0}
AreWhole bytes sums (len ∷ []) = Unit {0}
AreWhole bytes sums (len ∷ sums_len ∷ parts) =
    (len ≤ length bytes) × (sums_len ≤ length sums) × FitSums (take len bytes) (take sums_len sums) × AreWhole (drop len bytes) (drop sums_len sums) parts
