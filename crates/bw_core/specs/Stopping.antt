-- What recovery finds of a store's boxes: after a stop, and after a cut of the newest segment.

use Rattle.std.specs.Prelude.{ℕ, ◌+◌, ◌-◌, ◌≡◌, ◌≤◌, ◌⊎◌, IfSome, MatchResult, List, [], length, take}
use Rattle.bw_device.specs.Holding.{Holding}
use Rattle.bw_log.specs.Appends.{last_of}
use Rattle.bw_log.specs.Segments.{segment_frames}
use Rattle.bw_care.specs.Recovery.{frames_in, recovery}
use Rattle.bw_lines.specs.declared.cause.RecoverCause.TheVariants.{Empty}
use Rattle.bw_core.specs.Edges.{newest_number}
use Rattle.bw_core.specs.Growing.{frames_upto}
use Rattle.bw_core.specs.Kept.{Kept, leaves_at}

-- ---- stops

-- the pages up to the durable cut, or up to the one beyond it; nothing is found only if the store
-- was opened and nothing was durable
abbrev pub FindsStop : Kept → List Holding → Type 0
FindsStop s boxes =
    MatchResult (recovery boxes)
    (λ f. (f.leaves ≡ leaves_at s s.durable) ⊎ ((length s.cuts ≡ s.durable + 1) × (f.leaves ≡ leaves_at s (s.durable + 1))))
    (λ e. (e ≡ Empty) × (s.before ≡ 0) × (s.durable ≡ 0))

-- ---- cuts

-- the bytes of a cut still have each frame that they had up to a number
abbrev pub HoldsUpto : ℕ → List ℕ → List ℕ → Type 0
HoldsUpto number bytes cut = frames_upto number (segment_frames cut) ≡ frames_upto number (segment_frames bytes)

-- a length of the newest segment that still has all that stood there at reopen, and each frame up to the floor's
abbrev pub MayCut : Kept → ℕ → Type 0
MayCut s n =
    IfSome (last_of s.log.live) (λ h. (newest_number s.log ≡ s.edge.segment → s.edge.length ≤ n)
    × HoldsUpto (s.before + s.floor) h.bytes (take n h.bytes))

-- the pages up to the cut of the last whole frame left, which is one from the floor to the durable
-- one, or those at the start if that frame stood before this store; nothing is found only if no
-- whole frame is left
abbrev pub FindsCut : Kept → List Holding → Type 0
FindsCut s boxes =
    MatchResult (recovery boxes)
    (λ f. (s.floor ≤ f.last - s.before) × (f.last ≤ s.before + s.durable) × (f.leaves ≡ leaves_at s (f.last - s.before)))
    (λ e. (e ≡ Empty) × (frames_in boxes ≡ []))
