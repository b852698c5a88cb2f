-- Where pages may be written again, and what is noted of their frames.

use Rattle.std.specs.Prelude.{ℕ, ◌≡◌, ◌≤◌, ◌<◌, ◌+◌, ◌-◌, ◌^◌, Option, None, [], false, length, IfSome}
use Rattle.std.specs.List.{slice_get}
use Rattle.std.specs.Vec.{vec_len, vec_capacity}
use Rattle.bw_device.specs.Holding.{Holding}
use Rattle.bw_log.specs.Contents as logs
use Rattle.bw_log.specs.Places.{place_of}
use Rattle.bw_history.specs.Cuts.{end_by}
use Rattle.bw_core.specs.Cleaning.{with_moved}
use Rattle.bw_core.specs.Kept.{Kept}
use Rattle.bw_core.specs.Settled.{IsAllCut, IsSettled}
use Rattle.bw_core.specs.Views.{kept_by, IsSound}
use Rattle.bw_core.specs.declared.store.Core.{Core}

-- nothing waits, no append failed, and there is room for a cut for each page
pub record MayMove {I : Type 0} {H : I → Type 0} (s : Core I H) (v : (i : I) × H i → Holding) : Type 0 where
  pub sound : IsSound s v
  pub settled : IsSettled (kept_by s v)
  pub empty : s.pages.making.blocks ≡ []
  pub works : (kept_by s v).log.is_failed ≡ false
  pub room : vec_len s.seals.cuts + length (kept_by s v).log.pages ≤ vec_capacity s.seals.cuts

-- what noting asks of a store: the frames since `first` are the newest that its log counts
pub record MayNote (s : Kept) (first : Option ℕ) (cuts capacity : ℕ) : Type 0 where
  pub sound : logs.IsSound s.log
  pub some : 1 ≤ end_by first
  pub after : end_by first ≤ end_by s.log.next
  pub few : s.durable + end_by s.log.next < 2 ^ 64 + end_by first
  pub room : cuts + end_by s.log.next ≤ capacity + end_by first
  pub empty : s.making.blocks ≡ []
  pub unsealed : s.making.is_sealed ≡ false
  pub cut : IsAllCut s
  pub count : length s.newest < 2 ^ 32
  pub there : (p : ℕ) → 1 ≤ p → p ≤ length s.newest → place_of p (logs.counted s.log) ≡ None → ⊥

-- so many frames since `first` were noted: each has a cut at the end of the history, and is durable
pub record HasNoted (old : Kept) (first : Option ℕ) (frames : ℕ) (new : Kept) : Type 0 where
  pub told : frames + end_by first ≡ end_by old.log.next
  pub noted : new ≡ with_moved old frames old.floor new.newest new.making old.log
  pub count : length new.newest ≡ length old.newest
  pub each : (p : ℕ) → 1 ≤ p → p ≤ length old.newest → slice_get new.newest (p - 1) ≡ place_of p (logs.counted old.log)
  pub limit : new.making.limit ≡ old.making.limit
  pub empty : new.making.blocks ≡ []
  pub sealed : new.making.is_sealed ≡ old.log.is_failed
  pub number : IfSome old.log.next (λ n. new.making.frame ≡ n)
