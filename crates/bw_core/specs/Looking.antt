-- What the calls leave that look at pages, and read those that are away.

use Rattle.std.specs.Prelude.{ℕ, ◌≡◌, false, Result, IfErr}
use Rattle.bw_device.specs.Holding.{Holding}
use Rattle.bw_log.specs.Reads.{HoldsPage}
use Rattle.bw_terms.specs.declared.fault.StoreFault.{StoreFault}
use Rattle.bw_terms.specs.declared.fault.StoreFault.TheVariants.{NoMemory}
use Rattle.bw_core.specs.declared.store.Core.{Core}
use Rattle.bw_core.specs.Following.{Follows, HasBoxes}
use Rattle.bw_core.specs.Reading.{HasRead, ReadLeaves, WalkLeaves}
use Rattle.bw_core.specs.Views.{is_evicted, kept_by, noted_of, IsSound}

module _ {I : Type 0} {H : I → Type 0} where
  -- at most boxes were read: the store stays sound, no page comes or leaves, each box has its place,
  -- nothing is taken back and nothing is noted
  pub record OnlyReads (old new : Core I H) (v : (i : I) × H i → Holding) : Type 0 where
    pub sound : IsSound new v
    pub read : HasRead (kept_by old v) (kept_by new v)
    pub evicted : (p : ℕ) → is_evicted p new ≡ is_evicted p old
    pub follows : Follows (kept_by old v) (kept_by new v)
    pub boxes : HasBoxes (kept_by old v) (kept_by new v)
    pub noted : noted_of new ≡ noted_of old

  -- a walk over pages: what it leaves, and if all are in memory, that it can lack only memory
  pub record Walks {A : Type 0} (old : Core I H) (result : Result A StoreFault) (new : Core I H) (v : (i : I) × H i → Holding) : Type 0 where
    pub leaves : WalkLeaves (kept_by old v) result (kept_by new v)
    pub memory : ((p : ℕ) → is_evicted p old ≡ false) → IfErr result (λ fault. fault ≡ NoMemory)

  -- a page was looked at, and read if it is away: the pages are as they were
  pub record LooksAt {A : Type 0} (page : ℕ) (old : Core I H) (result : Result A StoreFault) (new : Core I H) (v : (i : I) × H i → Holding) : Type 0 where
    pub sound : IsSound new v
    pub pages : new.pages.leaves ≡ old.pages.leaves
    pub read : HasRead (kept_by old v) (kept_by new v)
    pub leaves : ReadLeaves (HoldsPage (kept_by old v).log page) (kept_by old v) result (kept_by new v)
    pub noted : noted_of new ≡ noted_of old
