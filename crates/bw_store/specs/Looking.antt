-- What the calls leave that look at pages, and read those that are away: the core's words, of a store
-- with readers.

use Rattle.std.specs.Prelude.{ℕ, ◌≡◌, true, false, Result, IfErr}
use Rattle.bw_device.specs.Holding.{Holding}
use Rattle.bw_terms.specs.declared.fault.StoreFault.{StoreFault}
use Rattle.bw_terms.specs.declared.fault.StoreFault.TheVariants.{NoMemory}
use Rattle.bw_store.specs.declared.store.Store.{Store}
use Rattle.bw_store.specs.Following.{Follows, HasBoxes}
use Rattle.bw_store.specs.Reading.{HasRead, WalkLeaves}
use Rattle.bw_store.specs.Views.{is_evicted, kept_by, noted_of, IsSound}

module _ {I : Type 0} {H : I → Type 0} where
  -- at most boxes were read: the store stays sound, no page comes or leaves, each box has its place,
  -- nothing is taken back and nothing is noted
  pub record OnlyReads (old new : Store I H) (v : (i : I) × H i → Holding) : Type 0 where
    pub sound : IsSound new v
    pub read : HasRead (kept_by old v) (kept_by new v)
    pub evicted : (p : ℕ) → is_evicted p new ≡ is_evicted p old
    pub follows : Follows (kept_by old v) (kept_by new v)
    pub boxes : HasBoxes (kept_by old v) (kept_by new v)
    pub noted : noted_of new ≡ noted_of old

  -- a walk over pages: what it leaves, and if all are in memory, that it can lack only memory
  pub record Walks {A : Type 0} (old : Store I H) (result : Result A StoreFault) (new : Store I H) (v : (i : I) × H i → Holding) : Type 0 where
    pub leaves : WalkLeaves (kept_by old v) result (kept_by new v)
    pub memory : ((p : ℕ) → is_evicted p old ≡ false) → IfErr result (λ fault. fault ≡ NoMemory)

  -- pages may leave memory, none comes, and nothing else is changed
  pub record KeepsPages (old new : Store I H) (v : (i : I) × H i → Holding) : Type 0 where
    pub sound : IsSound new v
    pub same : kept_by new v ≡ kept_by old v
    pub noted : noted_of new ≡ noted_of old
    pub none_comes : (p : ℕ) → is_evicted p old ≡ true → is_evicted p new ≡ true
