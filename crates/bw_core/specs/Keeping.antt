-- What letting pages leave memory comes to.

use Rattle.std.specs.Prelude.{ℕ, ◌≡◌, true}
use Rattle.bw_device.specs.Holding.{Holding}
use Rattle.bw_core.specs.declared.store.Core.{Core}
use Rattle.bw_core.specs.Views.{is_evicted, kept_by, noted_of, IsSound}

module _ {I : Type 0} {H : I → Type 0} where
  -- pages may leave memory, none comes, and nothing else is changed: not a page, not an entry, not a cut, not a ring
  pub record KeepsPages (old new : Core I H) (v : (i : I) × H i → Holding) : Type 0 where
    pub sound : IsSound new v
    pub same : kept_by new v ≡ kept_by old v
    pub intake : new.intake ≡ old.intake
    pub noted : noted_of new ≡ noted_of old
    pub none_comes : (p : ℕ) → is_evicted p old ≡ true → is_evicted p new ≡ true
