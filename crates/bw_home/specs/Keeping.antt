-- What a home leaves that lets pages leave memory, or writes some again.

use Rattle.std.specs.Prelude.{◌≡◌}
use Rattle.bw_device.specs.Holding.{Holding}
use Rattle.bw_core.specs.Following.{Follows, HasBoxes}
use Rattle.bw_home.specs.Ready.{kept_in, IsReady}
use Rattle.bw_home.specs.declared.home.Home.{Home}

module _ {I : Type 0} {H : I → Type 0} where
  -- the home is ready, no entry comes, no segment is given up, and no feed is changed
  pub record KeepsEntries (old new : Home I H) (v : (i : I) × H i → Holding) : Type 0 where
    pub ready : IsReady new v
    pub feeds : new.feeds ≡ old.feeds
    pub entries : (kept_in new v).entries ≡ (kept_in old v).entries
    pub follows : Follows (kept_in old v) (kept_in new v)
    pub boxes : HasBoxes (kept_in old v) (kept_in new v)
