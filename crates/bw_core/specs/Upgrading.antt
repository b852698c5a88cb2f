-- What an upgrade leaves: all segments of format 1 are given up at once.

use Rattle.std.specs.Prelude.{◌≤◌, ◌≡◌, Result}
use Rattle.bw_care.specs.Upgrading.{old_segments}
use Rattle.bw_care.specs.Upgrading as care
use Rattle.bw_care.specs.declared.upgrader.Upgraded.{Upgraded}
use Rattle.bw_terms.specs.declared.fault.StoreFault.{StoreFault}
use Rattle.bw_terms.specs.declared.fault.StoreFault.TheVariants.{NothingOld}
use Rattle.bw_core.specs.Cleaning.{GivesUp}
use Rattle.bw_core.specs.Emptied.{Behind, WhereSome}
use Rattle.bw_core.specs.Kept.{Kept}

-- the upgrade, in a store in which nothing waits
abbrev pub UpgradeMoves : Kept → Result Upgraded StoreFault → Kept → Type 0
UpgradeMoves old result new = GivesUp (λ (u : Upgraded). u.frames) care.IsUpgraded care.RefusesUpgrade old result new

-- an upgrade of a store: segments of format 1 are looked for first
abbrev pub UpgradeLeaves : Kept → Result Upgraded StoreFault → Kept → Type 0
UpgradeLeaves old result new = WhereSome (1 ≤ old_segments old.log) (old_segments old.log ≡ 0) NothingOld (Behind UpgradeMoves) old result new
