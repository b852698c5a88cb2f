-- The numbers that a store is opened with.

use Rattle.std.specs.Prelude.{ℕ}
use Rattle.bw_ring.specs.Limits.{IsConfig as IsRings}
use Rattle.bw_log.specs.Limits.{AreLimits}
use Rattle.bw_terms.specs.declared.config.Config.{Config}

-- so many writers with rings of so many places each, 1 to 64 and 1 to 4,096
abbrev pub AreEnds : ℕ → ℕ → Type 0
AreEnds writers places = IsRings writers places

abbrev pub AreWriters : Config → Type 0
AreWriters c = AreEnds c.writers c.places

abbrev pub IsConfig : Config → Type 0
IsConfig c = AreWriters c × AreLimits c.m c.f
