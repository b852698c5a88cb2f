-- What a new log is made of, and which box it takes.

use Rattle.std.specs.Prelude.{ℕ, ◌+◌, ◌≤◌, ◌⊎◌, false, Some, List, [], length}
use Rattle.std.specs.List.{AllByRecursion}
use Rattle.bw_device.specs.Holding.{Holding}
use Rattle.bw_log.specs.Contents.{Contents, IsSpare}

-- a log of spares only
abbrev pub fresh : ℕ → ℕ → List Holding → Contents
fresh m f spares = record {
  live = [];
  spares = spares;
  m = m;
  f = f;
  number = 1;
  old_to = 0;
  is_open = false;
  is_failed = false;
  next = Some 1;
  frames = [];
  pages = [];
}

-- the most pairs of a page, and the most bytes of a frame
abbrev pub AreLimits : ℕ → ℕ → Type 0
AreLimits m f = (4 ≤ m) × (m ≤ 32) × (65536 ≤ f) × (f ≤ 262144)

-- limits and spares that a log takes
pub record IsFit (m f : ℕ) (spares : List Holding) : Type 0 where
  pub limits : AreLimits m f
  pub few : length spares ≤ 4096
  pub empty : AllByRecursion (IsSpare f) spares

-- there are too many boxes, or this is no spare
abbrev pub IsNotTaken : Contents → Holding → Type 0
IsNotTaken c h = (4096 ≤ length c.live + length c.spares) ⊎ (IsSpare c.f h → ⊥)
