-- Why a store has no second life.

use Rattle.std.specs.Prelude.{ℕ, ◌≡◌, map}
use Rattle.std.specs.declared.alloc.Global.{Global}
use Rattle.std.specs.declared.dyn_box.DynBox.{DynBox}
use Rattle.bw_device.specs.Holding.{Holding}
use Rattle.bw_log.specs.Contents.{boxes}
use Rattle.bw_care.specs.Found.{Refuses}
use Rattle.bw_lines.specs.declared.cause.RecoverCause.{RecoverCause}
use Rattle.bw_lines.specs.declared.cause.RecoverCause.TheVariants.{NoMemory as Wanting, BadConfig, Device, Spent, Empty, BadBytes, Gap, Mixed, BadLink, Unlawful}
use Rattle.bw_core.specs.Kept.{Kept}
use Rattle.bw_core.specs.Reopened.{IsReopenFault}
use Rattle.bw_core.specs.declared.store.Core.{Core}
use Rattle.bw_lives.specs.declared.fault.ReliveFault.{ReliveFault}
use Rattle.bw_lives.specs.declared.fault.ReliveFault.TheVariants.{NoMemory, Recovery, Reopening}

-- its boxes are recovered, but for want of memory, a read that failed, or if nothing was ever kept
abbrev pub IsUnfound : Kept → RecoverCause → Type 0
IsUnfound old Wanting = Unit {0}
IsUnfound old (Device lease) = Unit {0}
IsUnfound old Spent = Unit {0}
IsUnfound old Empty = (old.before ≡ 0) × (old.durable ≡ 0)
IsUnfound old BadConfig = ⊥
IsUnfound old (BadBytes segment at) = ⊥
IsUnfound old Gap = ⊥
IsUnfound old Mixed = ⊥
IsUnfound old (BadLink page) = ⊥
IsUnfound old (Unlawful page) = ⊥

module _ {I : Type 0} {H : I → Type 0} where
  -- why there is none
  abbrev pub IsNotRelived : Core I H → Kept → ℕ → ℕ → (DynBox I Global H → Holding) → ReliveFault I H → Type 0
  IsNotRelived store old writers places v (NoMemory back) = back ≡ store
  IsNotRelived store old writers places v (Recovery fault) = Refuses (boxes old.log) fault.cause (map v fault.boxes.items) × IsUnfound old fault.cause
  IsNotRelived store old writers places v (Reopening fault) = IsReopenFault writers places fault.cause
