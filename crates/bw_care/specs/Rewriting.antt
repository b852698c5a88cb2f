-- What stops the writing again of pages that the caller names.

use Rattle.std.specs.Prelude.{ℕ, ◌≡◌, ◌⊎◌, true, false, List}
use Rattle.bw_log.specs.Contents.{Contents}
use Rattle.bw_log.specs.declared.fault.LogFault.{LogFault}
use Rattle.bw_log.specs.declared.fault.LogFault.TheVariants.{Failed}
use Rattle.bw_care.specs.Moving.{StoppedBehind}

-- the log had failed, or some of the pages were written and then a step was refused
abbrev pub RefusesRewrite : LogFault → Contents → List ℕ → Contents → Type 0
RefusesRewrite fault old pages new =
    ((fault ≡ Failed) × (new ≡ old) × (old.is_failed ≡ true))
    ⊎ ((old.is_failed ≡ false) × StoppedBehind 0 old pages fault new)
