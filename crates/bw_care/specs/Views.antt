-- What a log is, read from a crate above.

use Rattle.bw_device.specs.Holding.{Holding}
use Rattle.bw_log.specs.Contents.{Contents}
use Rattle.bw_log.specs.Contents as contents
use Rattle.bw_log.specs.Views.{seen_by}
use Rattle.bw_log.specs.declared.log.Log.{Log}

module _ {I : Type 0} {H : I → Type 0} where
  -- a box is a pair here
  abbrev pub seen : Log I H → ((i : I) × H i → Holding) → Contents
  seen l v = seen_by (λ b. v (b.vtable, b.value)) l

  abbrev pub IsSound : Log I H → ((i : I) × H i → Holding) → Type 0
  IsSound l v = contents.IsSound (seen l v)
