-- What holds of records that fill pages, from one call to the next.

use Rattle.std.specs.Prelude.{◌≡◌, ◌⊎◌, true, List, [], ◌++◌}
use Rattle.bw_record.specs.declared.record.Record.{Record}
use Rattle.bw_keys.specs.Held.{pending, AreAsRead}
use Rattle.bw_keys.specs.declared.held.Held.{Held}

-- of each key the records that were handed out, and those that did not go in yet, are those that were read of the source, in their order; and
-- once that has ended all go in now
pub record IsFilled (given : List Record) (held : Held) (HasEnded : Type 0) (read : List Record) : Type 0 where
  pub same : AreAsRead (given ++ pending held) read
  pub ended : HasEnded → (held.is_released ≡ true) ⊎ (pending held ≡ [])
