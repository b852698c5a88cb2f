-- What entering a group leaves of the lanes and of the history.

use Rattle.std.specs.Prelude.{ℕ, ◌≡◌, ◌++◌, List, length, map}
use Rattle.bw_record.specs.declared.record.Record.{Record}
use Rattle.bw_ring.specs.Ends.{given, ring_of_lane}
use Rattle.bw_ring.specs.Marks.{marked}
use Rattle.bw_history.specs.History.{entered}
use Rattle.bw_history.specs.Lanes.{TookKnown}
use Rattle.bw_history.specs.declared.intake.Intake.{Intake}

-- a group of this lane was taken from it and entered; no entry left memory
pub record Enters (lane : ℕ) (group : List Record) (old new : Intake) : Type 0 where
  pub gone : new.history.gone ≡ old.history.gone
  pub count : length new.lanes.items ≡ length old.lanes.items
  pub grows : new.history.items ≡ old.history.items ++ entered lane (marked group)
  pub rings : map ring_of_lane new.lanes.items ≡ map ring_of_lane old.lanes.items
  pub same_given : map given new.lanes.items ≡ map given old.lanes.items
  pub known : TookKnown lane old.lanes.items new.lanes.items
