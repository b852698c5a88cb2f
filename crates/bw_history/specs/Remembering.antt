-- A history as it stands in memory.

use Rattle.std.specs.Prelude.{◌+◌, ◌-◌, ◌≤◌, map, ◌++◌}
use Rattle.std.specs.Vec.{vec_len, vec_capacity}
use Rattle.bw_history.specs.declared.history.History.TheInside.{Inside}
use Rattle.bw_history.specs.Remembered.{Remembered}

abbrev pub remembered : Inside → Remembered
remembered a = record {
  items = map (λ s. s.value) a.past.items ++ a.kept.items;
  gone = vec_len a.past;
  room = vec_capacity a.kept - vec_len a.kept;
  later = vec_capacity a.past - (vec_len a.past + vec_len a.kept);
}

-- whatever is in memory may leave it without an allocation
abbrev pub MayLeave : Inside → Type 0
MayLeave a = vec_len a.past + vec_len a.kept ≤ vec_capacity a.past
