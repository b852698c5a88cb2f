-- Where the blocks of a frame begin, as it stands in memory.

use Rattle.std.specs.Prelude.{ℕ, ◌≡◌, ◌⊎◌, List, []}
use Rattle.bw_log.specs.Starts.{starts_of}
use Rattle.bw_log.specs.declared.starts.Starts.TheInside.{Inside}

abbrev pub starts_view : Inside → List ℕ
starts_view a = starts_of a.version a.frame.value

-- nothing was looked through, or what was found is so
abbrev pub IsStarts : Inside → Type 0
IsStarts a = (a.known.items ≡ []) ⊎ (a.known.items ≡ starts_view a)
