-- What readers are shown, as plain data.

use Rattle.std.specs.Prelude.{List}
use Rattle.bw_versions.specs.declared.board.Marked.{Marked}
use Rattle.bw_versions.specs.Batches.{BatchData}

-- a front, and the batches of which a board is shown
abbrev pub VersionData : Type 0
VersionData = Marked (List BatchData)
