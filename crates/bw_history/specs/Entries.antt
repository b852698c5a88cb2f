-- The records of entries.

use Rattle.std.specs.Prelude.{List, map}
use Rattle.bw_record.specs.declared.record.Record.{Record}
use Rattle.bw_history.specs.declared.entry.Entry.{Entry}

abbrev pub records : List Entry → List Record
records es = map (λ e. e.item) es
