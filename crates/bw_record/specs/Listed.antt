-- The records of a list, however they stand in memory.

use Rattle.std.specs.Prelude.{List, [], ◌∷◌}
use Rattle.bw_record.specs.declared.record.Record.{Record}
use Rattle.bw_record.specs.declared.ops.Items.{Items}
use Rattle.bw_record.specs.declared.ops.Items.TheVariants.{One, Several}

abbrev pub listed : Items → List Record
listed (One item) = item ∷ []
listed (Several items) = items.items
