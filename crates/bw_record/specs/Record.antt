-- What a record changes.

use Rattle.std.specs.Prelude.{ℕ, List}
use Rattle.bw_record.specs.declared.record.Record.{Record}
use Rattle.bw_record.specs.declared.record.Record.TheVariants.{Put, Del}

-- the key that a record changes
abbrev pub key_of : Record → List ℕ
key_of (Put key value) = key
key_of (Del key) = key
