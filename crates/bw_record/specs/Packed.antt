-- A record as it stands in memory: whether it is a put, and its pair; that of a delete has no value.

use Rattle.std.specs.Prelude.{ℕ, Bool, true, false, List}
use Rattle.bw_record.specs.declared.record.Record.{Record}
use Rattle.bw_record.specs.declared.record.Record.TheVariants.{Put, Del}
use Rattle.bw_record.specs.declared.packed.Packed.TheInside.{Inside}

-- the record that a pair stands for
abbrev pub record_of : Bool → List ℕ × List ℕ → Record
record_of true pair = Put pair.0 pair.1
record_of false pair = Del pair.0

abbrev pub unpacked : Inside → Record
unpacked a = record_of a.puts a.pair
