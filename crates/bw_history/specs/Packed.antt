-- An entry as a history keeps it.

use Rattle.bw_history.specs.declared.entry.Entry.{Entry}
use Rattle.bw_history.specs.declared.packed.PackedEntry.TheInside.{Inside}

abbrev pub unpacked : Inside → Entry
unpacked a = record { writer = a.writer; more = a.more; item = a.item }
