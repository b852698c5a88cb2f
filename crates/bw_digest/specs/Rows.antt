-- What a contract sees of a `Row`.
use Rattle.bw_digest.specs.Sums.{Reach}
use Rattle.bw_digest.specs.declared.row.Row.{Row}

-- how far it has come
abbrev pub reach : Row → Reach
reach row = record { count = row.count; end = row.end; mark = row.mark }
