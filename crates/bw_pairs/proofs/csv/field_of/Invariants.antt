use Rattle.std.proofs.Common.{◌≡◌, ◌≤◌, drop}
use Rattle.bw_pairs.specs.Csv.{onto, field_from, is_closed}
use Rattle.bw_pairs.specs.declared.csv.At.TheVariants.{Begin}
use Rattle.bw_pairs.proofs.csv.field_of.Given as goal

abbrev pub invariant-loop-index : goal.invariant-loop-index
invariant-loop-index g l = record {
  read :
      onto (g.B.Buffer.held l.reading.field.bytes) (field_from l.reading.at (drop l.index l.line))
      ≡ onto (g.B.Buffer.held l.initial.reading.field.bytes) (field_from Begin l.line);
  quoted : l.reading.field.is_quoted ≡ is_closed l.reading.at;
  room : g.B.Buffer.room l.initial.reading.field.bytes ≤ g.B.Buffer.room l.reading.field.bytes;
}
