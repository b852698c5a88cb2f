use Rattle.std.proofs.Common.{◌≡◌, ◌≤◌, drop}
use Rattle.std.specs.Io.KnownBytes.{prepend_known}
use Rattle.bw_pairs.specs.Dumps.{unescaped}
use Rattle.bw_pairs.specs.declared.dump.Escape.TheVariants.{Outside}
use Rattle.bw_pairs.proofs.dump.unescaped.Given as goal

abbrev pub invariant-loop-letter : goal.invariant-loop-letter
invariant-loop-letter g l = record {
  read :
      prepend_known (g.B.Buffer.held l.read.bytes) (unescaped l.read.escape (drop l.letter-index l.line))
      ≡ prepend_known (g.B.Buffer.held l.initial.read.bytes) (unescaped Outside l.line);
  room : g.B.Buffer.room l.initial.read.bytes ≤ g.B.Buffer.room l.read.bytes;
}
