-- A script for each writer.
use Rattle.std.proofs.Common.{◌≡◌, vec_len}
use Rattle.bw_writers.proofs.writers.read_lines.Given as goal

abbrev pub invariant-lines : goal.invariant-lines
invariant-lines g l = vec_len l.scripts ≡ l.fn.writers
