-- One script for each writer so far.
use Rattle.std.proofs.Common.{◌≡◌, vec_len}
use Rattle.bw_writers.proofs.legs.empty_scripts.Given as goal

abbrev pub invariant-writers : goal.invariant-writers
invariant-writers l = vec_len l.scripts ≡ l.counter
