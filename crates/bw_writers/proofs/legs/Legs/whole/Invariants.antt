use Rattle.std.proofs.Common.{◌≡◌, vec_len}
use Rattle.bw_writers.proofs.legs.Legs.whole.Given as goal

abbrev pub invariant-writers : goal.invariant-writers
invariant-writers l = vec_len l.leg ≡ l.writer
