use Rattle.std.proofs.Common.{◌≡◌, vec_len}
use Rattle.bw_writers.proofs.legs.Legs.part.Given as goal

abbrev pub invariant-rounds : goal.invariant-rounds
invariant-rounds l = vec_len l.leg ≡ l.writers
