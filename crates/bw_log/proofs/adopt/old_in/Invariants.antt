use Rattle.std.proofs.Common.{◌≡◌, ◌+◌, drop}
use Rattle.bw_log.specs.Adopting.{old_in}
use Rattle.bw_log.proofs.adopt.old_in.Given as goal

abbrev pub invariant-loop-version : goal.invariant-loop-version
invariant-loop-version l = record {
  counted : l.count ≡ l.version-index;
  rest : old_in l.versions ≡ l.count + old_in (drop l.version-index l.versions);
}
