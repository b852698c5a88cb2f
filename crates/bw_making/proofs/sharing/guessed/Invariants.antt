use Rattle.std.proofs.Common.{◌≡◌}
use Rattle.bw_making.proofs.sharing.guessed.Given as goal

abbrev pub invariant-entries : goal.invariant-entries
invariant-entries l = l.entries.items ≡ l.fn.entries.items
