use Rattle.std.proofs.Common.{◌≡◌, ◌<◌, None, drop}
use Rattle.std.specs.Option.{IfSome}
use Rattle.bw_leaf.specs.Marks.{mark_after}
use Rattle.bw_leaf.proofs.chain.newest_mark.Given as goal

abbrev pub invariant-loop-i : goal.invariant-loop-i
invariant-loop-i l = (mark_after l.i l.found (drop l.i l.links) ≡ mark_after 0 None l.links) × IfSome l.found (λ mark. mark.0 < l.i)
