use Rattle.std.proofs.Common.{◌≡◌}
use Rattle.std.specs.List.{fold}
use Rattle.bw_leaf.specs.Forwards.{after}
use Rattle.bw_leaf.proofs.draft.Draft.after_all.Given as goal

abbrev pub invariant-loop-block : goal.invariant-loop-block
invariant-loop-block l = l.draft ≡ fold (after l.page) l.initial.draft l.yielded
