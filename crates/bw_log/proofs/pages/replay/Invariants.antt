use Rattle.std.proofs.Common.{◌≡◌, None, reverse, vec_len}
use Rattle.std.specs.List.{fold}
use Rattle.bw_leaf.specs.Forwards.{after}
use Rattle.bw_log.proofs.pages.replay.Given as goal

abbrev pub invariant-loop-block : goal.invariant-loop-block
invariant-loop-block l = fold (after l.page) l.draft (reverse l.blocks.items) ≡ fold (after l.page) None (reverse l.initial.blocks.items)

abbrev pub decreases-loop-block : goal.decreases-loop-block
decreases-loop-block l = vec_len l.blocks
