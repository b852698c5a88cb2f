use Rattle.std.proofs.Common.{◌≡◌, take}
use Rattle.bw_leaf.specs.Changed.{all_changed}
use Rattle.bw_leaf.proofs.draft.Draft.apply_all.Given as goal

abbrev pub invariant-loop-record : goal.invariant-loop-record
invariant-loop-record l = l.self ≡ all_changed (take l.record-index l.records) l.initial.self
