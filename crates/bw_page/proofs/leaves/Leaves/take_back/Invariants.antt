use Rattle.std.proofs.Common.{◌≡◌, vec_len}
use Rattle.bw_page.specs.Journal.{IsJournal, all_undone}
use Rattle.bw_page.proofs.leaves.Leaves.take_back.Given as goal

abbrev pub invariant-loop-undo : goal.invariant-loop-undo
invariant-loop-undo l = IsJournal l.self l.journal.items × (all_undone l.self l.journal.items ≡ all_undone l.initial.self l.initial.journal.items)

abbrev pub decreases-loop-undo : goal.decreases-loop-undo
decreases-loop-undo l = vec_len l.journal
