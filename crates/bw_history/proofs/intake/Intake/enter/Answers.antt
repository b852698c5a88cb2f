use Rattle.bw_history.proofs.Laned.{entered_streams, counts_more, counts_within}
use Rattle.bw_history.proofs.Grouped.{entered_grouped, length_entered}
use Rattle.bw_history.proofs.intake.Intake.enter.Goals as goal
use Rattle.std.proofs.Common.{length, sym, ap, ◌∙◌, ◌++◌, ℕ, ◌+◌, set, get_or, List, arith}
use Rattle.bw_history.specs.History.{counts_of}
use Rattle.bw_history.specs.declared.entry.Entry.{Entry}

pub invariant_of-self-clause-takes : goal.invariant_of-self-clause-takes
invariant_of-self-clause-takes c = entered_streams _ _ _ _ c.args.lane c.args.group.now c.requires.inside c.args.self.now.takes c.take_at.ensures.count
    c.take_at.ensures.took (c.push_all.ensures.items ∙ ap (λ (es : List Entry). c.args.self.now.history.items ++ es) c.requires.entries)

pub invariant_of-self-clause-grouped : goal.invariant_of-self-clause-grouped
invariant_of-self-clause-grouped c = entered_grouped _ _ c.args.lane c.args.group.now c.args.self.now.grouped
    (c.push_all.ensures.items ∙ ap (λ (es : List Entry). c.args.self.now.history.items ++ es) c.requires.entries)

pub count_more-requires-clause-within : goal.count_more-requires-clause-within
count_more-requires-clause-within c =
    let was = c.args.self.now in
    let more = c.push_all.ensures.items ∙ ap (λ (es : List Entry). was.history.items ++ es) c.requires.entries in
    let bound = counts_within (length was.lanes.items) c.args.lane was.history.items _ c.args.group.now c.requires.inside more in
    let counts = ap (λ (cs : List ℕ). get_or cs c.args.lane 0) was.counted in
    let records = c.len-records.ensures.value in
    let all = c.len.ensures in
    omega arith

pub invariant_of-self-clause-counted : goal.invariant_of-self-clause-counted
invariant_of-self-clause-counted c =
    let was = c.args.self.now in
    let more = c.push_all.ensures.items ∙ ap (λ (es : List Entry). was.history.items ++ es) c.requires.entries in
    let n = length was.lanes.items in
    c.count_more.ensures
    ∙ ap (λ (cs : List ℕ). set cs c.args.lane (get_or cs c.args.lane 0 + c.len-records.result)) was.counted
    ∙ ap (λ (k : ℕ). set (counts_of n was.history.items) c.args.lane (get_or (counts_of n was.history.items) c.args.lane 0 + k)) c.len-records.ensures.value
    ∙ sym (counts_more n c.args.lane was.history.items _ c.args.group.now c.requires.inside more)
    ∙ ap (λ (k : ℕ). counts_of k c.push_all.new.self.items) (sym c.take_at.ensures.count)

pub push_all-requires : goal.push_all-requires
push_all-requires c =
    let many = ap length c.requires.entries ∙ length_entered c.args.lane c.args.group.now in
    let few = c.len-records.ensures.few in
    let room = c.requires.room in
    (omega arith, omega arith)
