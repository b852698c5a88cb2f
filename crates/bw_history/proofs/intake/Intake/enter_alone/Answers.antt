use Rattle.bw_history.proofs.Laned.{entered_streams, counts_more, counts_within}
use Rattle.bw_history.proofs.Grouped.{entered_grouped}
use Rattle.bw_history.proofs.intake.Intake.enter_alone.Goals as goal
use Rattle.std.proofs.Common.{length, sym, ap, ◌∙◌, ◌++◌, ℕ, ◌+◌, set, get_or, List, [], ◌∷◌, arith}
use Rattle.bw_history.specs.declared.entry.Entry.{Entry}
use Rattle.bw_history.specs.History.{counts_of}

pub invariant_of-self-clause-takes : goal.invariant_of-self-clause-takes
invariant_of-self-clause-takes c = entered_streams _ _ _ _ c.args.lane (c.args.item.now ∷ []) c.requires.inside c.args.self.now.takes c.pass_at.ensures.count
    c.pass_at.ensures.took (c.push.ensures.items ∙ ap (λ (e : Entry). c.args.self.now.history.items ++ e ∷ []) c.requires.entry)

pub invariant_of-self-clause-grouped : goal.invariant_of-self-clause-grouped
invariant_of-self-clause-grouped c = entered_grouped _ _ c.args.lane (c.args.item.now ∷ []) c.args.self.now.grouped
    (c.push.ensures.items ∙ ap (λ (e : Entry). c.args.self.now.history.items ++ e ∷ []) c.requires.entry)

pub count_more-requires-clause-within : goal.count_more-requires-clause-within
count_more-requires-clause-within c =
    let was = c.args.self.now in
    let bound = counts_within (length was.lanes.items) c.args.lane was.history.items _ (c.args.item.now ∷ []) c.requires.inside
    (c.push.ensures.items ∙ ap (λ (e : Entry). c.args.self.now.history.items ++ e ∷ []) c.requires.entry) in
    let counts = ap (λ (cs : List ℕ). get_or cs c.args.lane 0) was.counted in
    let all = c.len.ensures in
    omega arith

pub invariant_of-self-clause-counted : goal.invariant_of-self-clause-counted
invariant_of-self-clause-counted c =
    let was = c.args.self.now in
    let n = length was.lanes.items in
    c.count_more.ensures
    ∙ ap (λ (cs : List ℕ). set cs c.args.lane (get_or cs c.args.lane 0 + 1)) was.counted
    ∙ sym (counts_more n c.args.lane was.history.items _ (c.args.item.now ∷ []) c.requires.inside
    (c.push.ensures.items ∙ ap (λ (e : Entry). c.args.self.now.history.items ++ e ∷ []) c.requires.entry))
    ∙ ap (λ (k : ℕ). counts_of k c.push.new.self.items) (sym c.pass_at.ensures.count)
