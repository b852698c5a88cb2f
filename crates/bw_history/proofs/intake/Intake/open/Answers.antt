use Rattle.std.proofs.Common.{ap, sym, ◌∙◌}
use Rattle.bw_history.specs.History.{counts_of}
use Rattle.bw_history.proofs.Laned.{lanes_count, fresh_streams, few_of, no_counts}
use Rattle.bw_history.proofs.intake.Intake.open.Goals as goal

pub invariant_of-intake-clause-few : goal.invariant_of-intake-clause-few
invariant_of-intake-clause-few c =
    let n = lanes_count c.in-Ok.ends.items c.args.writers c.in-Ok.ensures.taken in
    let range = c.in-Ok.ensures.in_range.1 in
    let same = c.as_slice.ensures.len in
    let shown = c.as_slice.ensures.value in
    few_of c.in-Ok.ends.items c.as_slice.result.now _ _ shown same n range

pub invariant_of-intake-clause-takes : goal.invariant_of-intake-clause-takes
invariant_of-intake-clause-takes c = fresh_streams c.in-Ok.ends.items _ c.args.writers c.in-Ok.ensures.taken c.new.ensures.items

pub invariant_of-intake-clause-counted : goal.invariant_of-intake-clause-counted
invariant_of-intake-clause-counted c =
    c.in_ok-counts.ensures
    ∙ sym (no_counts c.args.writers c.new.result.items c.new.ensures.items)
    ∙ ap (λ n. counts_of n c.new.result.items) (sym (lanes_count c.in-Ok.ends.items c.args.writers c.in-Ok.ensures.taken))
