use Rattle.std.proofs.Common.{◌≡◌, ◌+◌, true, false, sym, ◌∙◌, arith}
use Rattle.std.proofs.lemmas.Bool.{eq-eqb, ne_eqb}
use Rattle.bw_history.proofs.Laned.{count_few, count_next}
use Rattle.bw_history.proofs.intake.count_of.Goals.{then-writer, else-writer}
use Rattle.bw_history.proofs.intake.count_of.Goals as goal

pub overflow_add-count : goal.overflow_add-count
overflow_add-count c =
    let few = count_few c.args.writer c.args.entries.now c.loop-entry.entry-index c.loop-entry.count c.loop-entry.invariant.so_far in
    let within = c.loop-entry-test.true in
    let all = c.requires in
    let most = c.ranges.most.fits in
    omega arith

pub loop-entry-preserved : goal.loop-entry-preserved
loop-entry-preserved c = record {
  so_far = elim c.if-writer.branch [
    | then-writer w ↦ w.count-is
        ∙ count_next c.args.writer c.args.entries.now c.loop-entry.entry-index c.loop-entry.count c.entry-item.result true c.loop-entry-test.true
        c.entry-item.is
        (eq-eqb _ _ (sym c.writer.ensures ∙ w.if-writer.true)) c.loop-entry.invariant.so_far
    | else-writer w ↦ w.count-is
        ∙ (let none : c.loop-entry.count ≡ c.loop-entry.count + 0 = omega arith in none)
        ∙ count_next c.args.writer c.args.entries.now c.loop-entry.entry-index c.loop-entry.count c.entry-item.result false c.loop-entry-test.true
        c.entry-item.is
        (ne_eqb _ _ (λ e. w.if-writer.false (c.writer.ensures ∙ e))) c.loop-entry.invariant.so_far
  ];
}
