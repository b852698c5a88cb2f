use Rattle.std.proofs.Common.{◌∙◌, ap, sym, subst}
use Rattle.bw_page.specs.Shown.{Shown}
use Rattle.bw_page.specs.Journal.{all_undone, IsJournal}
use Rattle.bw_page.proofs.Runs.{step_back, all_undone-push}
use Rattle.bw_page.proofs.leaves.Leaves.take_back.Goals as goal

pub put_back-requires : goal.put_back-requires
put_back-requires c = (step_back c.loop-undo.self c.pop.new.self.items c.in-Some.undo
    (subst (IsJournal c.loop-undo.self) c.in-Some.ensures.items c.loop-undo.invariant.0)).0

pub loop-undo-preserved : goal.loop-undo-preserved
loop-undo-preserved c =
    let back = step_back c.loop-undo.self c.pop.new.self.items c.in-Some.undo
    (subst (IsJournal c.loop-undo.self) c.in-Some.ensures.items c.loop-undo.invariant.0) in (
      subst (λ (f : Shown). IsJournal f c.pop.new.self.items) (sym c.put_back.ensures) back.1,
      ap (λ (f : Shown). all_undone f c.pop.new.self.items) c.put_back.ensures
          ∙ sym (all_undone-push c.loop-undo.self c.pop.new.self.items c.in-Some.undo)
          ∙ ap (all_undone c.loop-undo.self) (sym c.in-Some.ensures.items)
          ∙ c.loop-undo.invariant.1,
    )
