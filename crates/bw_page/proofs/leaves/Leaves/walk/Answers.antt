use Rattle.std.proofs.Common.{◌≡◌, ◌∙◌, ◌∷◌, [], ◌++◌, List, ap, sym, subst, map, take, arith, Err}
use Rattle.std.proofs.lemmas.Result.{err_from_is_err_and}
use Rattle.bw_record.specs.declared.record.Record.{Record}
use Rattle.bw_page.specs.declared.fault.ApplyError.TheVariants.{Spent}
use Rattle.bw_page.specs.declared.journal.Undo.{Undo}
use Rattle.bw_page.specs.Shown.{Shown}
use Rattle.bw_page.specs.Batch.{step_of, steps_of}
use Rattle.bw_page.specs.Journal.{Ran}
use Rattle.bw_page.proofs.Runs.{ran_more, none_run, steps-push}
use Rattle.bw_page.proofs.Batches.{records_more, next_here, next_spent}
use Rattle.bw_page.proofs.leaves.Leaves.walk.Goals as goal

pub loop-item-init : goal.loop-item-init
loop-item-init g c = record {
  ran = subst (Ran c.args.self.now [] c.args.self.now) (sym c.requires.empty.0)
      (none_run c.args.self.now (let l = c.count.ensures.limit in omega arith) c.count.ensures.lawful c.count.ensures.beyond);
  steps = c.requires.empty.1;
  count = c.requires.none.0;
  told = c.requires.none.1;
  capacity = c.requires.room.0;
  room = c.requires.room.1;
}

pub step-requires : goal.step-requires
step-requires g c =
    next_here g.T.HasRecord.record_of c.args.items.now c.loop-item.item-index c.item-item.result c.record-change.result.now c.loop-item-test.true c.item-item.is
    c.record-change.ensures _ _ _ c.loop-item.invariant.ran c.requires.here

pub returns-in_err-step-clause-only_spent : goal.returns-in_err-step-clause-only_spent
returns-in_err-step-clause-only_spent g c e =
    let p = err_from_is_err_and c.from_residual.result c.from_residual.ensures.1 in
    let was : c.in_err-step.field-0.0 ≡ Spent = cc (e, p.1, p.2) in
    next_spent g.T.HasRecord.record_of c.args.items.now c.loop-item.item-index c.item-item.result c.record-change.result.now c.loop-item-test.true
    c.item-item.is
    c.record-change.ensures _ _ _ c.loop-item.invariant.ran (c.in_err-step.ensures.only_spent (ap Err was))

pub displace-requires : goal.displace-requires
displace-requires g c =
    next_here g.T.HasRecord.record_of c.args.items.now c.loop-item.item-index c.item-item.result c.record-change.result.now c.loop-item-test.true c.item-item.is
    c.record-change.ensures _ _ _ c.loop-item.invariant.ran c.requires.here

pub loop-item-preserved : goal.loop-item-preserved
loop-item-preserved g c =
    let held = g.T.HasRecord.record_of in
    let at = c.loop-item.item-index in
    let r = c.record-change.result.now in
    let more = records_more held c.args.items.now at c.item-item.result r c.loop-item-test.true c.item-item.is c.record-change.ensures in
    let here = next_here held c.args.items.now at c.item-item.result r c.loop-item-test.true c.item-item.is
    c.record-change.ensures _ _ _ c.loop-item.invariant.ran c.requires.here in
    let ran = ran_more _ c.loop-item.self c.displace.new.self _ r _ c.in_ok-displace.field-0 c.loop-item.invariant.ran c.in_ok-displace.ensures.lawful
    here c.in_ok-displace.ensures.room c.in_ok-displace.ensures.ok c.in_ok-displace.ensures.undo in
    let count = c.push_reserved-in-loop-item.ensures.len in
    let told = c.push_reserved.ensures.len in
    let before = c.loop-item.invariant.count in
    let before_told = c.loop-item.invariant.told in
    let grown = c.push_reserved-in-loop-item.ensures.capacity in
    let grown_steps = c.push_reserved.ensures.capacity in
    let room = c.loop-item.invariant.capacity in
    let room_steps = c.loop-item.invariant.room in
    record {
      ran = subst (λ (rs : List Record). Ran c.args.self.now rs c.displace.new.self c.push_reserved-in-loop-item.new.self.items) (sym more)
          (subst (λ (us : List Undo). Ran c.args.self.now (map held (take at c.args.items.now) ++ r ∷ []) c.displace.new.self us)
          (sym c.push_reserved-in-loop-item.ensures.items) ran);
      steps = c.push_reserved.ensures.items
          ∙ (λ i. c.loop-item.invariant.steps i ++ c.in_ok-step.ensures.step i ∷ [])
          ∙ ap (λ (f : Shown). steps_of c.args.self.now (map held (take at c.args.items.now)) ++ step_of f r ∷ []) c.loop-item.invariant.ran.is
          ∙ sym (steps-push c.args.self.now (map held (take at c.args.items.now)) r)
          ∙ ap (steps_of c.args.self.now) (sym more);
      count = omega arith;
      told = omega arith;
      capacity = omega arith;
      room = omega arith;
    }
