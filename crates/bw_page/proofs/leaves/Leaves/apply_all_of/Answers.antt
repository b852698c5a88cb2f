use Rattle.std.proofs.Common.{◌≡◌, ◌∙◌, ◌∷◌, [], ◌++◌, List, ap, sym, subst, map, take, arith, Err}
use Rattle.std.proofs.lemmas.List.{take_all}
use Rattle.bw_record.specs.declared.record.Record.{Record}
use Rattle.bw_page.specs.declared.fault.ApplyError.TheVariants.{Spent}
use Rattle.bw_page.specs.declared.journal.Undo.{Undo}
use Rattle.bw_page.specs.Leaves.{plain}
use Rattle.bw_page.specs.Shown.{Shown}
use Rattle.bw_page.specs.Journal.{Ran, all_undone}
use Rattle.bw_page.proofs.Runs.{ran_more, all_back, run-plain, none_spent}
use Rattle.bw_page.proofs.Batches.{records_more, next_here, next_spent}
use Rattle.bw_page.proofs.leaves.Leaves.apply_all_of.Goals as goal

pub returns-in-Err-clause-unchanged : goal.returns-in-Err-clause-unchanged
returns-in-Err-clause-unchanged g c =
    c.take_back.ensures ∙ ap (λ (f : Shown). all_undone f c.loop-item.journal.items) c.in-Err.ensures.unchanged
    ∙ all_back _ _ _ _ c.loop-item.invariant.ran

pub returns-in-Err-clause-only_spent : goal.returns-in-Err-clause-only_spent
returns-in-Err-clause-only_spent g c e =
    let error : c.in-Err.error ≡ Spent = cc e in
    next_spent g.T.HasRecord.record_of c.args.items.now c.loop-item.item-index c.item-item.result c.record.result.now c.loop-item-test.true c.item-item.is
    c.record.ensures _ _ _ c.loop-item.invariant.ran (c.in-Err.ensures.only_spent (ap Err error))

pub displace-requires : goal.displace-requires
displace-requires g c =
    next_here g.T.HasRecord.record_of c.args.items.now c.loop-item.item-index c.item-item.result c.record.result.now c.loop-item-test.true c.item-item.is
    c.record.ensures _ _ _ c.loop-item.invariant.ran c.requires

pub loop-item-preserved : goal.loop-item-preserved
loop-item-preserved g c =
    let held = g.T.HasRecord.record_of in
    let at = c.loop-item.item-index in
    let r = c.record.result.now in
    let more = records_more held c.args.items.now at c.item-item.result r c.loop-item-test.true c.item-item.is c.record.ensures in
    let here = next_here held c.args.items.now at c.item-item.result r c.loop-item-test.true c.item-item.is
    c.record.ensures _ _ _ c.loop-item.invariant.ran c.requires in
    let ran = ran_more _ c.loop-item.self c.displace.new.self _ r _ c.in-Ok.undo c.loop-item.invariant.ran c.in-Ok.ensures.lawful
    here c.in-Ok.ensures.room c.in-Ok.ensures.ok c.in-Ok.ensures.undo in
    let count = c.in-Ok-push.ensures.len in
    let before = c.loop-item.invariant.count in
    let grown = c.in-Ok-push.ensures.capacity in
    let room = c.loop-item.invariant.capacity in
    record {
      ran = subst (λ (rs : List Record). Ran c.args.self.now rs c.displace.new.self c.push.new.self.items) (sym more)
          (subst (λ (us : List Undo). Ran c.args.self.now (map held (take at c.args.items.now) ++ r ∷ []) c.displace.new.self
          us) (sym c.in-Ok-push.ensures.items) ran);
      count = omega arith;
      capacity = omega arith;
    }

pub returns-clause-plain : goal.returns-clause-plain
returns-clause-plain g c =
    run-plain _ _ _ _ c.loop-item.invariant.ran
    ∙ ap (λ is. plain c.args.self.now.leaves (map g.T.HasRecord.record_of is)) (take_all c.loop-item.item-index c.args.items.now c.loop-item-test.false)

pub returns-clause-spent : goal.returns-clause-spent
returns-clause-spent g c spent =
    let all = subst (λ is. Ran c.args.self.now (map g.T.HasRecord.record_of is) c.loop-item.self c.loop-item.journal.items)
    (take_all c.loop-item.item-index c.args.items.now c.loop-item-test.false) c.loop-item.invariant.ran in
    absurd (none_spent _ _ _ _ all spent)

pub take_back-requires : goal.take_back-requires
take_back-requires g c = (
  c.args.self.now,
  map g.T.HasRecord.record_of (take c.loop-item.item-index c.args.items.now),
  subst (λ (f : Shown). Ran c.args.self.now (map g.T.HasRecord.record_of (take c.loop-item.item-index c.args.items.now)) f c.loop-item.journal.items)
      (sym c.in-Err.ensures.unchanged) c.loop-item.invariant.ran,
)
