use Rattle.std.proofs.Common.{ℕ, List, ap, refl, ◌∙◌, arith, rules}
use Rattle.bw_record.specs.declared.block.Block.{Block}
use Rattle.bw_making.specs.Overlay.{is_made}
use Rattle.bw_core.specs.Views.{kept_by}
use Rattle.bw_history.specs.History.{are_whole}
use Rattle.bw_history.proofs.Grouped.{whole_cut}
use Rattle.bw_core.proofs.Forgetting.{gone_flushed, gone_stopped}
use Rattle.bw_core.proofs.FrameMore.{all_appended}
use Rattle.bw_core.proofs.MayAppend.{may_follow_at, flushed_at, appended_now, stopped_at}
use Rattle.bw_core.proofs.store.Core.append_making.Goals as goal

pub append_to-requires-clause-follows : goal.append_to-requires-clause-follows
append_to-requires-clause-follows g c = may_follow_at c.requires.sound c.requires.next c.requires.some c.requires.fits c.seal.new.self c.seal.ensures

pub invariant_of-self-in-Ok : goal.invariant_of-self-in-Ok
invariant_of-self-in-Ok g c =
    let was = c.args.self.now in
    let s = kept_by was (λ z. (goal.Segment-dyn g z).holding z.1) in
    let whole = ap (λ (cs : List ℕ). are_whole cs was.intake.history.items) c.push_reserved.ensures.items
    ∙ whole_cut was.seals.cuts.items was.intake.history.items _ was.whole was.intake.grouped c.len-end.ensures in
    let forgotten = gone_flushed s _ _ _ _ c.requires.sound (all_appended s c.requires.sound c.requires.works)
    c.push_reserved.ensures.items c.len-end.ensures refl was.forgotten in
    ((λ p evicted. ap (λ (bs : List Block). is_made p bs) c.begin_next.ensures.empty, tt), (whole, (forgotten, (was.began, tt))))

pub invariant_of-self-in-Err-1 : goal.invariant_of-self-in-Err-1
invariant_of-self-in-Err-1 g c =
    let was = c.args.self.now in
    let s = kept_by was (λ z. (goal.Segment-dyn g z).holding z.1) in
    let all = all_appended s c.requires.sound c.requires.works in
    let whole = ap (λ (cs : List ℕ). are_whole cs was.intake.history.items) c.push_reserved.ensures.items
    ∙ whole_cut was.seals.cuts.items was.intake.history.items _ was.whole was.intake.grouped c.len-end.ensures in
    let forgotten = gone_stopped s _ _ _ (omega arith) c.push_reserved.ensures.items was.forgotten in
    record { whole = whole; forgotten = forgotten; began = was.began }

pub returns-in-Ok-clause-keeps : goal.returns-in-Ok-clause-keeps
returns-in-Ok-clause-keeps g c = record {
  sound = (
      flushed_at c.requires.sound c.requires.next c.requires.works c.begin_next.new.making c.seal.new.self _ c.push_reserved.new.self.items _ c.seal.ensures
      c.begin_next.ensures c.in-Ok.ensures.leaves.sound c.in-Ok.ensures.leaves.added c.in-Ok.ensures.leaves.log
      c.push_reserved.ensures.items c.len-end.ensures);
  intake = search rules;
  noted = search rules;
}

pub returns-in-Ok-clause-leaves : goal.returns-in-Ok-clause-leaves
returns-in-Ok-clause-leaves g c =
    appended_now c.begin_next.new.making c.seal.new.self _ c.push_reserved.new.self.items _ c.seal.ensures
    c.begin_next.ensures c.in-Ok.ensures.leaves.added c.in-Ok.ensures.leaves.log
    c.push_reserved.ensures.items c.len-end.ensures

pub returns-in-Err-clause-keeps : goal.returns-in-Err-clause-keeps
returns-in-Err-clause-keeps g c = record {
  sound = (
      stopped_at c.requires.sound c.requires.next c.requires.works c.seal.new.self _ c.push_reserved.new.self.items _ c.in-Err.fault _ c.seal.ensures
      c.in-Err.ensures.leaves.sound c.in-Err.ensures.leaves.log
      (c.in-Err.ensures.prepared (rw c.seal.ensures c.requires.ready)) c.in-Err.ensures.leaves.device c.push_reserved.ensures.items
      c.len-end.ensures);
  intake = search rules;
  noted = search rules;
}
