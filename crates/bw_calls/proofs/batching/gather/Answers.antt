use Rattle.std.proofs.Common.{◌<◌, ◌≤◌, List, length, take, subst, sym, rules}
use Rattle.std.proofs.lemmas.List.{take_all}
use Rattle.bw_rows.specs.Meaning.{Tables}
use Rattle.bw_calls.specs.Batches.{with_changes}
use Rattle.bw_calls.specs.Standing.{plain_in}
use Rattle.bw_calls.specs.declared.batching.Change.{Change}
use Rattle.bw_rows.specs.Batches.{IsGathering}
use Rattle.bw_calls.proofs.PlainLaws.{behind}
use Rattle.bw_calls.proofs.LeaveLaws.{in_its}
use Rattle.bw_calls.proofs.BatchLaws.{changes_more}
use Rattle.bw_calls.proofs.batching.gather.Goals as goal

pub returns-in_err-set_aside-clause-stays : goal.returns-in_err-set_aside-clause-stays
returns-in_err-set_aside-clause-stays g c = λ lawful.
    let h = c.changes.invariant.2 lawful in
    behind _ _ _ h (c.set_aside.ensures.stays h.lawful)

pub returns-in_err-set_aside-clause-leaves : goal.returns-in_err-set_aside-clause-leaves
returns-in_err-set_aside-clause-leaves g c = λ lawful ts among stops.
    let h = c.changes.invariant.2 lawful in
    c.set_aside.ensures.leaves h.lawful ts (in_its ts _ _ h among) (c.changes.invariant.3 lawful ts among stops)

pub changes-preserved : goal.changes-preserved
changes-preserved g c =
    let inside : c.changes.i < length c.args.changes.now = search rules in (
      c.set_aside.ensures.ready,
      λ tables next gathering. subst (λ (t : Tables). IsGathering tables t (plain_in c.set_aside.new.home (λ z. (goal.Segment-dyn g z).holding z.1)))
          (sym (changes_more next c.args.changes.now c.changes.i c.index-changes-i.result inside c.index-changes-i.is))
          (c.in_ok-set_aside.ensures.gathers tables (with_changes next (take c.changes.i c.args.changes.now)) (c.changes.invariant.1 tables next gathering)),
      λ lawful.
          let h = c.changes.invariant.2 lawful in
          behind _ _ _ h (c.set_aside.ensures.stays h.lawful),
      λ lawful ts among stops.
          let h = c.changes.invariant.2 lawful in
          c.set_aside.ensures.leaves h.lawful ts (in_its ts _ _ h among) (c.changes.invariant.3 lawful ts among stops),
    )

pub returns-clause-gathers : goal.returns-clause-gathers
returns-clause-gathers g c = λ tables next gathering.
    let behind_all : length c.args.changes.now ≤ c.changes.i = search rules in
    subst (λ (l : List Change). IsGathering tables (with_changes next l) (plain_in c.changes.home (λ z. (goal.Segment-dyn g z).holding z.1)))
    (take_all c.changes.i c.args.changes.now behind_all) (c.changes.invariant.1 tables next gathering)
