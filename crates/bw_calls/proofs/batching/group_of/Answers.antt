use Rattle.std.proofs.Common.{◌≡◌, ◌<◌, ◌≤◌, true, length, refl, rules, ◌∙◌}
use Rattle.bw_home.specs.Maps.{maps_of}
use Rattle.bw_calls.proofs.SmallLaws.{first_up, last_up, next_up}
use Rattle.bw_calls.proofs.batching.group_of.Goals as goal

pub changes-init : goal.changes-init
changes-init g c =
    let some : 0 < length c.args.changes.now = search rules in (
      c.record_of.ensures.ready,
      refl,
      λ ts stops. stops,
      λ lawful. first_up (maps_of c.args.home.now (λ z. (goal.Segment-dyn g z).holding z.1)).put (maps_of c.record_of.new.home (λ z. (goal.Segment-dyn g z).holding z.1)).put
          c.args.changes.now c.index-changes-0.result c.in-Some.first _ c.one-group.result c.record_of.ensures.same some c.index-changes-0.is c.in-Some.is c.in_ok-first.ensures.found
          c.one-group.ensures lawful,
    )

pub returns-in_err-join-clause-leaves : goal.returns-in_err-join-clause-leaves
returns-in_err-join-clause-leaves g c = λ ts stops. c.join.ensures.leaves ts (c.changes.invariant.2 ts (c.record_of.ensures.leaves ts stops))

pub returns-then-not-branch-clause-leaves : goal.returns-then-not-branch-clause-leaves
returns-then-not-branch-clause-leaves g c = λ ts stops. c.join.ensures.leaves ts (c.changes.invariant.2 ts (c.record_of.ensures.leaves ts stops))

pub changes-preserved : goal.changes-preserved
changes-preserved g c =
    let inside : c.changes.i < length c.args.changes.now = search rules in
    let has : c.in_ok-join.field-0 ≡ true = search rules in (
      c.join.ensures.ready,
      c.join.ensures.same ∙ c.changes.invariant.1,
      λ ts stops. c.join.ensures.leaves ts (c.changes.invariant.2 ts stops),
      λ lawful. next_up (maps_of c.record_of.new.home (λ z. (goal.Segment-dyn g z).holding z.1)).put (maps_of c.changes.home (λ z. (goal.Segment-dyn g z).holding z.1)).put
          c.args.changes.now c.changes.i c.index-changes-i.result c.changes.group c.join.new.group c.changes.invariant.1 inside c.index-changes-i.is
          (c.changes.invariant.3 lawful) (λ tables up. c.in_ok-join.ensures.joined tables up has),
    )

pub returns-clause-group : goal.returns-clause-group
returns-clause-group g c =
    let behind : length c.args.changes.now ≤ c.changes.i = search rules in
    last_up (maps_of c.args.home.now (λ z. (goal.Segment-dyn g z).holding z.1)).put (maps_of c.record_of.new.home (λ z. (goal.Segment-dyn g z).holding z.1)).put
    c.args.changes.now c.changes.i c.changes.group c.record_of.ensures.same behind c.changes.invariant.3

pub returns-clause-leaves : goal.returns-clause-leaves
returns-clause-leaves g c = λ ts stops. c.changes.invariant.2 ts (c.record_of.ensures.leaves ts stops)
