use Rattle.std.proofs.Common.{subst, refl}
use Rattle.bw_leaf.specs.Changed.{Bytes}
use Rattle.bw_page.specs.Gap.{IsPassed}
use Rattle.bw_page.proofs.Closed.{found_at, within_at}
use Rattle.bw_page.proofs.PutBack.{back_here, back_stays, view_back, filed_back}
use Rattle.bw_page.proofs.leaves.Leaves.change_back.Goals as goal

pub aim-at-requires-clause-here : goal.aim-at-requires-clause-here
aim-at-requires-clause-here c =
    (back_here c.self.inside c.self.invariant c.args.self.now c.self.view_is c.args.back c.requires)

pub take_back-requires-clause-found : goal.take_back-requires-clause-found
take_back-requires-clause-found c =
    let aim = c.aim-at.ensures in
    found_at c.self.inside c.self.invariant c.args.self.now c.self.view_is c.args.back aim.lawful c.aim-at.result.0 c.aim-at.result.1
    aim.page aim.pairs c.aim-at.result.2 aim.sought

pub take_back-requires-clause-found_within : goal.take_back-requires-clause-found_within
take_back-requires-clause-found_within c =
    let aim = c.aim-at.ensures in
    within_at c.self.inside c.self.invariant c.args.self.now c.self.view_is c.args.back aim.lawful c.aim-at.result.0 c.aim-at.result.1
    aim.page aim.pairs c.aim-at.result.2 aim.ends

pub take_back-requires-clause-none : goal.take_back-requires-clause-none
take_back-requires-clause-none c =
    let aim = c.aim-at.ensures in
    back_stays c.self.inside c.self.invariant c.args.self.now c.self.view_is c.args.back c.requires c.aim-at.result.2 aim.sought

pub returns : goal.returns
returns c =
    let aim = c.aim-at.ensures in
    view_back c.self.inside c.self.invariant c.args.self.now c.self.view_is c.args.back c.requires aim.lawful c.aim-at.result.0
    aim.page (record { m = c.self.inside.m; leaves = c.take_back.new.self; index = c.self.inside.index; gap = c.pass.new.gap }) refl
    c.take_back.ensures.evicted c.take_back.ensures.items

pub invariant_of-self : goal.invariant_of-self
invariant_of-self c =
    let aim = c.aim-at.ensures in
    filed_back c.self.inside c.self.invariant c.args.self.now c.self.view_is c.args.back c.requires
    (record { m = c.self.inside.m; leaves = c.take_back.new.self; index = c.self.inside.index; gap = c.pass.new.gap }) refl
    (view_back c.self.inside c.self.invariant c.args.self.now c.self.view_is c.args.back c.requires aim.lawful c.aim-at.result.0
    aim.page (record { m = c.self.inside.m; leaves = c.take_back.new.self; index = c.self.inside.index; gap = c.pass.new.gap }) refl
    c.take_back.ensures.evicted c.take_back.ensures.items)
    (λ q. refl) (subst (λ (k : Bytes). IsPassed c.self.inside.gap k c.pass.new.gap) c.key.ensures.value c.pass.ensures)
