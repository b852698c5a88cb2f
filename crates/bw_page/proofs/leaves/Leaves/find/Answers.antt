use Rattle.std.proofs.Common.{◌≤◌, ◌∙◌, refl, sym, ap, subst, length}
use Rattle.bw_page.specs.Leaves.{home, AreLeaves}
use Rattle.bw_lows.specs.LowHeads.{page_of_low}
use Rattle.bw_page.specs.Shown.{Shown, TakesKey}
use Rattle.bw_page.proofs.Indexed.{no_low_is_first, greatest_is_home, home_takes, home_within}
use Rattle.bw_page.proofs.leaves.Leaves.find.Goals as goal

pub returns-in-Some-clause-directed : goal.returns-in-Some-clause-directed
returns-in-Some-clause-directed c =
    let page = greatest_is_home c.self.inside.m c.args.key.now c.self.inside.leaves.items c.self.invariant.lawful (page_of_low c.self.inside.index)
    c.self.invariant.index c.in-Some.page c.in-Some.ensures.some in
    page ∙ ap (λ (f : Shown). (home c.args.key.now f.leaves).page) c.self.view_is

pub returns-in-None-clause-directed : goal.returns-in-None-clause-directed
returns-in-None-clause-directed c =
    let page = no_low_is_first c.self.inside.m c.args.key.now c.self.inside.leaves.items c.self.invariant.lawful (page_of_low c.self.inside.index)
    c.self.invariant.index (c.in-None.ensures.none refl) in
    page ∙ ap (λ (f : Shown). (home c.args.key.now f.leaves).page) c.self.view_is

pub returns-in-Some-clause-greatest : goal.returns-in-Some-clause-greatest
returns-in-Some-clause-greatest c =
    let lawful = subst (λ (f : Shown). AreLeaves f.m f.leaves) c.self.view_is c.self.invariant.lawful in
    subst (TakesKey c.args.key.now c.args.self.now.leaves) (sym (returns-in-Some-clause-directed c))
    (home_takes c.args.self.now.m c.args.key.now c.args.self.now.leaves lawful)

pub returns-in-Some-clause-within : goal.returns-in-Some-clause-within
returns-in-Some-clause-within c =
    let lawful = subst (λ (f : Shown). AreLeaves f.m f.leaves) c.self.view_is c.self.invariant.lawful in
    subst (λ n. (1 ≤ n) × (n ≤ length c.args.self.now.leaves)) (sym (returns-in-Some-clause-directed c))
    (home_within c.args.self.now.m c.args.key.now c.args.self.now.leaves lawful)

pub returns-in-None-clause-greatest : goal.returns-in-None-clause-greatest
returns-in-None-clause-greatest c =
    let lawful = subst (λ (f : Shown). AreLeaves f.m f.leaves) c.self.view_is c.self.invariant.lawful in
    subst (TakesKey c.args.key.now c.args.self.now.leaves) (sym (returns-in-None-clause-directed c))
    (home_takes c.args.self.now.m c.args.key.now c.args.self.now.leaves lawful)
