use Rattle.std.proofs.Common.{◌≡◌, ◌≤◌, ◌+◌, ◌-◌, ◌∙◌, sym, ap, subst, length, IsTrue, arith}
use Rattle.std.specs.FinMap.Entries.{find}
use Rattle.bw_record.specs.declared.leaf.Leaf.{Leaf}
use Rattle.bw_leaf.specs.Changed.{order}
use Rattle.bw_page.specs.Leaves.{home, AreLeaves}
use Rattle.bw_page.specs.Shown.{Shown}
use Rattle.bw_record.specs.Keys.{ascends}
use Rattle.bw_codec.specs.Grammar.{IsBase}
use Rattle.bw_page.specs.Seats.{is_among}
use Rattle.bw_page.proofs.Homes.{home-all}
use Rattle.bw_page.proofs.Indexed.{home_within}
use Rattle.bw_page.proofs.Law.{get-union}
use Rattle.bw_page.proofs.Homes.{home_stands}
use Rattle.bw_page.proofs.leaves.Leaves.home_on.Goals as goal

pub overflow_sub-page : goal.overflow_sub-page
overflow_sub-page c =
    let lawful = subst (λ (f : Shown). AreLeaves f.m f.leaves) c.self.view_is c.self.invariant.lawful in
    let within = home_within c.args.self.now.m c.args._key.now c.args.self.now.leaves lawful in
    omega (arith, within.0, c.requires.page)

pub get-requires-clause-within : goal.get-requires-clause-within
get-requires-clause-within c =
    let lawful = subst (λ (f : Shown). AreLeaves f.m f.leaves) c.self.view_is c.self.invariant.lawful in
    let within = home_within c.args.self.now.m c.args._key.now c.args.self.now.leaves lawful in
    let list : length c.self.inside.leaves.items ≡ length c.args.self.now.leaves = ap (λ (f : Shown). length f.leaves) c.self.view_is in
    omega (arith, within.0, within.1, c.requires.page, list)

pub get-requires-clause-here : goal.get-requires-clause-here
get-requires-clause-here c =
    let lawful = subst (λ (f : Shown). AreLeaves f.m f.leaves) c.self.view_is c.self.invariant.lawful in
    let within = home_within c.args.self.now.m c.args._key.now c.args.self.now.leaves lawful in
    let same : c.args.page - 1 + 1 ≡ (home c.args._key.now c.args.self.now.leaves).page = omega (arith, within.0, c.requires.page) in
    ap (λ p. is_among p c.self.inside.leaves.evicted) same
    ∙ ap (λ (f : Shown). is_among (home c.args._key.now c.args.self.now.leaves).page f.evicted) c.self.view_is ∙ c.requires.here

pub returns-clause-home : goal.returns-clause-home
returns-clause-home c =
    let lawful = subst (λ (f : Shown). AreLeaves f.m f.leaves) c.self.view_is c.self.invariant.lawful in
    let stands = home_stands c.args.self.now.m c.args._key.now c.args.self.now.leaves lawful c.get.result.now in
    let list : c.self.inside.leaves.items ≡ c.args.self.now.leaves = ap (λ (f : Shown). f.leaves) c.self.view_is in
    cc (c.get.ensures, stands, c.requires.page, list)

pub returns-clause-ascends : goal.returns-clause-ascends
returns-clause-ascends c =
    let lawful = subst (λ (f : Shown). AreLeaves f.m f.leaves) c.self.view_is c.self.invariant.lawful in
    subst (λ (l : Leaf). IsTrue (ascends l.pairs)) (sym (returns-clause-home c))
    (home-all (IsBase c.args.self.now.m) c.args._key.now c.args.self.now.leaves lawful.first lawful.each).ascends

pub returns-clause-value : goal.returns-clause-value
returns-clause-value c =
    let lawful = subst (λ (f : Shown). AreLeaves f.m f.leaves) c.self.view_is c.self.invariant.lawful in
    get-union c.args.self.now.m c.args._key.now c.args.self.now.leaves lawful
    ∙ ap (λ (l : Leaf). find order c.args._key.now l.pairs) (sym (returns-clause-home c))

pub returns-clause-within : goal.returns-clause-within
returns-clause-within c =
    let lawful = subst (λ (f : Shown). AreLeaves f.m f.leaves) c.self.view_is c.self.invariant.lawful in
    subst (λ (l : Leaf). (1 ≤ l.page) × (l.page ≤ length c.args.self.now.leaves)) (sym (returns-clause-home c))
    (home_within c.args.self.now.m c.args._key.now c.args.self.now.leaves lawful)
