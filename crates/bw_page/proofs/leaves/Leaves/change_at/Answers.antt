use Rattle.std.proofs.Common.{◌+◌, ◌≡◌, ◌∙◌, ap, refl, sym, subst, IsTrue, arith}
use Rattle.std.specs.FinMap.Entries.{find}
use Rattle.bw_record.specs.Keys.{ascends}
use Rattle.bw_codec.specs.Grammar.{IsBase}
use Rattle.bw_record.specs.Record.{key_of}
use Rattle.bw_record.specs.declared.leaf.Leaf.{Leaf}
use Rattle.bw_leaf.specs.Changed.{Bytes, order, empty_leaf}
use Rattle.bw_page.specs.Leaves.{home}
use Rattle.bw_leaf.specs.Seek.{back_of}
use Rattle.bw_page.specs.Shown.{Shown}
use Rattle.bw_page.specs.Gap.{IsPassed}
use Rattle.bw_page.proofs.Homes.{home-all}
use Rattle.bw_page.proofs.Closed.{leaf_is, same_filed, found_at, within_at, Follows, follows_whole}
use Rattle.bw_page.proofs.leaves.Leaves.change_at.Goals as goal

pub change-requires-clause-found : goal.change-requires-clause-found
change-requires-clause-found c =
    found_at c.self.inside c.self.invariant c.args.self.now c.self.view_is c.args.change.now c.requires.aim.lawful c.args.at c.args.count
    c.requires.aim.page c.requires.aim.pairs c.args.found c.requires.aim.sought

pub change-requires-clause-found_within : goal.change-requires-clause-found_within
change-requires-clause-found_within c =
    within_at c.self.inside c.self.invariant c.args.self.now c.self.view_is c.args.change.now c.requires.aim.lawful c.args.at c.args.count
    c.requires.aim.page c.requires.aim.pairs c.args.found c.requires.aim.ends

pub invariant_of-self : goal.invariant_of-self
invariant_of-self c = same_filed c.self.inside _ c.self.invariant refl c.in_err-back.ensures.unchanged (λ q. refl) refl

whole : (c : goal.After-pass) → Follows c.args.self.now c.args.change.now
    (record { m = c.self.inside.m; leaves = c.change.new.self; index = c.self.inside.index; gap = c.pass.new.gap })
whole c =
    let m = ap (λ (f : Shown). f.m) c.self.view_is in
    let few = c.requires.few in
    follows_whole c.self.inside c.self.invariant c.args.self.now c.self.view_is c.args.change.now c.requires.aim.lawful c.args.at c.args.count
    c.requires.aim.page c.requires.aim.pairs _ refl c.change.ensures.evicted (omega arith) c.in_ok-back.ensures.ok (λ q. refl) (subst (λ (k : Bytes). IsPassed c.self.inside.gap k c.pass.new.gap) c.key.ensures.value c.pass.ensures)

pub invariant_of-self-2 : goal.invariant_of-self-2
invariant_of-self-2 c = (whole c).filed

pub returns-clause-ok : goal.returns-clause-ok
returns-clause-ok c = (whole c).view

pub returns-clause-plain : goal.returns-clause-plain
returns-clause-plain c = (whole c).plain

pub returns-clause-back : goal.returns-clause-back
returns-clause-back c =
    let r = c.args.change.now in
    let inside : c.args.at + 1 ≡ (home (key_of r) c.self.inside.leaves.items).page =
    subst (λ (f : Shown). c.args.at + 1 ≡ (home (key_of r) f.leaves).page) (sym c.self.view_is) c.requires.aim.page in
    let is = leaf_is c.self.inside c.self.invariant r c.requires.aim.lawful c.args.at inside empty_leaf in
    let rises = (home-all (IsBase c.self.inside.m) (key_of r) c.self.inside.leaves.items c.self.invariant.lawful.first c.self.invariant.lawful.each).ascends in
    c.in_ok-back.ensures.back empty_leaf (subst (λ (l : Leaf). IsTrue (ascends l.pairs)) (sym is) rises)
    ∙ ap (λ (l : Leaf). back_of r (find order (key_of r) l.pairs)) is
    ∙ ap (λ (f : Shown). back_of r (find order (key_of r) (home (key_of r) f.leaves).pairs)) c.self.view_is
