use Rattle.std.proofs.Common.{◌+◌, ◌<◌, ◌≡◌, ◌∙◌, ap, sym, subst, refl, length, true, nat_le, arith}
use Rattle.std.specs.Prelude.{not}
use Rattle.std.proofs.lemmas.Bool.{lt-leb}
use Rattle.bw_record.specs.Record.{key_of}
use Rattle.bw_page.specs.Leaves.{home, result_of, AreLeaves}
use Rattle.bw_page.specs.Shown.{Shown}
use Rattle.bw_leaf.specs.Changed.{Bytes}
use Rattle.bw_page.specs.Gap.{IsPassed}
use Rattle.bw_page.proofs.Law.{home_base}
use Rattle.bw_page.proofs.Parting.{adds_one}
use Rattle.bw_page.proofs.Closed.{home_at, found_at, within_at, same_filed, same_gets, over_at, Follows, follows_split}
use Rattle.bw_page.proofs.leaves.Leaves.split_page.Goals as goal
use Rattle.bw_page.proofs.leaves.Leaves.split_page.Goals.{After-pass}

pub split_one-requires-clause-over : goal.split_one-requires-clause-over
split_one-requires-clause-over c =
    let m = ap (λ (f : Shown). f.m) c.self.view_is in
    let many = c.requires.many in
    over_at c.self.inside c.self.invariant c.args.self.now c.self.view_is c.args.change.now c.requires.aim.lawful c.args.at c.args.count
    c.requires.aim.page c.requires.aim.pairs (omega arith)

pub invariant_of-self : goal.invariant_of-self
invariant_of-self c =
    same_filed c.self.inside _ c.self.invariant refl c.in_err-split_one.ensures.leaves_stay
    (same_gets c.self.inside.index c.split_one.new.index c.in_err-split_one.ensures.index_stays) refl

split : (c : After-pass) → Follows c.args.self.now c.args.change.now
    (record { m = c.self.inside.m; leaves = c.split_one.new.leaves; index = c.split_one.new.index; gap = c.pass.new.gap })
split c =
    let m = ap (λ (f : Shown). f.m) c.self.view_is in
    let many = c.requires.many in
    follows_split c.self.inside c.self.invariant c.args.self.now c.self.view_is c.args.change.now c.requires.aim.lawful c.args.at c.args.count
    c.requires.aim.page c.requires.aim.pairs _ (c.len-before.result + 1) refl c.in_ok-split_one.ensures.evicted (omega arith)
    (ap (λ n. n + 1) c.len-before.ensures.value) (omega arith)
    c.in_ok-split_one.ensures.leaves c.in_ok-split_one.ensures.index (subst (λ (k : Bytes). IsPassed c.self.inside.gap k c.pass.new.gap) c.key.ensures.value c.pass.ensures)

pub invariant_of-self-2 : goal.invariant_of-self-2
invariant_of-self-2 c = (split c).filed

pub returns-clause-ok : goal.returns-clause-ok
returns-clause-ok c = (split c).view

pub returns-clause-plain : goal.returns-clause-plain
returns-clause-plain c = (split c).plain

pub split_one-requires-clause-found : goal.split_one-requires-clause-found
split_one-requires-clause-found c =
    let aim = c.requires.aim in
    found_at c.self.inside c.self.invariant c.args.self.now c.self.view_is c.args.change.now aim.lawful c.args.at c.args.count
    aim.page aim.pairs c.args.found aim.sought

pub split_one-requires-clause-found_within : goal.split_one-requires-clause-found_within
split_one-requires-clause-found_within c =
    let aim = c.requires.aim in
    within_at c.self.inside c.self.invariant c.args.self.now c.self.view_is c.args.change.now aim.lawful c.args.at c.args.count
    aim.page aim.pairs c.args.found aim.ends

pub split_one-requires-clause-adds : goal.split_one-requires-clause-adds
split_one-requires-clause-adds c =
    let aim = c.requires.aim in
    let many = c.requires.many in
    let pairs = aim.pairs in
    let f = c.args.self.now in
    let lawful : AreLeaves f.m f.leaves = subst (λ (x : Shown). AreLeaves x.m x.leaves) c.self.view_is c.self.invariant.lawful in
    let few = (home_base f.m f.leaves (key_of c.args.change.now) lawful).count in
    adds_one f.m c.args.change.now (home (key_of c.args.change.now) f.leaves).pairs c.args.found aim.sought aim.ends few (omega arith)

pub returns-clause-was : goal.returns-clause-was
returns-clause-was c =
    let aim = c.requires.aim in
    let many = c.requires.many in
    let count = aim.pairs in
    let leaf =
    home_at c.self.inside c.self.invariant c.args.self.now c.self.view_is c.args.change.now aim.lawful c.args.at c.args.count
    aim.page aim.pairs c.get.result.now c.get.ensures in
    let pages : c.len-before.result ≡ length c.args.self.now.leaves = c.len-before.ensures.value ∙ ap (λ (f : Shown). length f.leaves) c.self.view_is in
    let over : c.args.self.now.m < length (result_of c.args.self.now.leaves c.args.change.now).pairs = omega arith in
    let splits : true ≡ not (nat_le (length (result_of c.args.self.now.leaves c.args.change.now).pairs) c.args.self.now.m) =
    sym (ap not (lt-leb (length (result_of c.args.self.now.leaves c.args.change.now).pairs) c.args.self.now.m over)) in
    c.in_ok-displaced.ensures ∙ (λ i. record { leaf = leaf i; pages = pages i; key = key_of c.args.change.now; is_split = splits i })
