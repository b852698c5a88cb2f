use Rattle.std.proofs.Common.{◌≡◌, ℕ, suc, ◌+◌, ◌∙◌, ap, sym, subst, take, arith}
use Rattle.std.specs.Prelude.{IfSome}
use Rattle.bw_log.specs.Contents.{counted}
use Rattle.bw_page.specs.Leaves.{leaf_at}
use Rattle.bw_core.specs.Needed.{needed_by, needed_of}
use Rattle.bw_core.specs.Views.{kept_by}
use Rattle.bw_core.proofs.NeededMore.{needed_none, needed_all, needed_next}
use Rattle.bw_core.proofs.store.Core.needed_between.Goals as goal

pub pages-init : goal.pages-init
pages-init g c =
    let s = kept_by c.args.self.now (λ z. (goal.Segment-dyn g z).holding z.1) in
    record { value = sym (needed_none c.args.after c.args.last (counted s.log) s.filed.leaves); small = omega arith }

pub pages-preserved : goal.pages-preserved
pages-preserved g c =
    let s = kept_by c.args.self.now (λ z. (goal.Segment-dyn g z).holding z.1) in
    let frames = counted s.log in
    let leaves = s.filed.leaves in
    let within = c.pages-test.true in
    let count = c.count-before-end.ensures.value in
    let at : c.pages.before + 1 ≡ suc c.pages.before = omega arith in
    let here = subst (λ (p : ℕ). IfSome (leaf_at p leaves) (λ l. c.needed_on-needed.result ≡ needed_by c.args.after c.args.last frames l)) at
    c.needed_on-needed.ensures.value in
    let next = needed_next c.args.after c.args.last frames leaves c.pages.before c.needed_on-needed.result (omega arith) here in
    let same = ap (λ (n : ℕ). needed_of c.args.after c.args.last frames (take n leaves)) at in
    let so_far = c.pages.invariant.value in
    let small = c.pages.invariant.small in
    let few = c.needed_on-needed.ensures.small in
    record { value = omega arith; small = omega arith }

pub returns : goal.returns
returns g c =
    let s = kept_by c.args.self.now (λ z. (goal.Segment-dyn g z).holding z.1) in
    let end = c.pages-test.false in
    let count = c.count-before-end.ensures.value in
    c.pages.invariant.value ∙ needed_all c.args.after c.args.last (counted s.log) s.filed.leaves c.pages.before (omega arith)
