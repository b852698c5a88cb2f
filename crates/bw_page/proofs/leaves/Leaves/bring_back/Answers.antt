use Rattle.std.proofs.Common.{◌≡◌, ℕ, zero, suc, ◌+◌, ◌-◌, ◌==◌, ◌∙◌, cond, false, Some, List, ap, refl, arith}
use Rattle.std.specs.Prelude.{slice_set}
use Rattle.bw_page.specs.Shown.{Shown}
use Rattle.bw_record.specs.declared.leaf.Leaf.{Leaf}
use Rattle.bw_page.specs.Leaves.{leaf_at}
use Rattle.bw_page.specs.Seats.{is_among}
use Rattle.bw_page.proofs.Closed.{same_filed}
use Rattle.bw_page.proofs.Seating.{set_itself}
use Rattle.bw_page.proofs.leaves.Leaves.bring_back.Goals as goal

pub invariant_of-self : goal.invariant_of-self
invariant_of-self c =
    same_filed c.self.inside _ c.self.invariant refl
    (c.set.ensures.items ∙ set_itself c.self.inside.leaves.items c.args.page c.args.leaf
    (ap (λ (f : Shown). leaf_at c.args.page f.leaves) c.self.view_is ∙ c.requires))
    (λ q. refl) refl

pub returns-clause-leaves : goal.returns-clause-leaves
returns-clause-leaves c =
    c.set.ensures.items ∙ ap (λ (f : Shown). slice_set f.leaves (c.args.page - 1) c.args.leaf) c.self.view_is
    ∙ set_itself c.args.self.now.leaves c.args.page c.args.leaf c.requires

-- a page that there is is not 0
numbered : (p : ℕ) (leaves : List Leaf) (leaf : Leaf) → leaf_at p leaves ≡ Some leaf → p - 1 + 1 ≡ p
numbered zero leaves leaf h = absurd (cc)
numbered (suc n) leaves leaf h = omega arith

pub returns-clause-evicted : goal.returns-clause-evicted
returns-clause-evicted c p =
    c.set.ensures.evicted p
    ∙ ap (λ n. cond (p == n) false (is_among p c.self.inside.leaves.evicted)) (numbered c.args.page c.args.self.now.leaves c.args.leaf c.requires)
    ∙ ap (λ (f : Shown). cond (p == c.args.page) false (is_among p f.evicted)) c.self.view_is
