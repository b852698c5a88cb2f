use Rattle.std.proofs.Common.{◌≡◌, ◌∙◌, true, false, ℕ, List, refl, Option, Some, None, sym, ap, subst, arith}
use Rattle.std.specs.Prelude.{is_some}
use Rattle.bw_record.specs.declared.leaf.Leaf.{Leaf}
use Rattle.bw_leaf.specs.Above.{pair_above}
use Rattle.bw_page.specs.Ahead.{IsFirst, HasCome}
use Rattle.bw_leaf.specs.Changed.{Bytes}
use Rattle.bw_page.specs.Leaves.{home, union, AreLeaves}
use Rattle.bw_page.proofs.Ahead.{come_first, come_found, come_further, come_last, ahead_less}
use Rattle.bw_page.proofs.leaves.Leaves.next_at.Goals as goal

come_some : (m : ℕ) (leaves : List Leaf) (key to : Bytes) (found : Option (Bytes × Bytes)) → AreLeaves m leaves → HasCome (union leaves) key to
    → found ≡ pair_above to (home to leaves).pairs → is_some found ≡ true → IsFirst (union leaves) key found
come_some m leaves key to None a come e some = absurd cc
come_some m leaves key to (Some p) a come e some = come_found m leaves a key to p come (sym e)

no_pair : (found above : Option (Bytes × Bytes)) → found ≡ above → is_some found ≡ false → above ≡ None
no_pair None above e none = sym e
no_pair (Some p) above e none = absurd cc

pub pages-init : goal.pages-init
pages-init c = subst (λ (f : Bytes). HasCome (union c.args.self.now.leaves) c.args.key.now f) (sym c.copy-from.ensures)
    (come_first c.args.self.now.leaves c.args.key.now)

pub returns-then-is_some : goal.returns-then-is_some
returns-then-is_some c =
    come_some c.args.self.now.m c.args.self.now.leaves c.args.key.now c.pages.from c.pair_from-found.result c.count.ensures.lawful c.pages.invariant
    (c.pair_from-found.ensures ∙ ap (λ (l : Leaf). pair_above c.pages.from l.pairs) c.home_of.ensures.home)
    (sym c.is_some.ensures ∙ c.if-is_some.true)

pub pages-smaller : goal.pages-smaller
pages-smaller c =
    omega (arith, ahead_less c.pages.from c.in-Some.low c.args.self.now.leaves c.in-Some.ensures.some.above c.in-Some.ensures.some.its)

pub pages-preserved : goal.pages-preserved
pages-preserved c =
    let none = no_pair c.pair_from-found.result _ (c.pair_from-found.ensures ∙ ap (λ (l : Leaf). pair_above c.pages.from l.pairs) c.home_of.ensures.home)
    (sym c.is_some.ensures ∙ c.if-is_some.false) in
    come_further c.args.self.now.m c.args.self.now.leaves c.count.ensures.lawful c.args.key.now c.pages.from c.in-Some.low c.pages.invariant none
    c.in-Some.ensures.some

pub returns-in-None : goal.returns-in-None
returns-in-None c =
    let none = no_pair c.pair_from-found.result _ (c.pair_from-found.ensures ∙ ap (λ (l : Leaf). pair_above c.pages.from l.pairs) c.home_of.ensures.home)
    (sym c.is_some.ensures ∙ c.if-is_some.false) in
    come_last c.args.self.now.m c.args.self.now.leaves c.count.ensures.lawful c.args.key.now c.pages.from c.pages.invariant none (c.in-None.ensures.none refl)
