use Rattle.std.proofs.Common.{◌≡◌, ◌∷◌, ◌++◌, [], List, refl, sym, ap, subst, ◌∙◌, lit≤, lit<}
use Rattle.bw_record.specs.declared.leaf.Leaf.{Leaf}
use Rattle.bw_page.specs.Leaves.{AreLeaves}
use Rattle.page_tests.proofs.tests.page.evicted.two_pages.Goals as goal

abbrev first_leaf : Leaf
first_leaf = record { page = 1; low = []; pairs = (97 ∷ [], 49 ∷ []) ∷ [] }

abbrev second_leaf : Leaf
second_leaf = record { page = 2; low = 99 ∷ []; pairs = (100 ∷ [], 52 ∷ []) ∷ [] }

abbrev two_leaves : List Leaf
two_leaves = first_leaf ∷ second_leaf ∷ []

are_leaves : AreLeaves 4 two_leaves
are_leaves = record {
  pages = (refl, (refl, tt));
  first = refl;
  lows = ((λ _. refl, (λ e. cc, tt)), ((λ e. cc, (λ _. refl, tt)), tt));
  each = (
    record { page = (lit≤ tt, lit< tt); low = lit≤ tt; count = lit≤ tt; pairs = (((lit≤ tt, lit≤ tt), lit≤ tt), tt); ascends = refl },
    (record { page = (lit≤ tt, lit< tt); low = lit≤ tt; count = lit≤ tt; pairs = (((lit≤ tt, lit≤ tt), lit≤ tt), tt); ascends = refl }, tt),
  );
  homes = ((refl, tt), ((refl, tt), tt));
}

-- two leaves pushed
pushed : (now none : List Leaf) (a b : Leaf) → now ≡ (none ++ a ∷ []) ++ b ∷ [] → none ≡ [] → a ≡ first_leaf → b ≡ second_leaf → now ≡ two_leaves
pushed now none a b is empty one two =
    is
    ∙ ap (λ (l : List Leaf). (l ++ a ∷ []) ++ b ∷ []) empty
    ∙ ap (λ (l : Leaf). l ∷ b ∷ []) one
    ∙ ap (λ (l : Leaf). first_leaf ∷ l ∷ []) two

pub of-requires-clause-lawful : goal.of-requires-clause-lawful
of-requires-clause-lawful c =
    let items = c.in_ok-push-2.ensures.items
    ∙ ap (λ (l : List Leaf). l ++ c.in_ok-leaf_of-2.field-0 ∷ []) c.in_ok-push.ensures.items in
    subst (AreLeaves 4) (sym (pushed _ _ _ _ items c.new-leaves.ensures.items c.in_ok-leaf_of.ensures c.in_ok-leaf_of-2.ensures)) are_leaves
