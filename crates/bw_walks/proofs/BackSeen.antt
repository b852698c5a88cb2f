-- A walk back, evaluated: over one page, and from an empty page to the one before it.

use Rattle.std.proofs.Common.{Some, None, List, [], ◌∷◌, refl, lit≤, lit<, replicate}
use Rattle.bw_record.specs.declared.leaf.Leaf.{Leaf}
use Rattle.bw_leaf.specs.Changed.{Pairs}
use Rattle.bw_page.specs.Leaves.{union, AreLeaves}
use Rattle.bw_walks.specs.Back.{IsLast, IsLastOn, IsNextBelow}
use Rattle.bw_walks.specs.declared.back.Reach.TheVariants.{With, Without}
use Rattle.bw_walks.proofs.Backwards.{front_next, filled_next, last_counted, come_first, come_found, come_further}

-- ---- keys

-- below a, 0 stands a; below b, a and 127 times 255
below_zero : IsNextBelow (97 ∷ 0 ∷ []) (97 ∷ [])
below_zero = front_next (97 ∷ 0 ∷ []) (97 ∷ []) refl

below_b : IsNextBelow (98 ∷ []) (97 ∷ replicate 127 255)
below_b = filled_next (98 ∷ []) [] (97 ∷ replicate 127 255) 97 127 refl refl refl

-- ---- one page

-- a=1, c=3 and d=4
abbrev three : Pairs
three = (97 ∷ [], 49 ∷ []) ∷ (99 ∷ [], 51 ∷ []) ∷ (100 ∷ [], 52 ∷ []) ∷ []

-- at or below b, and below c: a=1
at_b : IsLastOn With (98 ∷ []) three (Some (97 ∷ [], 49 ∷ []))
at_b = last_counted With (98 ∷ []) three 1 refl refl (lit≤ tt)

below_c : IsLastOn Without (99 ∷ []) three (Some (97 ∷ [], 49 ∷ []))
below_c = last_counted Without (99 ∷ []) three 1 refl refl (lit≤ tt)

-- at or below c: c=3
at_c : IsLastOn With (99 ∷ []) three (Some (99 ∷ [], 51 ∷ []))
at_c = last_counted With (99 ∷ []) three 2 refl refl (lit≤ tt)

-- below a there is none
below_a : IsLastOn Without (97 ∷ []) three None
below_a = last_counted Without (97 ∷ []) three 0 refl refl (lit≤ tt)

-- ---- two pages

-- the first has a=1 and b=2, and the second, from c on, nothing
abbrev first : Leaf
first = record { page = 1; low = []; pairs = (97 ∷ [], 49 ∷ []) ∷ (98 ∷ [], 50 ∷ []) ∷ [] }

abbrev second : Leaf
second = record { page = 2; low = 99 ∷ []; pairs = [] }

abbrev two : List Leaf
two = first ∷ second ∷ []

lawful_two : AreLeaves 4 two
lawful_two = record {
  pages = (refl, (refl, tt));
  first = refl;
  lows = ((λ e. refl, (λ e. absurd (cc), tt)), ((λ e. absurd (cc), (λ e. refl, tt)), tt));
  each = (
    record { page = (lit≤ tt, lit< tt); low = lit≤ tt; count = lit≤ tt; pairs = (((lit≤ tt, lit≤ tt), lit≤ tt), (((lit≤ tt, lit≤ tt), lit≤ tt), tt)); ascends = refl },
    (record { page = (lit≤ tt, lit< tt); low = lit≤ tt; count = lit≤ tt; pairs = tt; ascends = refl }, tt),
  );
  homes = ((refl, (refl, tt)), (tt, tt));
}

-- at or below d: b=2, which stands on the page before
from_d : IsLast (union two) (100 ∷ []) (Some (98 ∷ [], 50 ∷ []))
from_d =
    come_found 4 two lawful_two 1 first refl With (100 ∷ [])
    (come_further 4 two lawful_two 2 second refl With (100 ∷ []) (come_first 4 two lawful_two With (100 ∷ [])) first
    (last_counted With (100 ∷ []) [] 0 refl refl (lit≤ tt)) (record { below = refl; greatest = (λ b. refl, (λ b. absurd (cc), tt)) }))
    (98 ∷ [], 50 ∷ []) (last_counted With (100 ∷ []) first.pairs 2 refl refl (lit≤ tt))
