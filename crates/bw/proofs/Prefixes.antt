-- The keys that begin with a prefix stand together: none that does not is between two of them.

use Rattle.std.proofs.Common.{◌≡◌, ◌<◌, Bool, true, false, ◌&&◌, Option, Some, None, [], ◌∷◌, refl, sym, ◌∙◌, subst, arith}
use Rattle.std.proofs.lemmas.Bool.{true≢false, eqb-true, eq-eqb}
use Rattle.std.specs.Prelude.{IsTrue, IfSome, nat_eq}
use Rattle.std.specs.List.{starts_with}
use Rattle.std.specs.Ordering.{MatchOrdering, nat_cmp, is_lt, ordering_then}
use Rattle.std.specs.Cmp.{ranked}
use Rattle.std.specs.Cmp.Lexicographic.{slice_cmp}
use Rattle.std.specs.FinMap as finite
use Rattle.std.specs.declared.cmp.Ordering.TheVariants.{Less, Equal, Greater}
use Rattle.bw_record.specs.Keys.{is_below, IsBytes, IsKey}
use Rattle.bw_record.proofs.Order.{Below, UpTo, not_both, upto_empty, upto-trans, below_upto, below_first, same_first}
use Rattle.bw_leaf.specs.Changed.{Bytes, Map}
use Rattle.bw_page.specs.Ahead.{IsFirst, IsFirstPair}
use Rattle.bw_core.specs.Following.{Follows}
use Rattle.bw_core.specs.Kept.{Kept}
use Rattle.bw_core.proofs.FollowMore.{stays_on}
use Rattle.bw.specs.Keys.{IsAfter}
use Rattle.bw.specs.Walks.{begins, is_early, IsAhead, IsFrom}

-- ---- bytes

both : (a b : Bool) → (a && b) ≡ true → (a ≡ true) × (b ≡ true)
both true b h = (refl, h)
both false b h = absurd (true≢false (sym h))

other : (a b : Bool) → a ≡ true → (a && b) ≡ false → b ≡ false
other true b a h = h
other false b a h = absurd (true≢false (sym a))

-- no key is below a single zero
pub upto_least : (q : Bytes) → IsKey q → UpTo (0 ∷ []) q
upto_least [] is = absurd (let some = is.0 in omega arith)
upto_least (x ∷ xs) is =
    elim (nat_cmp x 0) as (λ o. MatchOrdering o (x < 0) (x ≡ 0) (0 < x) → is_lt (ordering_then o (slice_cmp nat_cmp xs [])) ≡ false) [
      | Less ↦ λ less. absurd (omega arith)
      | Equal ↦ λ same. upto_empty xs
      | Greater ↦ λ more. refl
    ] (ranked x 0 (nat_cmp x 0) refl)

-- ---- prefixes

-- a key is not below its beginning
pub upto_begins : (p q : Bytes) → starts_with nat_eq q p ≡ true → UpTo p q
upto_begins [] q b = upto_empty q
upto_begins (x ∷ xs) [] b = absurd (true≢false (sym b))
upto_begins (x ∷ xs) (y ∷ ys) b =
    let parts = both (nat_eq x y) (starts_with nat_eq ys xs) b in
    same_first y x ys xs (sym (eqb-true x y parts.0)) ∙ upto_begins xs ys parts.1

-- a key that is not below a prefix and does not begin with it is above all that do
below_past : (p q f : Bytes) → starts_with nat_eq q p ≡ true → UpTo p f → starts_with nat_eq f p ≡ false → Below q f
below_past [] q f b u not = absurd (true≢false not)
below_past (x ∷ xs) [] f b u not = absurd (true≢false (sym b))
below_past (x ∷ xs) (z ∷ zs) [] b u not = absurd (true≢false u)
below_past (x ∷ xs) (z ∷ zs) (y ∷ ys) b u not =
    let parts = both (nat_eq x z) (starts_with nat_eq zs xs) b in
    let first : x ≡ z = eqb-true x z parts.0 in
    elim (nat_cmp z y) as (λ o. MatchOrdering o (z < y) (z ≡ y) (y < z) → is_lt (ordering_then o (slice_cmp nat_cmp zs ys)) ≡ true) [
      | Less ↦ λ less. refl
      | Equal ↦ λ same.
          below_past xs zs ys parts.1 (sym (same_first y x ys xs (sym (first ∙ same))) ∙ u)
          (other (nat_eq x y) (starts_with nat_eq ys xs) (eq-eqb x y (first ∙ same)) not)
      | Greater ↦ λ more. not_both (is_below (y ∷ ys) (x ∷ xs)) (below_first y x ys xs (omega arith)) u
    ] (ranked z y (nat_cmp z y) refl)

-- ---- a walk

-- if the first pair's key is not the walk's, none ahead has a value
pub none_ahead : (map : Map) (prefix place : Option Bytes) (first : Option (Bytes × Bytes)) (at key value : Bytes) → first ≡ Some (key, value)
    → is_early prefix place ≡ false → place ≡ Some at → IsFirst map at first → begins prefix key ≡ false
    → (q : Bytes) → IsAhead prefix place q → finite.get map q ≡ None
none_ahead map None place first at key value is within stands f not q ahead = absurd (true≢false not)
none_ahead map (Some p) place first at key value is within stands f not q ahead =
    let pair : IsFirstPair map at (key, value) = subst (IsFirst map at) is f in
    let early : UpTo p at = subst (λ (o : Option Bytes). is_early (Some p) o ≡ false) stands within in
    let from : UpTo at q = subst (λ (o : Option Bytes). IsFrom o q) stands ahead.1 in
    pair.none q from (below_past p q key ahead.0 (upto-trans p at key early pair.from) not)

pub from_pair : (place : Option Bytes) (first : Option (Bytes × Bytes)) (pair : Bytes × Bytes) → first ≡ Some pair
    → IfSome first (λ p. IsFrom place p.0) → IsFrom place pair.0
from_pair place first pair is from = subst (λ (o : Option (Bytes × Bytes)). IfSome o (λ p. IsFrom place p.0)) is from

-- the place after a pair is not below the prefix
pub stays_within : (prefix place next : Option Bytes) (key : Bytes) → is_early prefix place ≡ false → IsFrom place key → IsAfter key next
    → is_early prefix next ≡ false
stays_within None place next key within from after = refl
stays_within (Some p) place None key within from after = refl
stays_within (Some p) None (Some next) key within from after = absurd from
stays_within (Some p) (Some at) (Some next) key within from after =
    upto-trans p at next within (upto-trans at key next from (below_upto key next after.0))

-- ahead of it are the keys above that were
pub ahead_behind : (prefix place next : Option Bytes) (key : Bytes) → IsFrom place key → IsAfter key next → (q : Bytes) → IsBytes q → IsKey q
    → (IsAhead prefix next q → IsAhead prefix place q × IsTrue (is_below key q)) × (IsAhead prefix place q × IsTrue (is_below key q) → IsAhead prefix next q)
ahead_behind prefix None next key from after q bytes is = absurd from
ahead_behind prefix (Some at) None key from after q bytes is =
    (λ ahead. absurd ahead.1, λ was. not_both (is_below key q) was.1 (after q bytes is))
ahead_behind prefix (Some at) (Some next) key from after q bytes is = (
  λ ahead. let above = (after.1 q bytes is).1 ahead.1 in ((ahead.0, upto-trans at key q from (below_upto key q above)), above),
  λ was. (was.0.0, (after.1 q bytes is).0 was.1),
)

-- after the end nothing is read
pub stays : (s : Kept) → Follows s s
stays s = stays_on s s.log
