-- Pairs in the order of their keys: split, searched and changed.

use Rattle.std.proofs.Common.{◌≡◌, ℕ, zero, suc, ◌+◌, ◌<◌, ◌≤◌, Bool, true, false, cond, not, ◌&&◌, Option, Some, None, List, [], ◌∷◌, ◌++◌, length, take, drop}
use Rattle.std.proofs.Common.{IsTrue, refl, sym, ap, ◌∙◌, subst, arith, T}
use Rattle.std.specs.List.{AllByRecursion as All}
use Rattle.std.specs.Ordering.{is_lt, is_eq, eq_by_cmp}
use Rattle.std.specs.Cmp.{eq_by_cmp_equiv}
use Rattle.std.specs.FinMap as finite
use Rattle.std.specs.FinMap.{get-insert, get-remove}
use Rattle.std.specs.FinMap.Entries.{put, find, is_sorted, below_all, where_key, by_order, is_sorted-put, is_sorted-where_key, find-put, find-where_key}
use Rattle.std.specs.declared.cmp.Ordering.TheVariants.{Less, Equal, Greater}
use Rattle.bw_record.specs.Keys.{is_below, ascends}
use Rattle.bw_codec.specs.Grammar.{first_key}
use Rattle.bw_record.specs.Record.{key_of}
use Rattle.bw_record.specs.declared.record.Record.{Record}
use Rattle.bw_record.specs.declared.record.Record.TheVariants.{Put, Del}
use Rattle.bw_record.proofs.Order.{order-same, Below, UpTo, order-total, below-trans, below_upto, below-upto, upto-refl, below_apart, above_apart}
use Rattle.bw_leaf.specs.Changed.{Bytes, Pairs, Map, order, without, changed_pairs, changed_map}

-- ---- each element of a list

pub all-map : {X : Type 0} (P Q : X → Type 0) → ((x : X) → P x → Q x) → (xs : List X) → All P xs → All Q xs
all-map P Q f [] h = tt
all-map P Q f (x ∷ xs) h = (f x h.0, all-map P Q f xs h.1)

pub all-zip : {X : Type 0} (P Q R : X → Type 0) → ((x : X) → P x → Q x → R x) → (xs : List X) → All P xs → All Q xs → All R xs
all-zip P Q R f [] h k = tt
all-zip P Q R f (x ∷ xs) h k = (f x h.0 k.0, all-zip P Q R f xs h.1 k.1)

pub all-always : {X : Type 0} (P : X → Type 0) → ((x : X) → P x) → (xs : List X) → All P xs
all-always P f [] = tt
all-always P f (x ∷ xs) = (f x, all-always P f xs)

pub all-push : {X : Type 0} (P : X → Type 0) (xs : List X) (x : X) → All P xs → P x → All P (xs ++ x ∷ [])
all-push P [] x h k = (k, tt)
all-push P (y ∷ ys) x h k = (h.0, all-push P ys x h.1 k)

pub all-take : {X : Type 0} (P : X → Type 0) (n : ℕ) (xs : List X) → All P xs → All P (take n xs)
all-take P zero xs h = tt
all-take P (suc n) [] h = tt
all-take P (suc n) (x ∷ xs) h = (h.0, all-take P n xs h.1)

pub all-drop : {X : Type 0} (P : X → Type 0) (n : ℕ) (xs : List X) → All P xs → All P (drop n xs)
all-drop P zero xs h = h
all-drop P (suc n) [] h = tt
all-drop P (suc n) (x ∷ xs) h = all-drop P n xs h.1

-- ---- pairs in order

-- each key is below all later ones
abbrev pub Rises : Pairs → Type 0
Rises [] = Unit {0}
Rises (p ∷ ps) = All (λ q. Below p.0 q.0) ps × Rises ps

below_next : (a : Bytes) (p : Bytes × Bytes) (ps : Pairs) → Below a p.0 → All (λ q. Below p.0 q.0) ps → All (λ q. Below a q.0) ps
below_next a p ps h k = all-map (λ q. Below p.0 q.0) (λ q. Below a q.0) (λ q b. below-trans a p.0 q.0 h b) ps k

both : (a b : Bool) → (a && b) ≡ true → (a ≡ true) × (b ≡ true)
both true b h = (refl, h)
both false b h = (h, absurd (cc))

pub ascends_rises : (ps : Pairs) → IsTrue (ascends ps) → Rises ps
ascends_rises [] h = tt
ascends_rises (p ∷ []) h = (tt, tt)
ascends_rises (p ∷ q ∷ ps) h =
    let two = both (is_below p.0 q.0) (ascends (q ∷ ps)) h in
    let rest = ascends_rises (q ∷ ps) two.1 in
    ((two.0, below_next p.0 q ps two.0 rest.0), rest)

pub rises_ascends : (ps : Pairs) → Rises ps → IsTrue (ascends ps)
rises_ascends [] h = refl
rises_ascends (p ∷ []) h = refl
rises_ascends (p ∷ q ∷ ps) h = ap (λ b. b && ascends (q ∷ ps)) h.0.0 ∙ rises_ascends (q ∷ ps) h.1

to_T : (b : Bool) → b ≡ true → T b
to_T true h = tt
to_T false h = absurd (cc)

from_T : (b : Bool) → T b → b ≡ true
from_T true h = refl
from_T false h = absurd h

and_true : (a b : Bool) → a ≡ true → b ≡ true → (a && b) ≡ true
and_true a b h k = rw h k

below_all-from : (a : Bytes) (ps : Pairs) → All (λ q. Below a q.0) ps → below_all order a ps ≡ true
below_all-from a [] h = refl
below_all-from a (p ∷ ps) h = and_true _ _ h.0 (below_all-from a ps h.1)

below_all-to : (a : Bytes) (ps : Pairs) → below_all order a ps ≡ true → All (λ q. Below a q.0) ps
below_all-to a [] h = tt
below_all-to a (p ∷ ps) h = let two = both _ _ h in (two.0, below_all-to a ps two.1)

rises_true : (ps : Pairs) → Rises ps → is_sorted order ps ≡ true
rises_true [] h = refl
rises_true (p ∷ ps) h = and_true _ _ (below_all-from p.0 ps h.0) (rises_true ps h.1)

true_rises : (ps : Pairs) → is_sorted order ps ≡ true → Rises ps
true_rises [] h = tt
true_rises (p ∷ ps) h = let two = both _ _ h in (below_all-to p.0 ps two.0, true_rises ps two.1)

pub rises_T : (ps : Pairs) → Rises ps → T (is_sorted order ps)
rises_T ps h = to_T _ (rises_true ps h)

pub T_rises : (ps : Pairs) → T (is_sorted order ps) → Rises ps
T_rises ps h = true_rises ps (from_T _ h)

-- ---- split in two

pub rises-take : (n : ℕ) (ps : Pairs) → Rises ps → Rises (take n ps)
rises-take zero ps h = tt
rises-take (suc n) [] h = tt
rises-take (suc n) (p ∷ ps) h = (all-take (λ q. Below p.0 q.0) n ps h.0, rises-take n ps h.1)

pub rises-drop : (n : ℕ) (ps : Pairs) → Rises ps → Rises (drop n ps)
rises-drop zero ps h = h
rises-drop (suc n) [] h = tt
rises-drop (suc n) (p ∷ ps) h = rises-drop n ps h.1

-- what holds of each key holds of the first one
pub first-all : (P : Bytes → Type 0) (ps : Pairs) → 1 ≤ length ps → All (λ p. P p.0) ps → P (first_key ps)
first-all P [] h k = absurd (omega arith)
first-all P (p ∷ ps) h k = k.0

dropped : (n : ℕ) (ps : Pairs) → n < length ps → 1 ≤ length (drop n ps)
dropped zero [] h = absurd (omega arith)
dropped zero (p ∷ ps) h = omega arith
dropped (suc n) [] h = absurd (omega arith)
dropped (suc n) (p ∷ ps) h = dropped n ps (omega arith)

-- the keys in front of a split are below the first one after it
pub lower_below : (n : ℕ) (ps : Pairs) → n < length ps → Rises ps → All (λ p. Below p.0 (first_key (drop n ps))) (take n ps)
lower_below zero ps h r = tt
lower_below (suc n) [] h r = tt
lower_below (suc n) (p ∷ ps) h r =
    (first-all (λ k. Below p.0 k) (drop n ps) (dropped n ps (omega arith)) (all-drop (λ q. Below p.0 q.0) n ps r.0), lower_below n ps (omega arith) r.1)

from_first : (ps : Pairs) → Rises ps → All (λ p. UpTo (first_key ps) p.0) ps
from_first [] r = tt
from_first (p ∷ ps) r = (upto-refl p.0, all-map (λ q. Below p.0 q.0) (λ q. UpTo p.0 q.0) (λ q b. below_upto p.0 q.0 b) ps r.0)

-- the keys after a split are not below the first of them
pub upper_from : (n : ℕ) (ps : Pairs) → Rises ps → All (λ p. UpTo (first_key (drop n ps)) p.0) (drop n ps)
upper_from n ps r = from_first (drop n ps) (rises-drop n ps r)

-- ---- looked up

pub find-none : (q : Bytes) (ps : Pairs) → All (λ p. eq_by_cmp order q p.0 ≡ false) ps → find order q ps ≡ None
find-none q [] h = refl
find-none q (p ∷ ps) h = rw h.0 (find-none q ps h.1)

find-front : (q : Bytes) (n : ℕ) (ps : Pairs) → All (λ p. eq_by_cmp order q p.0 ≡ false) (drop n ps) → find order q (take n ps) ≡ find order q ps
find-front q zero ps h = sym (find-none q ps h)
find-front q (suc n) [] h = refl
find-front q (suc n) (p ∷ ps) h = ap (λ v. cond (eq_by_cmp order q p.0) (Some p.1) v) (find-front q n ps h)

find-back : (q : Bytes) (n : ℕ) (ps : Pairs) → All (λ p. eq_by_cmp order q p.0 ≡ false) (take n ps) → find order q (drop n ps) ≡ find order q ps
find-back q zero ps h = refl
find-back q (suc n) [] h = refl
find-back q (suc n) (p ∷ ps) h = find-back q n ps h.1 ∙ sym (ap (λ b. cond b (Some p.1) (find order q ps)) h.0)

pub find-lower : (q : Bytes) (n : ℕ) (ps : Pairs) → Rises ps → Below q (first_key (drop n ps)) → find order q (take n ps) ≡ find order q ps
find-lower q n ps r b =
    find-front q n ps (all-map (λ p. UpTo (first_key (drop n ps)) p.0) (λ p. eq_by_cmp order q p.0 ≡ false) (λ p u. below_apart q p.0 (below-upto q _ p.0 b u))
    (drop n ps) (upper_from n ps r))

pub find-upper : (q : Bytes) (n : ℕ) (ps : Pairs) → n < length ps → Rises ps → UpTo (first_key (drop n ps)) q → find order q (drop n ps) ≡ find order q ps
find-upper q n ps h r u =
    find-back q n ps (all-map (λ p. Below p.0 (first_key (drop n ps))) (λ p. eq_by_cmp order q p.0 ≡ false) (λ p b. above_apart q p.0 (below-upto p.0 _ q b u))
    (take n ps) (lower_below n ps h r))

-- ---- changed

-- whether a key is another one
abbrev pub other : Bytes → Bytes → Bool
other key k = not (eq_by_cmp order key k)

kept_above : (key : Bytes) (ps : Pairs) → All (λ p. Below key p.0) ps → where_key order (other key) ps ≡ ps
kept_above key [] h = refl
kept_above key (p ∷ ps) h = rw (below_apart key p.0 h.0) (ap (λ xs. p ∷ xs) (kept_above key ps h.1))

without_is : (key : Bytes) (ps : Pairs) → Rises ps → without key ps ≡ where_key order (other key) ps
without_is key [] r = refl
without_is key (p ∷ ps) r =
    elim (order key p.0) as (λ o. order key p.0 ≡ o
    → by_order o (p ∷ ps) ps (p ∷ without key ps) ≡ cond (not (is_eq o)) (p ∷ where_key order (other key) ps) (where_key order (other key) ps)) [
      | Less ↦ λ e. ap (λ xs. p ∷ xs) (sym (kept_above key ps (below_next key p ps (ap is_lt e) r.0)))
      | Equal ↦ λ e. sym (subst (λ k. where_key order (other k) ps ≡ ps) (sym (order-same key p.0 e)) (kept_above p.0 ps r.0))
      | Greater ↦ λ e. ap (λ xs. p ∷ xs) (without_is key ps r.1)
    ] refl

pub rises-changed : (r : Record) (ps : Pairs) → Rises ps → Rises (changed_pairs r ps)
rises-changed (Put key value) ps h = T_rises _ (is_sorted-put order order-total key value ps (rises_T ps h))
rises-changed (Del key) ps h = subst Rises (sym (without_is key ps h)) (T_rises _ (is_sorted-where_key order (other key) ps (rises_T ps h)))

-- what a record makes of its key
abbrev pub value_of : Record → Option Bytes
value_of (Put key value) = Some value
value_of (Del key) = None

turned : {X : Type 0} (b : Bool) (x y : X) → cond (not b) x y ≡ cond b y x
turned true x y = refl
turned false x y = refl

same_test : (key q : Bytes) → eq_by_cmp order key q ≡ eq_by_cmp order q key
same_test key q = (eq_by_cmp_equiv order-total).symm key q

pub find-changed : (q : Bytes) (r : Record) (ps : Pairs) → Rises ps
    → find order q (changed_pairs r ps) ≡ cond (eq_by_cmp order q (key_of r)) (value_of r) (find order q ps)
find-changed q (Put key value) ps h = find-put order order-total q key value ps
find-changed q (Del key) ps h =
    ap (find order q) (without_is key ps h)
    ∙ find-where_key order (other key) q (λ x t. ap (λ k. other key k) (sym (order-same q x t))) ps
    ∙ turned (eq_by_cmp order key q) (find order q ps) None
    ∙ ap (λ b. cond b None (find order q ps)) (same_test key q)

pub get-changed : (m : Map) (r : Record) (q : Bytes) → finite.get (changed_map m r) q ≡ cond (eq_by_cmp order q (key_of r)) (value_of r) (finite.get m q)
get-changed m (Put key value) q = get-insert order-total m key value q
get-changed m (Del key) q = get-remove order-total m key q

-- what is said of a new pair
abbrev pub HoldsOfNew : (Bytes × Bytes → Type 0) → Record → Type 0
HoldsOfNew P (Put key value) = P (key, value)
HoldsOfNew P (Del key) = Unit {0}

put-all : (P : Bytes × Bytes → Type 0) (key value : Bytes) (ps : Pairs) → P (key, value) → All P ps → All P (put order key value ps)
put-all P key value [] n h = (n, tt)
put-all P key value (p ∷ ps) n h =
    elim (order key p.0) as (λ o. order key p.0 ≡ o → All P (by_order o ((key, value) ∷ p ∷ ps) ((p.0, value) ∷ ps) (p ∷ put order key value ps))) [
      | Less ↦ λ e. (n, h)
      | Equal ↦ λ e. (subst (λ k. P (k, value)) (order-same key p.0 e) n, h.1)
      | Greater ↦ λ e. (h.0, put-all P key value ps n h.1)
    ] refl

without-all : (P : Bytes × Bytes → Type 0) (key : Bytes) (ps : Pairs) → All P ps → All P (without key ps)
without-all P key [] h = tt
without-all P key (p ∷ ps) h =
    elim (order key p.0) as (λ o. All P (by_order o (p ∷ ps) ps (p ∷ without key ps))) [
      | Less ↦ h
      | Equal ↦ h.1
      | Greater ↦ (h.0, without-all P key ps h.1)
    ]

-- what holds of each pair and of the new one holds of each after the change
pub all-changed : (P : Bytes × Bytes → Type 0) (r : Record) (ps : Pairs) → HoldsOfNew P r → All P ps → All P (changed_pairs r ps)
all-changed P (Put key value) ps n h = put-all P key value ps n h
all-changed P (Del key) ps n h = without-all P key ps h

length-put_at_most : (key value : Bytes) (ps : Pairs) → length (put order key value ps) ≤ length ps + 1
length-put_at_most key value [] = omega arith
length-put_at_most key value (p ∷ ps) =
    let rest = length-put_at_most key value ps in
    elim (order key p.0) as (λ o. length (by_order o ((key, value) ∷ p ∷ ps) ((p.0, value) ∷ ps) (p ∷ put order key value ps)) ≤ length (p ∷ ps) + 1) [
      | Less ↦ omega arith
      | Equal ↦ omega arith
      | Greater ↦ omega arith
    ]

length-without : (key : Bytes) (ps : Pairs) → length (without key ps) ≤ length ps
length-without key [] = omega arith
length-without key (p ∷ ps) =
    let rest = length-without key ps in
    elim (order key p.0) as (λ o. length (by_order o (p ∷ ps) ps (p ∷ without key ps)) ≤ length (p ∷ ps)) [
      | Less ↦ omega arith
      | Equal ↦ omega arith
      | Greater ↦ omega arith
    ]

pub length-changed : (r : Record) (ps : Pairs) → length (changed_pairs r ps) ≤ length ps + 1
length-changed (Put key value) ps = length-put_at_most key value ps
length-changed (Del key) ps = let less = length-without key ps in omega arith
