-- An index of lows, and what it says of a page.

use Rattle.std.proofs.Common.{◌≡◌, ℕ, ◌≤◌, ◌==◌, ◌&&◌, ◌||◌, not, nat_lt, Bool, true, false}
use Rattle.std.proofs.Common.{Option, Some, None, IsSome, List, [], ◌∷◌, length, refl, sym, ap, ◌∙◌, subst, arith}
use Rattle.std.specs.List.{list_any, AllByRecursion}
use Rattle.std.specs.Ordering.{is_lt, is_gt}
use Rattle.std.specs.declared.cmp.Ordering.TheVariants.{Less}
use Rattle.std.proofs.lemmas.Bool.{and_from, eqb-true, ltb-true, ltb-false}
use lib.Pointwise.{bytes_decides}
use Rattle.bw_record.specs.Keys.{is_below, IsKey}
use Rattle.bw_record.specs.declared.leaf.Leaf.{Leaf}
use Rattle.bw_record.proofs.Order.{is_less, greater_is_below, below-upto, upto_empty, must_not, not_both}
use Rattle.bw_leaf.specs.Changed.{Bytes, order}
use Rattle.bw_lines.specs.Lawful.{is_same, has_low_before, is_astray, is_bad_leaf}
use Rattle.bw_lines.specs.Paging.{IsNext, is_past, IsLows, taken_before}
use Rattle.bw_log.proofs.Entries.{all_mapped}
use Rattle.bw_lines.proofs.Tests.{and_not, not_true}

-- ---- the order

-- the first of a range above a low is the next one
pub next_is : (low next : Bytes) (got : Bytes → Option ℕ) → IsKey next → IsSome (got next) → order low next ≡ Less
    → ((k : Bytes) → order low k ≡ Less → IsSome (got k) → is_gt (order next k) ≡ false) → IsNext low got (Some next)
next_is low next got key some over first =
    (some, key, ap is_lt over, λ k above held. sym (greater_is_below next k) ∙ first k (is_less (order low k) above) held)

below_some : (x : ℕ) (xs : Bytes) → is_below [] (x ∷ xs) ≡ true
below_some x xs = refl

key_above : (k : Bytes) → IsKey k → is_below [] k ≡ true
key_above [] key = absurd (let one = key.0 in omega arith)
key_above (x ∷ xs) key = below_some x xs

pub least_is : (next : Bytes) (got : Bytes → Option ℕ) → IsKey next → IsSome (got next) → ((k : Bytes) → IsSome (got k) → is_gt (order next k) ≡ false)
    → IsNext [] got (Some next)
least_is next got key some first = (some, key, key_above next key, λ k above held. sym (greater_is_below next k) ∙ first k held)

-- ---- tests over leaves

none_any : {X : Type 0} (test : X → Bool) (xs : List X) → AllByRecursion (λ x. test x ≡ false) xs → list_any test xs ≡ false
none_any test [] all = refl
none_any test (x ∷ xs) all = ap (λ (t : Bool). t || list_any test xs) all.0 ∙ none_any test xs all.1

all_two : {X : Type 0} (P Q R : X → Type 0) (xs : List X) → ((x : X) → P x → Q x → R x) → AllByRecursion P xs → AllByRecursion Q xs → AllByRecursion R xs
all_two P Q R [] f ps qs = tt
all_two P Q R (x ∷ xs) f ps qs = (f x ps.0 qs.0, all_two P Q R xs f ps.1 qs.1)

same_any : {X : Type 0} (test other : X → Bool) (xs : List X) → ((x : X) → test x ≡ other x) → list_any test xs ≡ list_any other xs
same_any test other [] same = refl
same_any test other (x ∷ xs) same = ap (λ (t : Bool). t || list_any test xs) (same x) ∙ ap (λ (t : Bool). other x || t) (same_any test other xs same)

-- a low above another one, and no longer than a key, is a key
above_key : (low k : Bytes) → is_below low k ≡ true → length k ≤ 128 → IsKey k
above_key low [] over short = absurd (not_both (is_below low []) over (upto_empty low))
above_key low (x ∷ xs) over short = (omega arith, short)

-- ---- a key and the next low

none_over : (set : List Leaf) (got : Bytes → Option ℕ) (low : Bytes) → IsLows set got → ((k : Bytes) → IsKey k → is_below low k ≡ true → got k ≡ None)
    → AllByRecursion (λ l. is_below low l.low ≡ false) set
none_over set got low i none =
    all_two (λ (l : Leaf). length l.low ≤ 128) (λ (l : Leaf). IsKey l.low → IsSome (got l.low)) (λ (l : Leaf). is_below low l.low ≡ false) set
    (λ l short listed. must_not (is_below low l.low) (λ over. (let key = above_key low l.low over short in
    let some = listed key in let nothing : IsSome {T = ℕ} None = subst (λ (o : Option ℕ). IsSome o) (none l.low key over) some in cc))) i.short i.listed

some_of : (o : Option ℕ) → IsSome o → (n : ℕ) × (o ≡ Some n)
some_of None some = absurd cc
some_of (Some n) some = (n, refl)

past_by : (set : List Leaf) (got : Bytes → Option ℕ) (low next key : Bytes) (t : Bool) → IsLows set got → IsNext low got (Some next) → is_below key next ≡ t
    → list_any (λ l. is_below low l.low && not (is_below key l.low)) set ≡ not t
past_by set got low next key true i n e =
    none_any (λ l. is_below low l.low && not (is_below key l.low)) set
    (all_two (λ (l : Leaf). length l.low ≤ 128) (λ (l : Leaf). IsKey l.low → IsSome (got l.low))
    (λ (l : Leaf). (is_below low l.low && not (is_below key l.low)) ≡ false) set
    (λ l short listed. and_not (is_below low l.low) (not (is_below key l.low)) (λ over past.
    not_both (is_below key l.low) (below-upto key next l.low e (n.3 l.low over (listed (above_key low l.low over short))))
    (not_true (is_below key l.low) past))) i.short i.listed)
past_by set got low next key false i n e =
    let held = some_of (got next) n.0 in
    let there = i.taken next held.0 n.1 held.1 in
    there.3 (λ l. is_below low l.low && not (is_below key l.low))
    (and_from (is_below low there.0.low) (not (is_below key there.0.low)) (ap (is_below low) there.1 ∙ n.2) (ap not (ap (is_below key) there.1 ∙ e)))

-- a key is not below a greater low where it is not below the next
pub past_is : (set : List Leaf) (got : Bytes → Option ℕ) (low key : Bytes) (next : Option Bytes) → IsLows set got → IsNext low got next
    → list_any (λ l. is_below low l.low && not (is_below key l.low)) set ≡ is_past next key
past_is set got low key None i n =
    none_any (λ l. is_below low l.low && not (is_below key l.low)) set
    (all_mapped (λ (l : Leaf). is_below low l.low ≡ false) (λ (l : Leaf). (is_below low l.low && not (is_below key l.low)) ≡ false) set
    (λ l over. ap (λ (t : Bool). t && not (is_below key l.low)) over) (none_over set got low i n))
past_is set got low key (Some next) i n = past_by set got low next key (is_below key next) i n refl

pub astray_is : (set : List Leaf) (got : Bytes → Option ℕ) (leaf : Leaf) (next : Option Bytes) → IsLows set got → IsNext leaf.low got next
    → list_any (λ p. is_below p.0 leaf.low || is_past next p.0) leaf.pairs ≡ list_any (λ p. is_astray set leaf p.0) leaf.pairs
astray_is set got leaf next i n =
    same_any (λ (p : Bytes × Bytes). is_below p.0 leaf.low || is_past next p.0) (λ (p : Bytes × Bytes). is_astray set leaf p.0) leaf.pairs
    (λ p. ap (λ (t : Bool). is_below p.0 leaf.low || t) (sym (past_is set got leaf.low p.0 next i n)))

-- ---- another page with the low

before_by : (set : List Leaf) (got : Bytes → Option ℕ) (leaf : Leaf) (o : Option ℕ) → IsLows set got → IsKey leaf.low → got leaf.low ≡ o
    → has_low_before set leaf ≡ taken_before o leaf.page
before_by set got leaf None i key is =
    none_any (λ (l : Leaf). nat_lt l.page leaf.page && is_same l.low leaf.low) set
    (all_mapped (λ (l : Leaf). IsKey l.low → IsSome (got l.low)) (λ (l : Leaf). (nat_lt l.page leaf.page && is_same l.low leaf.low) ≡ false) set
    (λ l listed. and_not (nat_lt l.page leaf.page) (is_same l.low leaf.low) (λ less same. (let eq = (bytes_decides l.low leaf.low).0 same in
    let some = listed (subst IsKey (sym eq) key) in let nothing : IsSome {T = ℕ} None =
    subst (λ (o : Option ℕ). IsSome o) (ap got eq ∙ is) some in cc))) i.listed)
before_by set got leaf (Some first) i key is = first_by (nat_lt first leaf.page) refl where
  first_by : (t : Bool) → nat_lt first leaf.page ≡ t → has_low_before set leaf ≡ nat_lt first leaf.page
  first_by true e =
      let there = i.taken leaf.low first key is in
      there.3 (λ (l : Leaf). nat_lt l.page leaf.page && is_same l.low leaf.low)
      (and_from (nat_lt there.0.page leaf.page) (is_same there.0.low leaf.low) (ap (λ (k : ℕ). nat_lt k leaf.page) there.2 ∙ e)
      ((bytes_decides there.0.low leaf.low).1 there.1)) ∙ sym e
  first_by false e =
      none_any (λ (l : Leaf). nat_lt l.page leaf.page && is_same l.low leaf.low) set
      (all_mapped (λ (l : Leaf). IsKey l.low → (page : ℕ) → got l.low ≡ Some page → page ≤ l.page)
      (λ (l : Leaf). (nat_lt l.page leaf.page && is_same l.low leaf.low) ≡ false) set
      (λ l least. and_not (nat_lt l.page leaf.page) (is_same l.low leaf.low) (λ less same. (let eq = (bytes_decides l.low leaf.low).0 same in
      let lower = ltb-true l.page leaf.page less in
      let over = ltb-false first leaf.page e in
      let at = least (subst IsKey (sym eq) key) first (ap got eq ∙ is) in omega arith))) i.least) ∙ sym e

pub before_is : (set : List Leaf) (got : Bytes → Option ℕ) (leaf : Leaf) → IsLows set got → IsKey leaf.low
    → has_low_before set leaf ≡ taken_before (got leaf.low) leaf.page
before_is set got leaf i key = before_by set got leaf (got leaf.low) i key refl

-- no page is before page 1
pub none_before : (set : List Leaf) (got : Bytes → Option ℕ) (leaf : Leaf) → IsLows set got → leaf.page ≡ 1 → has_low_before set leaf ≡ false
none_before set got leaf i one =
    none_any (λ (l : Leaf). nat_lt l.page leaf.page && is_same l.low leaf.low) set
    (all_mapped (λ (l : Leaf). 1 ≤ l.page) (λ (l : Leaf). (nat_lt l.page leaf.page && is_same l.low leaf.low) ≡ false) set
    (λ l from. and_not (nat_lt l.page leaf.page) (is_same l.low leaf.low) (λ less same. (let lower = ltb-true l.page leaf.page less in omega arith))) i.from)

-- ---- a page

not_key_empty : (k : Bytes) → length k ≤ 128 → (IsKey k → ⊥) → k ≡ []
not_key_empty [] short never = refl
not_key_empty (x ∷ xs) short never = absurd (never (omega arith, short))

key_not_empty : (k : Bytes) → IsKey k → is_same k [] ≡ false
key_not_empty [] key = absurd (let one = key.0 in omega arith)
key_not_empty (x ∷ xs) key = refl

-- a page with the empty low
pub empty_is : (m : ℕ) (set : List Leaf) (got : Bytes → Option ℕ) (leaf : Leaf) (next : Option Bytes) → IsLows set got → length leaf.low ≤ 128
    → (IsKey leaf.low → ⊥) → IsNext [] got next
    → (not (leaf.page == 1) || (nat_lt m (length leaf.pairs) || list_any (λ p. is_below p.0 leaf.low || is_past next p.0) leaf.pairs)) ≡ is_bad_leaf m set leaf
empty_is m set got leaf next i short never n = by_page (leaf.page == 1) refl where
  empty : leaf.low ≡ []
  empty = not_key_empty leaf.low short never

  here : is_same leaf.low [] ≡ true
  here = (bytes_decides leaf.low []).1 empty

  near : list_any (λ p. is_below p.0 leaf.low || is_past next p.0) leaf.pairs ≡ list_any (λ p. is_astray set leaf p.0) leaf.pairs
  near = astray_is set got leaf next i (subst (λ (k : Bytes). IsNext k got next) (sym empty) n)

  by_page : (t : Bool) → (leaf.page == 1) ≡ t
      → (not (leaf.page == 1) || (nat_lt m (length leaf.pairs) || list_any (λ p. is_below p.0 leaf.low || is_past next p.0) leaf.pairs))
      ≡ is_bad_leaf m set leaf
  by_page true e = rw (e, here, none_before set got leaf i (eqb-true leaf.page 1 e), near) refl
  by_page false e = rw (e, here) refl

-- a page whose low is a key
pub keyed_is : (m : ℕ) (set : List Leaf) (got : Bytes → Option ℕ) (leaf : Leaf) (next : Option Bytes) → IsLows set got → IsKey leaf.low
    → IsNext leaf.low got next
    → ((leaf.page == 1) || taken_before (got leaf.low) leaf.page ||
    (nat_lt m (length leaf.pairs) || list_any (λ p. is_below p.0 leaf.low || is_past next p.0) leaf.pairs)) ≡ is_bad_leaf m set leaf
keyed_is m set got leaf next i key n = by_page (leaf.page == 1) refl where
  here : is_same leaf.low [] ≡ false
  here = key_not_empty leaf.low key

  near : list_any (λ p. is_below p.0 leaf.low || is_past next p.0) leaf.pairs ≡ list_any (λ p. is_astray set leaf p.0) leaf.pairs
  near = astray_is set got leaf next i n

  joins : (a b d : Bool) → (a || (b || d)) ≡ (a || b || d)
  joins true b d = refl
  joins false b d = refl

  by_page : (t : Bool) → (leaf.page == 1) ≡ t
      → ((leaf.page == 1) || taken_before (got leaf.low) leaf.page ||
      (nat_lt m (length leaf.pairs) || list_any (λ p. is_below p.0 leaf.low || is_past next p.0) leaf.pairs)) ≡ is_bad_leaf m set leaf
  by_page true e = rw (e, here) refl
  by_page false e = rw (e, here, before_is set got leaf i key, near)
      (joins (taken_before (got leaf.low) leaf.page) (nat_lt m (length leaf.pairs)) (list_any (λ p. is_astray set leaf p.0) leaf.pairs))
