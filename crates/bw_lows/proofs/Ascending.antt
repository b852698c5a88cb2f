-- Lows in a row that ascend: where a key parts them, what a search finds there, and what a change leaves.

use Rattle.std.proofs.Common.{◌≡◌, ℕ, ◌<◌, Bool, true, false, cond, Option, Some, None, IsSome, List, [], ◌∷◌, ◌++◌, length, refl, sym, ap, ◌∙◌, subst, arith}
use Rattle.std.specs.Ordering.{is_eq}
use Rattle.std.specs.List.{AllByRecursion}
use Rattle.bw_record.specs.Keys.{is_below}
use Rattle.bw_record.proofs.Order.{Below, UpTo, must_not, upto-trans, below-trans, below_upto, upto-below, itself, tied, below_apart, above_apart, upto_apart_below}
use Rattle.bw_lows.specs.LowHeads.{Bytes, order, page_of_low, IsGreatestLow, HasNoLow, IsLeastLow, HasNoHigher}
use Rattle.bw_lows.specs.Rows.{Low, low_at, AllUpTo, AllAbove, Ascends}

-- each low is below a key
abbrev pub AllBelow : Bytes → List Low → Type 0
AllBelow key lows = AllByRecursion (λ p. Below p.0 key) lows

-- ---- rows in parts

module _ (P : Low → Type 0) where
  pub all_front : (front back : List Low) → AllByRecursion P (front ++ back) → AllByRecursion P front
  all_front [] back all = tt
  all_front (p ∷ ps) back all = (all.0, all_front ps back all.1)

  pub all_back : (front back : List Low) → AllByRecursion P (front ++ back) → AllByRecursion P back
  all_back [] back all = all
  all_back (p ∷ ps) back all = all_back ps back all.1

  pub all_both : (front back : List Low) → AllByRecursion P front → AllByRecursion P back → AllByRecursion P (front ++ back)
  all_both [] back one other = other
  all_both (p ∷ ps) back one other = (one.0, all_both ps back one.1 other)

  pub all_mapped : (Q : Low → Type 0) → ((p : Low) → P p → Q p) → (lows : List Low) → AllByRecursion P lows → AllByRecursion Q lows
  all_mapped Q f [] all = tt
  all_mapped Q f (p ∷ ps) all = (f p all.0, all_mapped Q f ps all.1)

pub ascends_front : (front back : List Low) → Ascends (front ++ back) → Ascends front
ascends_front [] back a = tt
ascends_front (p ∷ ps) back a = (all_front (λ q. Below p.0 q.0) ps back a.0, ascends_front ps back a.1)

pub ascends_back : (front back : List Low) → Ascends (front ++ back) → Ascends back
ascends_back [] back a = a
ascends_back (p ∷ ps) back a = ascends_back ps back a.1

-- what stands before a low is below it
pub before_low : (front : List Low) (p : Low) (back : List Low) → Ascends (front ++ p ∷ back) → AllBelow p.0 front
before_low [] p back a = tt
before_low (x ∷ xs) p back a = ((all_back (λ y. Below x.0 y.0) xs (p ∷ back) a.0).0, before_low xs p back a.1)

-- a low between those that are below it and those that are above it
pub ascends_with : (front : List Low) (p : Low) (back : List Low) → Ascends (front ++ back) → AllBelow p.0 front → AllAbove p.0 back
    → Ascends (front ++ p ∷ back)
ascends_with [] p back a under over = (over, a)
ascends_with (x ∷ xs) p back a under over = (
  all_both (λ y. Below x.0 y.0) xs (p ∷ back) (all_front (λ y. Below x.0 y.0) xs back a.0)
      (under.0, all_back (λ y. Below x.0 y.0) xs back a.0),
  ascends_with xs p back a.1 under.1 over,
)

-- a row without one of its lows
pub ascends_without : (front : List Low) (p : Low) (back : List Low) → Ascends (front ++ p ∷ back) → Ascends (front ++ back)
ascends_without [] p back a = a.1
ascends_without (x ∷ xs) p back a = (
  all_both (λ y. Below x.0 y.0) xs back (all_front (λ y. Below x.0 y.0) xs (p ∷ back) a.0)
      (all_back (λ y. Below x.0 y.0) xs (p ∷ back) a.0).1,
  ascends_without xs p back a.1,
)

-- ---- along the order

pub below_through : (key low : Bytes) (lows : List Low) → AllBelow low lows → UpTo low key → AllUpTo key lows
below_through key low lows all u =
    all_mapped (λ p. Below p.0 low) (λ p. UpTo p.0 key) (λ p b. upto-trans p.0 low key (below_upto p.0 low b) u) lows all

pub upto_through : (key q : Bytes) (lows : List Low) → AllUpTo key lows → Below key q → AllBelow q lows
upto_through key q lows all b =
    all_mapped (λ p. UpTo p.0 key) (λ p. Below p.0 q) (λ p u. upto-below p.0 key q u b) lows all

pub above_through : (key q : Bytes) (lows : List Low) → AllAbove key lows → UpTo q key → AllAbove q lows
above_through key q lows all u =
    all_mapped (λ p. Below key p.0) (λ p. Below q p.0) (λ p b. upto-below q key p.0 u b) lows all

below_further : (low q : Bytes) (lows : List Low) → AllBelow low lows → Below low q → AllBelow q lows
below_further low q lows all b =
    all_mapped (λ p. Below p.0 low) (λ p. Below p.0 q) (λ p u. below-trans p.0 low q u b) lows all

-- a row whose first low is above a key
pub above_first : (key : Bytes) (lows : List Low) → Ascends lows → (0 < length lows → Below key (low_at lows 0)) → AllAbove key lows
above_first key [] a h = tt
above_first key (p ∷ ps) a h =
    let first : Below key p.0 = h (omega arith) in
    (first, above_through p.0 key ps a.0 (below_upto key p.0 first))

-- ---- the page of a low

pub no_low_above : (q : Bytes) (lows : List Low) → AllAbove q lows → page_of_low lows q ≡ None
no_low_above q [] all = refl
no_low_above q (p ∷ ps) all =
    ap (λ (b : Bool). cond b (Some p.1) (page_of_low ps q)) (below_apart q p.0 all.0) ∙ no_low_above q ps all.1

past_below : (q : Bytes) (front back : List Low) → AllBelow q front → page_of_low (front ++ back) q ≡ page_of_low back q
past_below q [] back all = refl
past_below q (p ∷ ps) back all =
    ap (λ (b : Bool). cond b (Some p.1) (page_of_low (ps ++ back) q)) (above_apart q p.0 all.0) ∙ past_below q ps back all.1

-- a key that parts a row and is none of its lows
pub no_low : (q : Bytes) (front back : List Low) → AllBelow q front → AllAbove q back → page_of_low (front ++ back) q ≡ None
no_low q front back under over = past_below q front back under ∙ no_low_above q back over

-- a low was put in
pub page_with : (q k : Bytes) (page : ℕ) (front back : List Low) → AllBelow k front
    → page_of_low (front ++ (k, page) ∷ back) q ≡ cond (is_eq (order q k)) (Some page) (page_of_low (front ++ back) q)
page_with q k page [] back under = refl
page_with q k page (p ∷ ps) back under =
    elim (is_eq (order q p.0)) as (λ b. is_eq (order q p.0) ≡ b
    → cond b (Some p.1) (page_of_low (ps ++ (k, page) ∷ back) q)
    ≡ cond (is_eq (order q k)) (Some page) (cond b (Some p.1) (page_of_low (ps ++ back) q))) [
      | true ↦ λ e. let other : is_eq (order q k) ≡ false = ap (λ (x : Bytes). is_eq (order x k)) (tied q p.0 e) ∙ below_apart p.0 k under.0 in
          ap (λ (b : Bool). cond b (Some page) (Some p.1)) (sym other)
      | false ↦ λ e. page_with q k page ps back under.1
    ] refl

twice : (b : Bool) (x y o : Option ℕ) → cond b x o ≡ cond b x (cond b y o)
twice true x y o = refl
twice false x y o = refl

-- a low got another page
pub page_set : (q k : Bytes) (was page : ℕ) (front back : List Low) → AllBelow k front
    → page_of_low (front ++ (k, page) ∷ back) q ≡ cond (is_eq (order q k)) (Some page) (page_of_low (front ++ (k, was) ∷ back) q)
page_set q k was page front back under =
    page_with q k page front back under ∙ twice (is_eq (order q k)) (Some page) (Some was) (page_of_low (front ++ back) q)
    ∙ ap (λ (o : Option ℕ). cond (is_eq (order q k)) (Some page) o) (sym (page_with q k was front back under))

-- a key that is no low is dropped
pub page_kept : (q k : Bytes) (lows : List Low) → page_of_low lows k ≡ None → page_of_low lows q ≡ cond (is_eq (order q k)) None (page_of_low lows q)
page_kept q k lows none =
    elim (is_eq (order q k)) as (λ b. is_eq (order q k) ≡ b → page_of_low lows q ≡ cond b None (page_of_low lows q)) [
      | true ↦ λ e. ap (λ (x : Bytes). page_of_low lows x) (tied q k e) ∙ none
      | false ↦ λ e. refl
    ] refl

-- a low was taken out
pub page_without : (q k : Bytes) (was : ℕ) (front back : List Low) → AllBelow k front → AllAbove k back
    → page_of_low (front ++ back) q ≡ cond (is_eq (order q k)) None (page_of_low (front ++ (k, was) ∷ back) q)
page_without q k was front back under over =
    page_kept q k (front ++ back) (no_low k front back under over)
    ∙ twice (is_eq (order q k)) None (Some was) (page_of_low (front ++ back) q)
    ∙ ap (λ (o : Option ℕ). cond (is_eq (order q k)) None o) (sym (page_with q k was front back under))

-- ---- what a search finds

no_some : {X : Type 0} (o : Option ℕ) → o ≡ None → IsSome o → X
no_some None e h = absurd (cc)
no_some (Some x) e h = absurd (cc)

pub greatest_there : (key : Bytes) (front : List Low) (p : Low) (back : List Low) → Ascends (front ++ p ∷ back) → UpTo p.0 key → AllAbove key back
    → IsGreatestLow (page_of_low (front ++ p ∷ back)) key p.1
greatest_there key front p back a u over =
    let under : AllBelow p.0 front = before_low front p back a in
    record {
      low = p.0;
      its = page_with p.0 p.0 p.1 front back under
          ∙ ap (λ (b : Bool). cond b (Some p.1) (page_of_low (front ++ back) p.0)) (itself p.0);
      upto = u;
      greatest = λ q k some. must_not (is_below p.0 q) (λ b. no_some (page_of_low (front ++ p ∷ back) q)
          (past_below q front (p ∷ back) (below_further p.0 q front under b)
          ∙ ap (λ (t : Bool). cond t (Some p.1) (page_of_low back q)) (above_apart q p.0 b)
          ∙ no_low_above q back (above_through key q back over k)) some);
    }

pub none_there : (key : Bytes) (lows : List Low) → AllAbove key lows → HasNoLow (page_of_low lows) key
none_there key lows over q k = no_low_above q lows (above_through key q lows over k)

pub least_there : (key : Bytes) (front : List Low) (p : Low) (back : List Low) → Ascends (front ++ p ∷ back) → AllUpTo key front → Below key p.0
    → IsLeastLow (page_of_low (front ++ p ∷ back)) key p.0
least_there key front p back a upto b =
    let under : AllBelow p.0 front = before_low front p back a in
    let its : page_of_low (front ++ p ∷ back) p.0 ≡ Some p.1 = page_with p.0 p.0 p.1 front back under
    ∙ ap (λ (t : Bool). cond t (Some p.1) (page_of_low (front ++ back) p.0)) (itself p.0) in
    let behind : AllAbove p.0 back = (ascends_back front (p ∷ back) a).0 in
    record {
      its = subst (λ (o : Option ℕ). IsSome o) (sym its) refl;
      above = b;
      least = λ q k some. must_not (is_below q p.0) (λ t. no_some (page_of_low (front ++ p ∷ back) q)
          (no_low q front (p ∷ back) (upto_through key q front upto k) (t, above_through p.0 q back behind (below_upto q p.0 t))) some);
    }

pub none_higher : (key : Bytes) (lows : List Low) → AllUpTo key lows → HasNoHigher (page_of_low lows) key
none_higher key [] upto q b = refl
none_higher key (p ∷ ps) upto q b =
    ap (λ (t : Bool). cond t (Some p.1) (page_of_low ps q)) (above_apart q p.0 (upto-below p.0 key q upto.0 b))
    ∙ none_higher key ps upto.1 q b

-- ---- where a key parts a row

-- lows up to a key, of which the last is not the key
pub below_last : (key : Bytes) (front : List Low) (p : Low) → AllBelow p.0 front → UpTo p.0 key → is_eq (order key p.0) ≡ false
    → AllBelow key (front ++ p ∷ [])
below_last key front p under u apart =
    let b : Below p.0 key = upto_apart_below key p.0 u apart in
    all_both (λ x. Below x.0 key) front (p ∷ []) (below_further p.0 key front under b) (b, tt)
