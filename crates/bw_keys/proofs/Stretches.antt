-- A walk from page to page gathers the wanted pairs of the map.

use Rattle.std.proofs.Common.{◌≡◌, ◌⊎◌, inl, inr, ℕ, zero, suc, ◌+◌, ◌≤◌, ◌<◌, Bool, true, false, not, ◌&&◌, ◌||◌, cond, if◌then◌else◌, Option, Some, None, IsSome, nat_eq, slice_get, List, [], ◌∷◌, ◌++◌, length, min, ◌-◌, ◌^◌, is_none, length-append, refl, sym, ap, ◌∙◌, subst, append-nil, arith}
use Rattle.std.specs.List.{sum_by, starts_with, AllByRecursion as All}
use Rattle.std.specs.Ordering.{eq_by_cmp}
use Rattle.std.specs.FinMap as finite
use Rattle.std.specs.FinMap.Entries.{find}
use Rattle.std.proofs.lemmas.Bool.{eqb-true}
use Rattle.std.proofs.lemmas.List.Concat.{flat_map-append}
use Rattle.bw_record.specs.Keys.{is_below}
use Rattle.bw_record.specs.declared.leaf.Leaf.{Leaf}
use Rattle.bw_record.proofs.Order.{order-total, order-same, Below, UpTo, not_both, must_be, must_not, upto-trans, upto-refl, below-upto, upto-below, below-trans, below_apart, above_apart, tied, first_or_rest, below_first, same_first}
use Rattle.bw_codec.specs.Grammar.{IsBase}
use Rattle.bw_leaf.specs.Changed.{Bytes, Pairs, Map, order}
use Rattle.bw_leaf.proofs.Sorted.{all-map, all-zip, Rises, rises_T, T_rises, find-none}
use Rattle.bw_page.specs.Leaves.{home, union, leaf_at, AtHome, AreLeaves}
use Rattle.bw_page.specs.Lows.{lows_of}
use Rattle.bw_page.specs.Ahead.{HasNoLowAbove, IsNextLow, ahead}
use Rattle.bw_page.proofs.Homes.{home-all, home-low, home-max, same_home}
use Rattle.bw_page.proofs.Law.{get-union}
use Rattle.bw_page.proofs.Ahead.{same_leaf, rises_at}
use Rattle.bw_page.proofs.PageByPage.{home_there}
use Rattle.bw_keys.specs.declared.span.Span.{Span}
use Rattle.bw_keys.specs.Spans.{is_wanted, is_over, is_to, is_from, is_behind, begins, has_all}
use Rattle.bw_keys.specs.Asked.{count_if, count_at, counted}
use Rattle.std.proofs.lemmas.List.Sums.{length-filter, sum_by-cons}
use Rattle.bw_keys.specs.Stretches.{wanted_of, wanted_on, stretch_on, stretch, HasNoneWanted}

-- ---- lists of pairs

all_join : {X : Type 0} (P : X → Type 0) (xs ys : List X) → All P xs → All P ys → All P (xs ++ ys)
all_join P [] ys h k = k
all_join P (x ∷ xs) ys h k = (h.0, all_join P xs ys h.1 k)

rises_join : (to : Bytes) (xs ys : Pairs) → Rises xs → Rises ys → All (λ p. Below p.0 to) xs → All (λ p. UpTo to p.0) ys → Rises (xs ++ ys)
rises_join to [] ys r s under over = s
rises_join to (x ∷ xs) ys r s under over = (
  all_join (λ y. Below x.0 y.0) xs ys r.0 (all-map (λ y. UpTo to y.0) (λ y. Below x.0 y.0) (λ y u. below-upto x.0 to y.0 under.0 u) ys over),
  rises_join to xs ys r.1 s under.1 over,
)

find_left : (q : Bytes) (xs ys : Pairs) → All (λ p. eq_by_cmp order q p.0 ≡ false) ys → find order q (xs ++ ys) ≡ find order q xs
find_left q [] ys none = find-none q ys none
find_left q (x ∷ xs) ys none = ap (λ v. cond (eq_by_cmp order q x.0) (Some x.1) v) (find_left q xs ys none)

find_right : (q : Bytes) (xs ys : Pairs) → All (λ p. eq_by_cmp order q p.0 ≡ false) xs → find order q (xs ++ ys) ≡ find order q ys
find_right q [] ys none = refl
find_right q (x ∷ xs) ys none = ap (λ b. cond b (Some x.1) (find order q (xs ++ ys))) none.0 ∙ find_right q xs ys none.1

-- what is said of each low is said of one that is among them
low_among : (Q : Bytes → Type 0) (low : Bytes) (ls : List Leaf) → IsSome (find order low (lows_of ls)) → All (λ l. Q l.low) ls → Q low
low_among Q low [] some h = absurd (let no : IsSome {T = ℕ} None = some in cc)
low_among Q low (l ∷ ls) some h =
    elim (eq_by_cmp order low l.low) as (λ t. eq_by_cmp order low l.low ≡ t → IsSome (cond t (Some l.page) (find order low (lows_of ls))) → Q low) [
      | true ↦ λ t s. subst Q (sym (tied low l.low t)) h.0
      | false ↦ λ t s. low_among Q low ls s h.1
    ] refl some

-- ---- the wanted ones of some pairs

kept_all : (P : Bytes × Bytes → Type 0) (span : Span) (ps : Pairs) → All P ps → All P (wanted_of span ps)
kept_all P span [] h = tt
kept_all P span (x ∷ xs) h =
    elim (is_wanted span x.0) as (λ b. All P (cond b (x ∷ wanted_of span xs) (wanted_of span xs)))
    [ true ↦ (h.0, kept_all P span xs h.1) | false ↦ kept_all P span xs h.1 ]

kept_wanted : (span : Span) (ps : Pairs) → All (λ p. is_wanted span p.0 ≡ true) (wanted_of span ps)
kept_wanted span [] = tt
kept_wanted span (x ∷ xs) =
    elim (is_wanted span x.0) as (λ b. is_wanted span x.0 ≡ b → All (λ p. is_wanted span p.0 ≡ true) (cond b (x ∷ wanted_of span xs) (wanted_of span xs)))
    [ true ↦ λ e. (e, kept_wanted span xs) | false ↦ λ e. kept_wanted span xs ] refl

kept_rises : (span : Span) (ps : Pairs) → Rises ps → Rises (wanted_of span ps)
kept_rises span [] r = tt
kept_rises span (x ∷ xs) r =
    elim (is_wanted span x.0) as (λ b. Rises (cond b (x ∷ wanted_of span xs) (wanted_of span xs)))
    [ true ↦ (kept_all (λ y. Below x.0 y.0) span xs r.0, kept_rises span xs r.1) | false ↦ kept_rises span xs r.1 ]

abbrev nothing : Option Bytes
nothing = None

no_value : (b : Bool) → cond b nothing nothing ≡ nothing
no_value true = refl
no_value false = refl

kept_find : (span : Span) (q : Bytes) (ps : Pairs) → find order q (wanted_of span ps) ≡ cond (is_wanted span q) (find order q ps) None
kept_find span q [] = sym (no_value (is_wanted span q))
kept_find span q (x ∷ xs) =
    elim (eq_by_cmp order q x.0) as (λ t. eq_by_cmp order q x.0 ≡ t
    → find order q (wanted_of span (x ∷ xs)) ≡ cond (is_wanted span q) (cond t (Some x.1) (find order q xs)) None) [
      | true ↦ λ t.
          let same : q ≡ x.0 = tied q x.0 t in
          elim (is_wanted span x.0) as (λ b. is_wanted span x.0 ≡ b
          → find order q (cond b (x ∷ wanted_of span xs) (wanted_of span xs)) ≡ cond (is_wanted span q) (Some x.1) None) [
            | true ↦ λ b. let w : is_wanted span q ≡ true = ap (is_wanted span) same ∙ b in rw (t, w) refl
            | false ↦ λ b. let w : is_wanted span q ≡ false = ap (is_wanted span) same ∙ b in rw w (kept_find span q xs ∙ rw w refl)
          ] refl
      | false ↦ λ t. elim (is_wanted span x.0) as (λ b. find order q (cond b (x ∷ wanted_of span xs) (wanted_of span xs))
          ≡ cond (is_wanted span q) (find order q xs) None) [
            | true ↦ rw t (kept_find span q xs)
            | false ↦ kept_find span q xs
          ]
    ] refl

-- ---- above all that are wanted

-- between a beginning and what begins with it all begin with it
between : (prefix low q : Bytes) → starts_with nat_eq q prefix ≡ true → Below prefix low → UpTo low q → starts_with nat_eq low prefix ≡ true
between [] low q h b u = refl
between (p ∷ ps) [] q h b u = cc b
between (p ∷ ps) (y ∷ ys) [] h b u = cc h
between (p ∷ ps) (y ∷ ys) (x ∷ xs) h b u =
    let parts = both (nat_eq p x) (starts_with nat_eq xs ps) h in
    let same : p ≡ x = eqb-true p x parts.0 in
    elim (first_or_rest p y ps ys b) [
      | inl less ↦ not_both (is_below (x ∷ xs) (y ∷ ys)) (below_first x y xs ys (omega arith)) u
      | inr rest ↦
          let here : x ≡ y = sym same ∙ rest.0 in
          let under : UpTo ys xs = sym (same_first x y xs ys here) ∙ u in
          let first : nat_eq p y ≡ true = ap (nat_eq p) (sym here) ∙ parts.0 in
          rw (first, between ps ys xs parts.1 rest.1 under) refl
    ]
  where
    both : (a b : Bool) → a && b ≡ true → (a ≡ true) × (b ≡ true)
    both true b h = (refl, h)
    both false b h = cc h

no_to : (to : Option Bytes) (low q : Bytes) → is_to to low ≡ false → UpTo low q → is_to to q ≡ false
no_to None low q h u = cc h
no_to (Some to) low q h u = must_not (is_below q to) (λ b. not_both (is_below low to) (upto-below low q to u b) h)

no_prefix : (prefix : Option Bytes) (low q : Bytes) → is_behind prefix low ≡ true → UpTo low q → begins prefix q ≡ false
no_prefix None low q h u = cc h
no_prefix (Some prefix) low q h u =
    must_not (starts_with nat_eq q prefix) (λ s. apart (starts_with nat_eq low prefix) (is_below prefix low) h (λ b. between prefix low q s b u))
  where
    apart : (s b : Bool) → not s && b ≡ true → (b ≡ true → s ≡ true) → ⊥
    apart true b h k = cc h
    apart false true h k = cc (k refl)
    apart false false h k = cc h

neither : (f t b : Bool) → (t ≡ false) ⊎ (b ≡ false) → f && t && b ≡ false
neither true t b (inl e) = rw e refl
neither true true b (inr e) = e
neither true false b (inr e) = refl
neither false t b h = refl

either : (t k : Bool) → not t || k ≡ true → (t ≡ false) ⊎ (k ≡ true)
either true k h = inr h
either false k h = inl refl

pub over_all : (span : Span) (low q : Bytes) → is_over span low ≡ true → UpTo low q → is_wanted span q ≡ false
over_all span low q over u =
    neither (is_from span.from q) (is_to span.to q) (begins span.prefix q)
    (elim (either (is_to span.to low) (is_behind span.prefix low) over) [
      | inl t ↦ inl (no_to span.to low q t u)
      | inr k ↦ inr (no_prefix span.prefix low q k u)
    ])

-- ---- from page to page

-- the value that a map has of a key, if the key is wanted
abbrev pub value_of : Span → Map → Bytes → Option Bytes
value_of span map key = if is_wanted span key then finite.get map key else None

-- pairs in the order of their keys, which give each key its value in a map if it is wanted
pub record IsStretchOf (map : Map) (span : Span) (pairs : Pairs) : Type 0 where
  pub rises : Rises pairs
  pub all : (key : Bytes) → 1 ≤ length key → find order key pairs ≡ value_of span map key

-- a walk has come to a key with these pairs: they are the wanted ones below it
pub record Gone (span : Span) (leaves : List Leaf) (to : Bytes) (found : Pairs) : Type 0 where
  pub rises : Rises found
  pub below : All (λ p. Below p.0 to) found
  pub all : (q : Bytes) → 1 ≤ length q → Below q to → find order q found ≡ value_of span (union leaves) q
  pub starts : (q : Bytes) → 1 ≤ length q → is_wanted span q ≡ true → home q leaves ≡ home to leaves → UpTo to q

no_wanted : (span : Span) (leaves : List Leaf) (q : Bytes) → is_wanted span q ≡ false → None ≡ value_of span (union leaves) q
no_wanted span leaves q h = rw h refl

pub gone_first : (span : Span) (leaves : List Leaf) (start : Bytes)
    → ((key : Bytes) → 1 ≤ length key → is_wanted span key ≡ true → is_below key start ≡ false) → Gone span leaves start []
gone_first span leaves start first = record {
  rises = tt;
  below = tt;
  all = λ q h b. no_wanted span leaves q (must_not (is_wanted span q) (λ w. not_both (is_below q start) b (first q h w)));
  starts = λ q h w same. first q h w;
}

module _ (m : ℕ) (leaves : List Leaf) (a : AreLeaves m leaves) (span : Span) (to : Bytes) (found : Pairs) (gone : Gone span leaves to found) where
  page : Pairs
  page = (home to leaves).pairs

  more : Pairs
  more = wanted_of span page

  rises : Rises page
  unfolding page
  rises = rises_at m leaves a to

  at_home : All (λ p. home p.0 leaves ≡ home to leaves) page
  unfolding page
  at_home = all-map (λ p. (home p.0 leaves).page ≡ (home to leaves).page) (λ p. home p.0 leaves ≡ home to leaves)
      (λ p own. same_home leaves p.0 to a.first a.pages own) page (home-all (AtHome leaves) to leaves a.first a.homes)

  keys : All (λ p. 1 ≤ length p.0) page
  unfolding page
  keys = all-map _ (λ p. 1 ≤ length p.0) (λ p is. is.0.0) page (home-all (IsBase m) to leaves a.first a.each).pairs

  more_upto : All (λ p. UpTo to p.0) more
  unfolding page more
  more_upto =
      all-zip (λ p. (1 ≤ length p.0) × (home p.0 leaves ≡ home to leaves)) (λ p. is_wanted span p.0 ≡ true) (λ p. UpTo to p.0)
      (λ p h w. gone.starts p.0 h.0 w h.1) more
      (kept_all (λ p. (1 ≤ length p.0) × (home p.0 leaves ≡ home to leaves)) span page
      (all-zip (λ p. 1 ≤ length p.0) (λ p. home p.0 leaves ≡ home to leaves) (λ p. (1 ≤ length p.0) × (home p.0 leaves ≡ home to leaves))
      (λ p k h. (k, h)) page keys at_home))
      (kept_wanted span page)

  more_rises : Rises (found ++ more)
  unfolding page more
  more_rises = rises_join to found more gone.rises (kept_rises span page rises) gone.below more_upto

  -- a key whose home is that page, or an earlier one, has the value that the pairs give
  told : (q : Bytes) → 1 ≤ length q → (UpTo to q → home q leaves ≡ home to leaves)
      → find order q (found ++ more) ≡ value_of span (union leaves) q
  unfolding page more
  told q h same =
      elim (is_below q to) as (λ t. is_below q to ≡ t → find order q (found ++ more) ≡ value_of span (union leaves) q) [
        | true ↦ λ t.
            find_left q found more
            (all-map (λ p. UpTo to p.0) (λ p. eq_by_cmp order q p.0 ≡ false) (λ p v. below_apart q p.0 (below-upto q to p.0 t v)) more more_upto)
            ∙ gone.all q h t
        | false ↦ λ t.
            find_right q found more
            (all-map (λ p. Below p.0 to) (λ p. eq_by_cmp order q p.0 ≡ false) (λ p b. above_apart q p.0 (below-upto p.0 to q b t)) found gone.below)
            ∙ kept_find span q page
            ∙ ap (λ v. cond (is_wanted span q) v None)
            (sym (get-union m q leaves a ∙ ap (λ (l : Leaf). find order q l.pairs) (same t)))
      ] refl

  -- on to the page of the next low
  pub gone_more : (low : Bytes) → IsNextLow leaves to low → Gone span leaves low (found ++ wanted_of span (home to leaves).pairs)
  unfolding page more
  gone_more low next = record {
    rises = more_rises;
    below = all_join (λ p. Below p.0 low) found more
        (all-map (λ p. Below p.0 to) (λ p. Below p.0 low) (λ p b. below-trans p.0 to low b next.above) found gone.below)
        (kept_all (λ p. Below p.0 low) span page
        (all-map (λ p. home p.0 leaves ≡ home to leaves) (λ p. Below p.0 low)
        (λ p same. must_be (is_below p.0 low) (λ not.
        let under : UpTo low (home p.0 leaves).low = low_among (λ b. UpTo b p.0 → UpTo b (home p.0 leaves).low) low leaves next.its (home-max p.0 leaves) not in
        not_both (is_below to low) next.above
        (upto-trans low (home to leaves).low to (subst (λ (l : Leaf). UpTo low l.low) same under) (home-low to leaves a.first))))
        page at_home));
    all = λ q h b. told q h
        (λ t. same_leaf m leaves a to q t (all-map (λ l. Below to l.low → UpTo low l.low) (λ l. Below to l.low → Below q l.low)
        (λ l least above. below-upto q low l.low b (least above)) leaves next.least));
    starts = λ q h w same.
        let under : UpTo low (home low leaves).low =
        low_among (λ b. UpTo b low → UpTo b (home low leaves).low) low leaves next.its (home-max low leaves) (upto-refl low) in
        upto-trans low (home q leaves).low q (subst (λ (l : Leaf). UpTo low l.low) (sym same) under) (home-low q leaves a.first);
  }

  -- the last page of all
  gone_last : HasNoLowAbove leaves to → IsStretchOf (union leaves) span (found ++ more)
  unfolding page more
  gone_last last = record {
    rises = more_rises;
    all = λ q h. told q h
        (λ t. same_leaf m leaves a to q t (all-map (λ l. UpTo l.low to) (λ l. Below to l.low → Below q l.low)
        (λ l not is. not_both (is_below to l.low) is not) leaves last));
  }

  -- the last page that may have wanted keys
  gone_over : (low : Bytes) → IsNextLow leaves to low → is_over span low ≡ true → IsStretchOf (union leaves) span (found ++ more)
  unfolding page more
  gone_over low next over =
      let later = gone_more low next in
      record {
        rises = more_rises;
        all = λ q h. elim (is_below q low) as (λ t. is_below q low ≡ t → find order q (found ++ more) ≡ value_of span (union leaves) q) [
          | true ↦ λ t. later.all q h t
          | false ↦ λ t.
              find-none q (found ++ more) (all-map (λ p. Below p.0 low) (λ p. eq_by_cmp order q p.0 ≡ false)
              (λ p b. above_apart q p.0 (below-upto p.0 low q b t)) (found ++ more) later.below)
              ∙ no_wanted span leaves q (over_all span low q over t)
        ] refl;
      }

  pub gone_whole : HasNoneWanted span leaves to → IsStretchOf (union leaves) span (found ++ wanted_of span (home to leaves).pairs)
  unfolding page more
  gone_whole (inl last) = gone_last last
  gone_whole (inr next) = gone_over next.0 next.1 next.2

-- ---- the pairs of pages

on_page : (m : ℕ) (leaves : List Leaf) → AreLeaves m leaves → (span : Span) (key : Bytes) (n : ℕ) → n ≡ (home key leaves).page
    → wanted_on span (leaf_at n leaves) ≡ wanted_of span (home key leaves).pairs
on_page m leaves a span key n e =
    let there = home_there m leaves key a in
    ap (λ k. wanted_on span (leaf_at k leaves)) e ∙ ap (wanted_on span) there

pub first_page : (m : ℕ) (leaves : List Leaf) → AreLeaves m leaves → (span : Span) (key : Bytes) (n : ℕ) (pages : List ℕ)
    → n ≡ (home key leaves).page → pages ≡ n ∷ [] → stretch_on span leaves pages ≡ [] ++ wanted_of span (home key leaves).pairs
first_page m leaves a span key n pages e is =
    rw is (append-nil (wanted_on span (leaf_at n leaves)) ∙ on_page m leaves a span key n e)

pub next_page : (m : ℕ) (leaves : List Leaf) → AreLeaves m leaves → (span : Span) (key : Bytes) (n : ℕ) (pages all : List ℕ)
    → n ≡ (home key leaves).page → all ≡ pages ++ n ∷ []
    → stretch_on span leaves all ≡ stretch_on span leaves pages ++ wanted_of span (home key leaves).pairs
next_page m leaves a span key n pages all e is =
    rw is (flat_map-append (λ k. wanted_on span (leaf_at k leaves)) pages (n ∷ [])
    ∙ ap (λ l. stretch_on span leaves pages ++ l) (append-nil (wanted_on span (leaf_at n leaves)) ∙ on_page m leaves a span key n e))

-- ---- the whole stretch

-- keys of at least a byte
abbrev AreKeys : Pairs → Type 0
AreKeys ps = All (λ p. 1 ≤ length p.0) ps

no_empty : (ps : Pairs) → AreKeys ps → find order [] ps ≡ None
no_empty [] h = refl
no_empty (([], v) ∷ ps) h = absurd (omega (arith, h.0))
no_empty (((x ∷ key), v) ∷ ps) h = no_empty ps h.1

all_at : {X : Type 0} (P : X → Type 0) (xs : List X) (n : ℕ) (x : X) → All P xs → slice_get xs n ≡ Some x → P x
all_at P [] n x h e = cc e
all_at P (y ∷ ys) zero x h e = let same : y ≡ x = cc e in subst P same h.0
all_at P (y ∷ ys) (suc n) x h e = all_at P ys n x h.1 e

keys_of : (m : ℕ) (leaf : Leaf) → IsBase m leaf → AreKeys leaf.pairs
keys_of m leaf base = all-map _ (λ p. 1 ≤ length p.0) (λ p is. is.0.0) leaf.pairs base.pairs

keys_if : (m : ℕ) (span : Span) (o : Option Leaf) → ((leaf : Leaf) → o ≡ Some leaf → IsBase m leaf) → AreKeys (wanted_on span o)
keys_if m span None h = tt
keys_if m span (Some leaf) h = kept_all (λ p. 1 ≤ length p.0) span leaf.pairs (keys_of m leaf (h leaf refl))

base_at : (m : ℕ) (leaves : List Leaf) (n : ℕ) (leaf : Leaf) → All (IsBase m) leaves → leaf_at n leaves ≡ Some leaf → IsBase m leaf
base_at m leaves zero leaf h e = cc e
base_at m leaves (suc n) leaf h e = all_at (IsBase m) leaves n leaf h e

keys_on : (m : ℕ) (leaves : List Leaf) (span : Span) (numbers : List ℕ) → All (IsBase m) leaves → AreKeys (stretch_on span leaves numbers)
keys_on m leaves span [] h = tt
keys_on m leaves span (n ∷ ns) h =
    all_join (λ p. 1 ≤ length p.0) (wanted_on span (leaf_at n leaves)) (stretch_on span leaves ns)
    (keys_if m span (leaf_at n leaves) (λ leaf e. base_at m leaves n leaf h e)) (keys_on m leaves span ns h)

no_empty_key : (m : ℕ) (leaves : List Leaf) → AreLeaves m leaves → finite.get (union leaves) [] ≡ None
no_empty_key m leaves a =
    get-union m [] leaves a ∙ no_empty (home [] leaves).pairs (keys_of m (home [] leaves) (home-all (IsBase m) [] leaves a.first a.each))

-- lists in order that give each key alike are one list
alike : (xs ys : Pairs) → Rises xs → Rises ys → ((q : Bytes) → find order q xs ≡ find order q ys) → xs ≡ ys
alike xs ys r s same =
    let left = rises_T xs r in
    let right = rises_T ys s in
    let one : finite.from_sorted {R = order} xs ≡ finite.from_sorted ys =
    finite.same_map order-total (λ x y e. order-same x y e) (finite.from_sorted xs) (finite.from_sorted ys)
    (λ q. finite.get-from_sorted order xs q left ∙ same q ∙ sym (finite.get-from_sorted order ys q right)) in
    sym (finite.entries-from_sorted order xs left) ∙ ap finite.entries one ∙ finite.entries-from_sorted order ys right

stretch_find : (span : Span) (map : Map) (q : Bytes) → find order q (stretch span map) ≡ value_of span map q
stretch_find span map q =
    kept_find span q (finite.entries map) ∙ ap (λ v. cond (is_wanted span q) v None) (sym (finite.get-entries map q))

pub whole : (m : ℕ) (leaves : List Leaf) → AreLeaves m leaves → (span : Span) (numbers : List ℕ)
    → IsStretchOf (union leaves) span (stretch_on span leaves numbers) → stretch_on span leaves numbers ≡ stretch span (union leaves)
whole m leaves a span numbers is =
    alike (stretch_on span leaves numbers) (stretch span (union leaves)) is.rises
    (kept_rises span (finite.entries (union leaves)) (T_rises (finite.entries (union leaves)) (finite.entries_sorted (union leaves))))
    each
  where
    empty : value_of span (union leaves) [] ≡ None
    empty = ap (λ v. cond (is_wanted span []) v None) (no_empty_key m leaves a) ∙ no_value (is_wanted span [])

    each : (q : Bytes) → find order q (stretch_on span leaves numbers) ≡ find order q (stretch span (union leaves))
    each [] = no_empty (stretch_on span leaves numbers) (keys_on m leaves span numbers a.each) ∙ sym empty ∙ sym (stretch_find span (union leaves) [])
    each (x ∷ q) = is.all (x ∷ q) (omega arith) ∙ sym (stretch_find span (union leaves) (x ∷ q))

-- ---- how many pages are ahead

ahead_one : (b : Bool) (n k : ℕ) → n ≤ k → (if b then 1 else 0) + n ≤ suc k
ahead_one true n k h = omega arith
ahead_one false n k h = omega arith

pub ahead_all : (key : Bytes) (leaves : List Leaf) → ahead key leaves ≤ length leaves
ahead_all key [] = omega arith
ahead_all key (l ∷ ls) = ahead_one (is_below key l.low) (ahead key ls) (length ls) (ahead_all key ls)

none_one : (b : Bool) (n : ℕ) → (if b then 1 else 0) + n ≡ 0 → (b ≡ false) × (n ≡ 0)
none_one true n h = absurd (omega arith)
none_one false n h = (refl, omega arith)

pub none_ahead : (key : Bytes) (leaves : List Leaf) → ahead key leaves ≡ 0 → HasNoLowAbove leaves key
none_ahead key [] h = tt
none_ahead key (l ∷ ls) h =
    let parts = none_one (is_below key l.low) (ahead key ls) h in
    (parts.0, none_ahead key ls parts.1)

-- ---- how many pairs

counted_if : (span : Span) (o : Option Leaf) → count_if span o ≡ length (wanted_on span o)
counted_if span None = refl
counted_if span (Some leaf) = sym (length-filter (λ p. is_wanted span p.0) leaf.pairs)

sum_on : (span : Span) (leaves : List Leaf) (numbers : List ℕ) → sum_by (count_at span leaves) numbers ≡ length (stretch_on span leaves numbers)
sum_on span leaves [] = refl
sum_on span leaves (n ∷ ns) =
    sum_by-cons (count_at span leaves) n ns
    ∙ ap (λ k. k + sum_by (count_at span leaves) ns) (counted_if span (leaf_at n leaves))
    ∙ ap (λ k. length (wanted_on span (leaf_at n leaves)) + k) (sum_on span leaves ns)
    ∙ sym (length-append (wanted_on span (leaf_at n leaves)) (stretch_on span leaves ns))

all_wanted : (from to prefix : Option Bytes) (key : Bytes) → is_none from && is_none to && is_none prefix ≡ true
    → is_from from key && is_to to key && begins prefix key ≡ true
all_wanted None None None key h = refl
all_wanted None None (Some p) key h = cc h
all_wanted None (Some t) prefix key h = cc h
all_wanted (Some f) to prefix key h = cc h

kept_whole : (span : Span) (ps : Pairs) → has_all span ≡ true → wanted_of span ps ≡ ps
kept_whole span [] h = refl
kept_whole span (p ∷ ps) h =
    let one : is_wanted span p.0 ≡ true = all_wanted span.from span.to span.prefix p.0 h in
    rw one (ap (λ l. p ∷ l) (kept_whole span ps h))

counted_by : (b : Bool) (span : Span) (leaves : List Leaf) (numbers : List ℕ) (count : ℕ) → has_all span ≡ b
    → stretch_on span leaves numbers ≡ stretch span (union leaves)
    → count ≡ cond b (finite.len (union leaves)) (min (sum_by (count_at span leaves) numbers) (2 ^ 64 - 1)) → count < 2 ^ 64
    → count ≡ min (length (stretch span (union leaves))) (2 ^ 64 - 1)
counted_by true span leaves numbers count all same h fits =
    let long : length (stretch span (union leaves)) ≡ finite.len (union leaves) =
    ap length (kept_whole span (finite.entries (union leaves)) all) ∙ sym (finite.len-entries (union leaves)) in
    omega arith
counted_by false span leaves numbers count all same h fits =
    let long : sum_by (count_at span leaves) numbers ≡ length (stretch span (union leaves)) = sum_on span leaves numbers ∙ ap length same in
    h ∙ ap (λ n. min n (2 ^ 64 - 1)) long

pub counted_whole : (span : Span) (leaves : List Leaf) (numbers : List ℕ) (count : ℕ)
    → stretch_on span leaves numbers ≡ stretch span (union leaves) → count ≡ counted span leaves numbers → count < 2 ^ 64
    → count ≡ min (length (stretch span (union leaves))) (2 ^ 64 - 1)
counted_whole span leaves numbers count same h fits = counted_by (has_all span) span leaves numbers count refl same h fits
