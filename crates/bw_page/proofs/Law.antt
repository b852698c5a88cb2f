-- The law of the split rule: leaves stay lawful, and all pairs of all pages are the plain map.

use Rattle.std.proofs.Common.{◌≡◌, ◌≢◌, ℕ, ◌+◌, ◌/◌, ◌<◌, ◌≤◌, ◌^◌, true, false, cond, List, [], ◌∷◌, ◌++◌, map, length, take, drop, refl, sym, ap, ◌∙◌, subst}
use Rattle.std.proofs.Common.{arith, nat_le, lit≤, lit<}
use Rattle.std.proofs.Common.{length-take, length-drop}
use Rattle.std.proofs.lemmas.List.{length-map}
use Rattle.std.specs.Prelude.{◌==◌}
use Rattle.std.specs.List.{AllByRecursion as All, fold}
use Rattle.std.specs.Ordering.{eq_by_cmp}
use Rattle.std.specs.FinMap as finite
use Rattle.std.specs.FinMap.{get-from_entries, same_map, slice_cmp-IsAntisymmetric, nat_cmp-IsAntisymmetric}
use Rattle.std.specs.FinMap.Entries.{find}
use Rattle.std.proofs.lemmas.Bool.{eqb-true, eqb-false, le-leb, leb-true, leb-false, lt-leb}
use Rattle.bw_record.specs.Keys.{is_below}
use Rattle.bw_record.specs.Lawful.{IsOp, IsPair}
use Rattle.bw_codec.specs.Grammar.{IsBase, first_key}
use Rattle.bw_record.specs.Record.{key_of}
use Rattle.bw_record.specs.declared.leaf.Leaf.{Leaf}
use Rattle.bw_record.specs.declared.record.Record.{Record}
use Rattle.bw_record.specs.declared.record.Record.TheVariants.{Put, Del}
use Rattle.bw_record.proofs.Order.{Below, UpTo, order-total, upto-below, apart}
use Rattle.bw_leaf.specs.Changed.{Bytes, order, empty_leaf, changed, changed_map}
use Rattle.bw_page.specs.Leaves.{home, AtHome, AreLeaves, HasPage, HasPages, applied, pages}
use Rattle.bw_leaf.specs.SplitRule.{lower_of, upper_of}
use Rattle.bw_page.specs.Leaves.{union, plain}
use Rattle.bw_leaf.proofs.Sorted.{all-map, all-zip, all-take, all-drop, Rises, ascends_rises, rises_ascends, rises-take, rises-drop, first-all, lower_below}
use Rattle.bw_leaf.proofs.Sorted.{upper_from, find-lower, find-upper, rises-changed, value_of, find-changed, get-changed, HoldsOfNew, all-changed}
use Rattle.bw_leaf.proofs.Sorted.{length-changed}
use Rattle.bw_page.proofs.Homes.{home-all, home-low, same_home, put_in, set_is_put, pairs_of, find-home}
use Rattle.bw_page.proofs.Applying.{Replaces, home-put_here, home-put_elsewhere, put_leaves, Splits, home-push_lower, home-push_upper, home-push_elsewhere}
use Rattle.bw_page.proofs.Applying.{push_leaves}

-- a leaf that was changed at the home of k
pub record Directed (m : ℕ) (leaves : List Leaf) (k : Bytes) (d : Leaf) : Type 0 where
  pub page : d.page ≡ (home k leaves).page
  pub low : d.low ≡ (home k leaves).low
  pub keys : All (λ p. home p.0 leaves ≡ home k leaves) d.pairs
  pub pairs : All IsPair d.pairs
  pub rises : Rises d.pairs
  pub few : length d.pairs ≤ m + 1
  pub number : (1 ≤ d.page) × (d.page < 2 ^ 32)
  pub short : length d.low ≤ 128

pub home_base : (m : ℕ) (leaves : List Leaf) (k : Bytes) → AreLeaves m leaves → IsBase m (home k leaves)
home_base m leaves k a = home-all (IsBase m) k leaves a.first a.each

pub home_keys : (m : ℕ) (leaves : List Leaf) (k : Bytes) → AreLeaves m leaves → All (λ p. home p.0 leaves ≡ home k leaves) (home k leaves).pairs
home_keys m leaves k a =
    all-map (λ p. (home p.0 leaves).page ≡ (home k leaves).page) (λ p. home p.0 leaves ≡ home k leaves)
    (λ p e. same_home leaves p.0 k a.first a.pages e) (home k leaves).pairs (home-all (AtHome leaves) k leaves a.first a.homes)

new_key : (leaves : List Leaf) (r : Record) → HoldsOfNew (λ p. home p.0 leaves ≡ home (key_of r) leaves) r
new_key leaves (Put key value) = refl
new_key leaves (Del key) = tt

new_pair : (r : Record) → IsOp r → HoldsOfNew IsPair r
new_pair (Put key value) h = h
new_pair (Del key) h = tt

pub directed : (m : ℕ) (leaves : List Leaf) (r : Record) → AreLeaves m leaves → IsOp r → Directed m leaves (key_of r) (changed r (home (key_of r) leaves))
directed m leaves r a op =
    let base = home_base m leaves (key_of r) a in
    let ps = (home (key_of r) leaves).pairs in
    record {
      page = refl;
      low = refl;
      keys = all-changed (λ p. home p.0 leaves ≡ home (key_of r) leaves) r ps (new_key leaves r) (home_keys m leaves (key_of r) a);
      pairs = all-changed IsPair r ps (new_pair r op) base.pairs;
      rises = rises-changed r ps (ascends_rises ps base.ascends);
      few = (let more = length-changed r ps in let count = base.count in omega arith);
      number = base.page;
      short = base.low;
    }

pub whole_in : (m : ℕ) (leaves : List Leaf) (k : Bytes) (d : Leaf) → Directed m leaves k d → length d.pairs ≤ m → Replaces m leaves k d
whole_in m leaves k d t fits = record {
  page = t.page;
  low = t.low;
  base = record { page = t.number; low = t.short; count = fits; pairs = t.pairs; ascends = rises_ascends d.pairs t.rises };
  homes = t.keys;
}

half_lies : (m : ℕ) → 1 ≤ m → (1 ≤ (m + 1) / 2) × ((m + 1) / 2 ≤ m) × (m + 1 ≤ m + (m + 1) / 2)
half_lies m h = (omega arith, omega arith, omega arith)

pub lower_in : (m : ℕ) (leaves : List Leaf) (k : Bytes) (d : Leaf) → 1 ≤ m → Directed m leaves k d → Replaces m leaves k (lower_of m d)
lower_in m leaves k d some t = record {
  page = t.page;
  low = t.low;
  base = record {
    page = t.number;
    low = t.short;
    count = (let long = length-take ((m + 1) / 2) d.pairs in let lies = half_lies m some in omega arith);
    pairs = all-take IsPair ((m + 1) / 2) d.pairs t.pairs;
    ascends = rises_ascends (lower_of m d).pairs (rises-take ((m + 1) / 2) d.pairs t.rises);
  };
  homes = all-take (λ p. home p.0 leaves ≡ home k leaves) ((m + 1) / 2) d.pairs t.keys;
}

module _ (m : ℕ) (leaves : List Leaf) (k : Bytes) (d : Leaf) (some : 1 ≤ m) (a : AreLeaves m leaves) (t : Directed m leaves k d)
    (over : m < length d.pairs) where
  pub split_within : (m + 1) / 2 < length d.pairs
  split_within = let lies = half_lies m some in omega arith

  upper_some : 1 ≤ length (drop ((m + 1) / 2) d.pairs)
  upper_some = let long = length-drop ((m + 1) / 2) d.pairs in let within = split_within in omega arith

  lower_some : 1 ≤ length (take ((m + 1) / 2) d.pairs)
  lower_some = let long = length-take ((m + 1) / 2) d.pairs in let lies = half_lies m some in let within = split_within in omega arith

  low_home : home (first_key (drop ((m + 1) / 2) d.pairs)) leaves ≡ home k leaves
  low_home = first-all (λ q. home q leaves ≡ home k leaves) (drop ((m + 1) / 2) d.pairs) upper_some
      (all-drop (λ p. home p.0 leaves ≡ home k leaves) ((m + 1) / 2) d.pairs t.keys)

  -- the low of the upper part is above that of the lower part, which has a pair
  pub split_over : Below d.low (first_key (drop ((m + 1) / 2) d.pairs))
  split_over =
      first-all (λ q. Below d.low (first_key (drop ((m + 1) / 2) d.pairs))) (take ((m + 1) / 2) d.pairs) lower_some
      (all-zip (λ p. home p.0 leaves ≡ home k leaves) (λ p. Below p.0 (first_key (drop ((m + 1) / 2) d.pairs)))
      (λ p. Below d.low (first_key (drop ((m + 1) / 2) d.pairs)))
      (λ p is below. upto-below d.low p.0 (first_key (drop ((m + 1) / 2) d.pairs))
      (subst (λ (low : Bytes). UpTo low p.0) (ap (λ (x : Leaf). x.low) is ∙ sym t.low) (home-low p.0 leaves a.first)) below)
      (take ((m + 1) / 2) d.pairs)
      (all-take (λ p. home p.0 leaves ≡ home k leaves) ((m + 1) / 2) d.pairs t.keys)
      (lower_below ((m + 1) / 2) d.pairs split_within t.rises))

  pub lower_here : (q : Bytes) → home q leaves ≡ home k leaves → home q (map (put_in (lower_of m d)) leaves) ≡ lower_of m d
  lower_here q e = home-put_here m leaves k (lower_of m d) a (lower_in m leaves k d some t) q e

  pub split_here : home (first_key (drop ((m + 1) / 2) d.pairs)) (map (put_in (lower_of m d)) leaves) ≡ lower_of m d
  split_here = lower_here (first_key (drop ((m + 1) / 2) d.pairs)) low_home

  pub upper_in : length leaves + 1 < 2 ^ 32 → Splits m (map (put_in (lower_of m d)) leaves) (upper_of m (length leaves + 1) d)
  upper_in room = record {
    page = ap (λ n. n + 1) (sym (length-map leaves (put_in (lower_of m d))));
    base = record {
      page = (omega arith, room);
      low = first-all (λ q. length q ≤ 128) (drop ((m + 1) / 2) d.pairs) upper_some
          (all-map IsPair (λ p. length p.0 ≤ 128) (λ p is. is.0.1) (drop ((m + 1) / 2) d.pairs) (all-drop IsPair ((m + 1) / 2) d.pairs t.pairs));
      count = (let long = length-drop ((m + 1) / 2) d.pairs in let lies = half_lies m some in let few = t.few in omega arith);
      pairs = all-drop IsPair ((m + 1) / 2) d.pairs t.pairs;
      ascends = rises_ascends (drop ((m + 1) / 2) d.pairs) (rises-drop ((m + 1) / 2) d.pairs t.rises);
    };
    above = subst (λ (x : Leaf). Below x.low (first_key (drop ((m + 1) / 2) d.pairs))) (sym split_here) split_over;
    lower = subst (λ (x : Leaf). All (λ p. Below p.0 (first_key (drop ((m + 1) / 2) d.pairs))) x.pairs) (sym split_here)
        (lower_below ((m + 1) / 2) d.pairs split_within t.rises);
    from = upper_from ((m + 1) / 2) d.pairs t.rises;
    homes = all-map (λ p. home p.0 leaves ≡ home k leaves)
        (λ p. home p.0 (map (put_in (lower_of m d)) leaves) ≡ home (first_key (drop ((m + 1) / 2) d.pairs)) (map (put_in (lower_of m d)) leaves))
        (λ p is. lower_here p.0 is ∙ sym split_here) (drop ((m + 1) / 2) d.pairs) (all-drop (λ p. home p.0 leaves ≡ home k leaves) ((m + 1) / 2) d.pairs t.keys);
  }

-- ---- leaves after a record

-- what is known of leaves after a record of k: they are lawful, and only k is found otherwise
pub record Tells (m : ℕ) (leaves : List Leaf) (r : Record) (next : List Leaf) : Type 0 where
  pub lawful : AreLeaves m next
  pub finds : (q : Bytes) → find order q (home q next).pairs ≡ cond (eq_by_cmp order q (key_of r)) (value_of r) (find order q (home q leaves).pairs)

-- if a key has another home, nothing is found otherwise
elsewhere : (leaves next : List Leaf) (r : Record) (q : Bytes) → (home q leaves).page ≢ (home (key_of r) leaves).page → home q next ≡ home q leaves
    → find order q (home q next).pairs ≡ cond (eq_by_cmp order q (key_of r)) (value_of r) (find order q (home q leaves).pairs)
elsewhere leaves next r q ne same =
    ap (λ (l : Leaf). find order q l.pairs) same
    ∙ ap (λ b. cond b (value_of r) (find order q (home q leaves).pairs)) (sym (apart q (key_of r) (λ e. ne (ap (λ k. (home k leaves).page) e))))

-- if it has the same home, the changed leaf says it
at_home : (m : ℕ) (leaves : List Leaf) (r : Record) (q : Bytes) → AreLeaves m leaves → home q leaves ≡ home (key_of r) leaves
    → find order q (changed r (home (key_of r) leaves)).pairs ≡ cond (eq_by_cmp order q (key_of r)) (value_of r) (find order q (home q leaves).pairs)
at_home m leaves r q a same =
    find-changed q r (home (key_of r) leaves).pairs (ascends_rises (home (key_of r) leaves).pairs (home_base m leaves (key_of r) a).ascends)
    ∙ ap (λ (l : Leaf). cond (eq_by_cmp order q (key_of r)) (value_of r) (find order q l.pairs)) (sym same)

module _ (m : ℕ) (leaves : List Leaf) (r : Record) (some : 1 ≤ m) (a : AreLeaves m leaves) (op : IsOp r) where
  here : (q : Bytes) (next : List Leaf)
      → (home q leaves ≡ home (key_of r) leaves → find order q (home q next).pairs ≡ find order q (changed r (home (key_of r) leaves)).pairs)
      → ((home q leaves).page ≢ (home (key_of r) leaves).page → home q next ≡ home q leaves)
      → find order q (home q next).pairs ≡ cond (eq_by_cmp order q (key_of r)) (value_of r) (find order q (home q leaves).pairs)
  here q next f g =
      elim ((home q leaves).page == (home (key_of r) leaves).page) as
      (λ b. ((home q leaves).page == (home (key_of r) leaves).page) ≡ b
      → find order q (home q next).pairs ≡ cond (eq_by_cmp order q (key_of r)) (value_of r) (find order q (home q leaves).pairs)) [
        | true ↦ λ e. let same = same_home leaves q (key_of r) a.first a.pages (eqb-true _ _ e) in f same ∙ at_home m leaves r q a same
        | false ↦ λ e. elsewhere leaves next r q (eqb-false _ _ e) (g (eqb-false _ _ e))
      ] refl

  whole-tells : length (changed r (home (key_of r) leaves)).pairs ≤ m → Tells m leaves r (map (put_in (changed r (home (key_of r) leaves))) leaves)
  whole-tells fits =
      let into = whole_in m leaves (key_of r) (changed r (home (key_of r) leaves)) (directed m leaves r a op) fits in
      record {
        lawful = put_leaves m leaves (key_of r) _ a into;
        finds = λ q. here q (map (put_in (changed r (home (key_of r) leaves))) leaves)
            (λ same. ap (λ (l : Leaf). find order q l.pairs) (home-put_here m leaves (key_of r) _ a into q same))
            (λ ne. home-put_elsewhere m leaves (key_of r) _ a into q ne);
      }

  split-tells : m < length (changed r (home (key_of r) leaves)).pairs → length leaves + 1 < 2 ^ 32
      → Tells m leaves r (map (put_in (lower_of m (changed r (home (key_of r) leaves)))) leaves
      ++ upper_of m (length leaves + 1) (changed r (home (key_of r) leaves)) ∷ [])
  split-tells over room =
      let x : Leaf = changed r (home (key_of r) leaves) in
      let t = directed m leaves r a op in
      let into = lower_in m leaves (key_of r) x some t in
      let lowers = put_leaves m leaves (key_of r) (lower_of m x) a into in
      let up = upper_in m leaves (key_of r) x some a t over room in
      let low : Bytes = first_key (drop ((m + 1) / 2) x.pairs) in
      let parts = map (put_in (lower_of m x)) leaves in
      let u = upper_of m (length leaves + 1) x in
      let split_one = split_here m leaves (key_of r) x some a t over in
      record {
        lawful = push_leaves m parts u lowers up;
        finds = λ q. here q (parts ++ u ∷ [])
            (λ same.
            let lower = lower_here m leaves (key_of r) x some a t over q same in
            elim (is_below q low) as (λ b. is_below q low ≡ b → find order q (home q (parts ++ u ∷ [])).pairs ≡ find order q x.pairs) [
              | true ↦ λ e. ap (λ (l : Leaf). find order q l.pairs) (home-push_lower m parts u lowers up q e ∙ lower)
                  ∙ find-lower q ((m + 1) / 2) x.pairs t.rises e
              | false ↦ λ e. ap (λ (l : Leaf). find order q l.pairs) (home-push_upper m parts u lowers up q e (lower ∙ sym split_one))
                  ∙ find-upper q ((m + 1) / 2) x.pairs (split_within m leaves (key_of r) x some a t over) t.rises e
            ] refl)
            (λ ne.
            let other = home-put_elsewhere m leaves (key_of r) (lower_of m x) a into q ne in
            home-push_elsewhere m parts u lowers up q
            (λ e. ne (sym (ap (λ (l : Leaf). l.page) other) ∙ e ∙ ap (λ (l : Leaf). l.page) split_one ∙ t.page)) ∙ other);
      }

  -- the two forms that leaves take after a record
  pub applied-whole : length (changed r (home (key_of r) leaves)).pairs ≤ m → applied m leaves r ≡ map (put_in (changed r (home (key_of r) leaves))) leaves
  applied-whole fits =
      rw (le-leb _ m fits) (set_is_put (changed r (home (key_of r) leaves)) leaves a.pages (directed m leaves r a op).number.0)

  pub applied-split : m < length (changed r (home (key_of r) leaves)).pairs
      → applied m leaves r ≡ map (put_in (lower_of m (changed r (home (key_of r) leaves)))) leaves
      ++ upper_of m (length leaves + 1) (changed r (home (key_of r) leaves)) ∷ []
  applied-split over =
      rw (lt-leb _ m over) (ap (λ ls. ls ++ upper_of m (length leaves + 1) (changed r (home (key_of r) leaves)) ∷ [])
      (set_is_put (lower_of m (changed r (home (key_of r) leaves))) leaves a.pages (directed m leaves r a op).number.0))

  applied-tells : HasPage m leaves r → Tells m leaves r (applied m leaves r)
  applied-tells room =
      elim (nat_le (length (changed r (home (key_of r) leaves)).pairs) m) as
      (λ b. nat_le (length (changed r (home (key_of r) leaves)).pairs) m ≡ b → Tells m leaves r (applied m leaves r)) [
        | true ↦ λ e. let fits = leb-true _ _ e in subst (Tells m leaves r) (sym (applied-whole fits)) (whole-tells fits)
        | false ↦ λ e. let over = leb-false _ _ e in subst (Tells m leaves r) (sym (applied-split over)) (split-tells over (room over))
      ] refl

module _ (m : ℕ) (leaves : List Leaf) (r : Record) (some : 1 ≤ m) (room : HasPage m leaves r) (a : AreLeaves m leaves) (op : IsOp r) where
  pub applied-lawful : AreLeaves m (applied m leaves r)
  applied-lawful = (applied-tells m leaves r some a op room).lawful

  -- the map of all pages is found page by page
  pub applied-plain : union (applied m leaves r) ≡ changed_map (union leaves) r
  applied-plain =
      same_map order-total (slice_cmp-IsAntisymmetric nat_cmp-IsAntisymmetric) _ _ (λ q.
      get-from_entries order-total (pairs_of (applied m leaves r)) q
      ∙ find-home m q (applied m leaves r) applied-lawful
      ∙ (applied-tells m leaves r some a op room).finds q
      ∙ sym (get-changed (union leaves) r q ∙ ap (λ v. cond (eq_by_cmp order q (key_of r)) (value_of r) v)
      (get-from_entries order-total (pairs_of leaves) q ∙ find-home m q leaves a)))

pub pages-plain : (m : ℕ) (leaves : List Leaf) (rs : List Record) → 1 ≤ m → HasPages m leaves rs → AreLeaves m leaves → All IsOp rs
    → AreLeaves m (pages m leaves rs) × (union (pages m leaves rs) ≡ plain leaves rs)
pages-plain m leaves [] some room a ops = (a, refl)
pages-plain m leaves (r ∷ rs) some room a ops =
    let rest = pages-plain m (applied m leaves r) rs some room.1 (applied-lawful m leaves r some room.0 a ops.0) ops.1 in
    (rest.0, rest.1 ∙ ap (λ start. fold changed_map start rs) (applied-plain m leaves r some room.0 a ops.0))

-- the value of a key is that of its home
pub get-union : (m : ℕ) (q : Bytes) (leaves : List Leaf) → AreLeaves m leaves → finite.get (union leaves) q ≡ find order q (home q leaves).pairs
get-union m q leaves a = get-from_entries order-total (pairs_of leaves) q ∙ find-home m q leaves a

-- one empty page is lawful
pub one_empty-lawful : (m : ℕ) → AreLeaves m (empty_leaf ∷ [])
one_empty-lawful m = record {
  pages = (refl, tt);
  first = refl;
  lows = ((λ e. refl, tt), tt);
  each = (record { page = (lit≤ tt, lit< tt); low = lit≤ tt; count = omega arith; pairs = tt; ascends = refl }, tt);
  homes = (tt, tt);
}
