-- What stays in step where the newest record is taken back.

use Rattle.std.proofs.Common.{◌≡◌, ℕ, List, [], ◌∷◌, ◌++◌, ◌/◌, true, false, IsTrue, nat_le, refl, Some, Option, Result, map, ◌+◌, ◌-◌, ◌<◌, ◌≤◌, cond, None, length}
use Rattle.std.proofs.Common.{take, drop, get_or, sym, ap, ◌∙◌, subst, arith, length-take}
use Rattle.std.proofs.Common.{length-append}
use Rattle.std.specs.Prelude.{slice_set, not}
use Rattle.std.proofs.lemmas.Bool.{leb-true, leb-false}
use Rattle.std.proofs.lemmas.List.{length-map, get_or-set_same, take_all}
use Rattle.std.specs.Ordering.{eq_by_cmp}
use Rattle.std.specs.FinMap.Entries.{find}
use Rattle.bw_record.specs.Keys.{IsKey}
use Rattle.bw_record.specs.Lawful.{IsOp}
use Rattle.bw_record.specs.Record.{key_of}
use Rattle.bw_record.specs.declared.record.Record.{Record}
use Rattle.bw_record.specs.declared.record.Record.TheVariants.{Del}
use Rattle.bw_record.specs.declared.leaf.Leaf.{Leaf}
use Rattle.bw_page.specs.declared.leaves.Leaves.TheInside.{Inside}
use Rattle.bw_page.specs.declared.journal.Undo.{Undo}
use Rattle.bw_page.specs.declared.journal.Undo.TheVariants.{Back, Page}
use Rattle.bw_page.specs.Displaced.{Displaced, joined, HasSeat, IsLess, AreParts}
use Rattle.bw_leaf.specs.Changed.{Bytes, Map, order, empty_leaf, changed}
use Rattle.bw_page.specs.Leaves.{home, result_of, with_leaf, applied, union, AreLeaves}
use Rattle.bw_leaf.specs.SplitRule.{lower_of, upper_of}
use Rattle.bw_lows.specs.LowHeads.{page_of_low}
use Rattle.bw_page.specs.Seats.{Seating, is_among}
use Rattle.bw_leaf.specs.Seek.{seek_of, AddsNone, back_of}
use Rattle.bw_page.specs.Shown.{Shown, IsHere}
use Rattle.bw_page.specs.Lows.{lows_of}
use Rattle.bw_page.specs.Journal.{undone, IsNewest}
use Rattle.bw_page.specs.Index.{view_of, IsIndexed}
use Rattle.bw_page.specs.Gap.{IsGap, IsPassed}
use Rattle.bw_page.proofs.Gaps.{passed_back}
use Rattle.bw_page.proofs.Journals.{Stepped, stepped, one_more, new_key, index_back, front, last_is}
use Rattle.bw_page.proofs.Indexed.{home_within}
use Rattle.bw_page.proofs.Indexing.{filed_new}
use Rattle.bw_page.proofs.Homes.{put_in, set_is_put}
use Rattle.bw_page.proofs.Parting.{parts_few, parts_whole}
use Rattle.bw_leaf.proofs.Sorted.{ascends_rises}
use Rattle.bw_page.proofs.Applying.{Replaces, same_lows, put_in-page, home-put}
use Rattle.bw_page.proofs.Law.{directed, home_base, lower_in, applied-whole, applied-split, applied-plain}
use Rattle.bw_page.proofs.Closed.{leaf_is, lows-put}
use Rattle.bw_page.proofs.TakenBack.{into, back_adds, back-key, none_deletes}
use Rattle.bw_page.proofs.Runs.{back_one, page_of, back_is, none_back}

-- more pairs than a page may have
over_of : (n m : ℕ) → IsTrue (not (nat_le n m)) → m < n
over_of n m h =
    elim (nat_le n m) as (λ b. nat_le n m ≡ b → IsTrue (not b) → m < n)
    [ true ↦ λ e no. absurd (cc) | false ↦ λ e yes. leb-false n m e ] refl h

fits_of : (n m : ℕ) → not (nat_le n m) ≡ false → n ≤ m
fits_of n m h =
    elim (nat_le n m) as (λ b. nat_le n m ≡ b → not b ≡ false → n ≤ m)
    [ true ↦ λ e yes. leb-true n m e | false ↦ λ e no. absurd (cc) ] refl h

-- what is left of the gap, if the newest record is taken back
gap_back : (a : Inside) → IsIndexed a → {now : Shown} {u : Undo} (n : IsNewest now u) (b : Inside) → view_of b ≡ n.before
    → a.leaves.items ≡ applied n.before.m n.before.leaves n.change → IsPassed a.gap (key_of n.change) b.gap → IsGap (union b.leaves.items) b.gap
gap_back a h n b all are by =
    subst (λ (f : Shown). IsGap (union f.leaves) b.gap) (sym all)
    (passed_back (union n.before.leaves) n.change a.gap b.gap by
    (subst (λ (m : Map). IsGap m a.gap) (ap union are ∙ applied-plain n.before.m n.before.leaves n.change n.some n.room n.lawful n.op) h.gap))

module _ (a : Inside) (h : IsIndexed a) (now : Shown) (v : view_of a ≡ now) (u : Displaced) (n : IsNewest now (Page u)) where
  pages_are : u.pages ≡ length n.before.leaves
  pages_are = ap (λ (x : Displaced). x.pages) (page_of n.before n.change u n.displaced)

  leaves_are : a.leaves.items ≡ applied n.before.m n.before.leaves n.change
  leaves_are = ap (λ (f : Shown). f.leaves) (v ∙ n.is)

  steps : Stepped n.before.m n.before.leaves (key_of n.change) a.leaves.items
  steps = subst (Stepped n.before.m n.before.leaves (key_of n.change)) (sym leaves_are)
      (stepped n.before.m n.before.leaves n.change n.some n.room n.lawful n.op)

  pub put_over : length a.leaves.items ≤ u.pages + 1
  put_over = let e = pages_are in let l = one_more n.before.m n.before.leaves (key_of n.change) n.lawful a.leaves.items steps in omega arith

  pub put_key : (d : Leaf) → u.pages < length a.leaves.items → IsKey (get_or a.leaves.items u.pages d).low
  put_key d more =
      subst (λ p. IsKey (get_or a.leaves.items p d).low) (sym pages_are)
      (new_key n.before.m n.before.leaves (key_of n.change) n.lawful a.leaves.items d steps (let e = pages_are in omega arith))

  page_is : u.leaf.page ≡ (home (key_of n.change) n.before.leaves).page
  page_is = ap (λ (x : Displaced). x.leaf.page) (page_of n.before n.change u n.displaced)

  evicted_is : a.leaves.evicted ≡ n.before.evicted
  evicted_is = ap (λ (f : Shown). f.evicted) (v ∙ n.is)

  -- the page that is dropped, and the one that is put back, are in memory
  pub put_beyond : is_among (u.pages + 1) a.leaves.evicted ≡ false
  put_beyond = (λ i. is_among (pages_are i + 1) (evicted_is i)) ∙ n.beyond

  pub put_here : is_among u.leaf.page a.leaves.evicted ≡ false
  put_here = (λ i. is_among (page_is i) (evicted_is i)) ∙ n.here

  pub put_within : u.leaf.page - 1 < length (take u.pages a.leaves.items)
  put_within =
      let e = pages_are in
      let p = page_is in
      let w = home_within n.before.m (key_of n.change) n.before.leaves n.lawful in
      let l = one_more n.before.m n.before.leaves (key_of n.change) n.lawful a.leaves.items steps in
      let t = length-take u.pages a.leaves.items in
      omega arith

  pub put_page : 1 ≤ u.leaf.page
  put_page = let p = page_is in let w = home_within n.before.m (key_of n.change) n.before.leaves n.lawful in omega arith

  pub put_seat : (seats : Seating) → seats.items ≡ take u.pages a.leaves.items → seats.evicted ≡ a.leaves.evicted → HasSeat u seats
  put_seat seats items evicted =
      let within = put_within in
      let long : length seats.items ≡ length (take u.pages a.leaves.items) = ap length items in
      record { page = (put_page, omega arith); here = ap (is_among u.leaf.page) evicted ∙ put_here }

  -- if the record did not split the page, it stands there without a pair
  pub put_less : (seats : Seating) → seats.items ≡ take u.pages a.leaves.items → u.is_split ≡ false → IsLess u seats
  put_less seats items whole d =
      let m = n.before.m in
      let leaves = n.before.leaves in
      let k = key_of n.change in
      let x : Leaf = result_of leaves n.change in
      let was = page_of n.before n.change u n.displaced in
      let fits : length x.pairs ≤ m = fits_of (length x.pairs) m (sym (ap (λ (d : Displaced). d.is_split) was) ∙ whole) in
      let deletes : n.change ≡ Del k = none_deletes n.change (find order k (home k leaves).pairs) (none_back n.before n.change u n.displaced fits) in
      let form : a.leaves.items ≡ map (put_in x) leaves = leaves_are ∙ applied-whole m leaves n.change n.some n.lawful n.op fits in
      let p = pages_are in
      let page = page_is in
      let w = home_within m k leaves n.lawful in
      let some : 1 ≤ x.page = omega arith in
      let long = length-map leaves (put_in x) in
      let front_is : seats.items ≡ map (put_in x) leaves =
      items ∙ (λ i. take (p i) (form i)) ∙ take_all (length leaves) (map (put_in x) leaves) (omega arith) in
      let at : get_or seats.items (u.leaf.page - 1) d ≡ x =
      (λ i. get_or ((front_is ∙ sym (set_is_put x leaves n.lawful.pages some)) i) (page i - 1) d)
      ∙ get_or-set_same leaves (x.page - 1) x d (omega arith) in
      at ∙ ap (λ r. changed r (home k leaves)) deletes ∙ sym (ap (λ (d : Displaced). changed (Del d.key) d.leaf) was)

  -- if the record split the page, its parts are there
  pub put_parts : (seats : Seating) (upper : Option Leaf) → seats.items ≡ take u.pages a.leaves.items
      → ((d : Leaf) → u.pages < length a.leaves.items → upper ≡ Some (get_or a.leaves.items u.pages d)) → IsTrue u.is_split → AreParts u seats upper
  put_parts seats upper items last split =
      let m = n.before.m in
      let leaves = n.before.leaves in
      let k = key_of n.change in
      let base = home_base m leaves k n.lawful in
      let rises = ascends_rises (home k leaves).pairs base.ascends in
      let x : Leaf = result_of leaves n.change in
      let lower : Leaf = lower_of m x in
      let upper_is : Leaf = upper_of m (length leaves + 1) x in
      let was = page_of n.before n.change u n.displaced in
      let split_is : IsTrue (not (nat_le (length x.pairs) m)) = subst IsTrue (ap (λ (d : Displaced). d.is_split) was) split in
      let over : m < length x.pairs = over_of (length x.pairs) m split_is in
      let form : a.leaves.items ≡ map (put_in lower) leaves ++ upper_is ∷ [] = leaves_are ∙ applied-split m leaves n.change n.some n.lawful n.op over in
      let into = lower_in m leaves k x n.some (directed m leaves n.change n.lawful n.op) in
      let p = pages_are in
      let page = page_is in
      let w = home_within m k leaves n.lawful in
      let some : 1 ≤ lower.page = omega arith in
      let front_is : seats.items ≡ map (put_in lower) leaves =
      items ∙ (λ i. take (p i) (form i)) ∙ front m leaves k n.lawful lower upper_is in
      let long = length-map leaves (put_in lower) in
      let count : length seats.items ≡ length (map (put_in lower) leaves) = ap length front_is in
      let longer : length a.leaves.items ≡ length (map (put_in lower) leaves ++ upper_is ∷ []) = ap length form in
      let added = length-append (map (put_in lower) leaves) (upper_is ∷ []) in
      let at : (d : Leaf) → get_or seats.items (u.leaf.page - 1) d ≡ lower = λ d.
      (λ i. get_or ((front_is ∙ sym (set_is_put lower leaves n.lawful.pages some)) i) (page i - 1) d)
      ∙ get_or-set_same leaves (lower.page - 1) lower d (omega arith) in
      record {
        other = upper_is;
        is = last lower (omega arith) ∙ ap Some ((λ i. get_or (form i) (p i) lower) ∙ last_is m leaves k n.lawful lower upper_is lower);
        few = λ d. subst (λ (l : Leaf). length l.pairs + length upper_is.pairs ≤ length u.leaf.pairs + 1) (sym (at d))
            (subst (λ (l : Leaf). length lower.pairs + length upper_is.pairs ≤ length l.pairs + 1) (sym (ap (λ (d : Displaced). d.leaf) was))
            (parts_few ((m + 1) / 2) n.change (home k leaves) upper_is refl));
        whole = λ d. (λ i. changed (Del (was i).key) (joined (at d i) upper_is))
            ∙ parts_whole m ((m + 1) / 2) n.change (home k leaves) upper_is rises base.count over refl
            ∙ sym (ap (λ (d : Displaced). d.leaf) was);
      }

  pub put_back_filed : (b : Inside) → b.m ≡ a.m → b.leaves.evicted ≡ a.leaves.evicted
      → b.leaves.items ≡ slice_set (take u.pages a.leaves.items) (u.leaf.page - 1) u.leaf
      → (length a.leaves.items ≤ u.pages → (q : Bytes) → page_of_low b.index q ≡ page_of_low a.index q)
      → ((d : Leaf) → u.pages < length a.leaves.items → (q : Bytes)
      → page_of_low b.index q ≡ cond (eq_by_cmp order q (get_or a.leaves.items u.pages d).low) None (page_of_low a.index q))
      → IsPassed a.gap u.key b.gap → IsIndexed b
  put_back_filed b em ea el same less by =
      let to : view_of b ≡ undone (view_of a) (Page u) = λ i. record { m = em i; leaves = el i; evicted = ea i } in
      let all : view_of b ≡ n.before = to ∙ ap (λ f. undone f (Page u)) v ∙ back_one now (Page u) n in
      let e = pages_are in
      filed_new b (subst (λ (k : ℕ). (4 ≤ k) × (k ≤ 32)) (sym em) h.limit)
      (subst (λ (f : Shown). AreLeaves f.m f.leaves) (sym all) n.lawful)
      (λ q. index_back n.before.m n.before.leaves (key_of n.change) n.lawful a.leaves.items u.leaf (page_of_low a.index)
      (page_of_low b.index) steps h.index
      (λ few. same (omega arith))
      (λ more k. less u.leaf (omega arith) k ∙ ap (λ p. cond (eq_by_cmp order k (get_or a.leaves.items p u.leaf).low) None (page_of_low a.index k)) e) q
      ∙ ap (λ (f : Shown). find order q (lows_of (drop 1 f.leaves))) (sym all))
      (gap_back a h n b all leaves_are
      (subst (λ (k : Bytes). IsPassed a.gap k b.gap) (ap (λ (x : Displaced). x.key) (page_of n.before n.change u n.displaced)) by))

-- ---- the same by a record

module _ (a : Inside) (h : IsIndexed a) (now : Shown) (v : view_of a ≡ now) (back : Record) (n : IsNewest now (Back back)) where
  fits : length (result_of n.before.leaves n.change).pairs ≤ n.before.m
  fits = (back_is n.before n.change back n.displaced).0

  takes : back_of n.change (find order (key_of n.change) (home (key_of n.change) n.before.leaves).pairs) ≡ Some back
  takes = (back_is n.before n.change back n.displaced).1

  lawful_into : Replaces n.before.m n.before.leaves (key_of n.change) (result_of n.before.leaves n.change)
  lawful_into = into n.before.m n.before.leaves n.change back n.some n.lawful n.op fits takes

  -- the page is the one that the newest record changed
  back_page : (home (key_of back) now.leaves).page ≡ (home (key_of n.change) n.before.leaves).page
  back_page =
      let x : Leaf = result_of n.before.leaves n.change in
      ap (λ (f : Shown). (home (key_of back) f.leaves).page) n.is
      ∙ ap (λ (ls : List Leaf). (home (key_of back) ls).page) (applied-whole n.before.m n.before.leaves n.change n.some n.lawful n.op fits)
      ∙ ap (λ (l : Leaf). l.page) (home-put n.before.m n.before.leaves (key_of n.change) x n.lawful lawful_into (key_of back))
      ∙ put_in-page x (home (key_of back) n.before.leaves)
      ∙ ap (λ k. (home k n.before.leaves).page) (back-key n.change back (find order (key_of n.change) (home (key_of n.change) n.before.leaves).pairs) takes)

  pub back_here : IsHere (key_of back) now
  back_here = (λ i. is_among (back_page i) ((ap (λ (f : Shown). f.evicted) n.is) i)) ∙ n.here

  pub back_stays : (s : Result ℕ ℕ) → s ≡ seek_of (key_of back) (home (key_of back) now.leaves).pairs → AddsNone back s
  back_stays s e =
      back_adds n.before.m n.before.leaves n.change back n.some n.lawful n.op fits takes s
      (e ∙ ap (λ (f : Shown). seek_of (key_of back) (home (key_of back) f.leaves).pairs) n.is)

  -- leaves after the record that takes the newest one back
  pub view_back : (op : IsOp back) (at : ℕ) → at + 1 ≡ (home (key_of back) now.leaves).page → (b : Inside) → b.m ≡ a.m → b.leaves.evicted ≡ a.leaves.evicted
      → ((d : Leaf) → b.leaves.items ≡ slice_set a.leaves.items at (changed back (get_or a.leaves.items at d)))
      → view_of b ≡ undone now (Back back)
  view_back op at here b em ea set =
      let inside : at + 1 ≡ (home (key_of back) a.leaves.items).page = subst (λ (f : Shown). at + 1 ≡ (home (key_of back) f.leaves).page) (sym v) here in
      let place : at ≡ (home (key_of back) a.leaves.items).page - 1 = omega arith in
      let el : b.leaves.items ≡ with_leaf a.leaves.items (result_of a.leaves.items back) =
      set empty_leaf
      ∙ ap (λ (l : Leaf). slice_set a.leaves.items at (changed back l)) (leaf_is a h back op at inside empty_leaf)
      ∙ ap (λ i. slice_set a.leaves.items i (result_of a.leaves.items back)) place in
      let to : view_of b ≡ undone (view_of a) (Back back) = λ i. record { m = em i; leaves = el i; evicted = ea i } in
      to ∙ ap (λ f. undone f (Back back)) v

  pub filed_back : (b : Inside) → b.m ≡ a.m → view_of b ≡ undone now (Back back)
      → ((q : Bytes) → page_of_low b.index q ≡ page_of_low a.index q) → IsPassed a.gap (key_of back) b.gap → IsIndexed b
  filed_back b em to same by =
      let all : view_of b ≡ n.before = to ∙ back_one now (Back back) n in
      let x : Leaf = result_of n.before.leaves n.change in
      let old : a.leaves.items ≡ map (put_in x) n.before.leaves = ap (λ (f : Shown). f.leaves) (v ∙ n.is)
      ∙ applied-whole n.before.m n.before.leaves n.change n.some n.lawful n.op fits in
      filed_new b (subst (λ (k : ℕ). (4 ≤ k) × (k ≤ 32)) (sym em) h.limit)
      (subst (λ (f : Shown). AreLeaves f.m f.leaves) (sym all) n.lawful)
      (λ q. same q ∙ h.index q
      ∙ ap (λ (ls : List Leaf). find order q (lows_of (drop 1 ls))) old
      ∙ ap (find order q) (lows-put x n.before.leaves (same_lows n.before.m n.before.leaves (key_of n.change) x n.lawful
      (into n.before.m n.before.leaves n.change back n.some n.lawful n.op fits takes)))
      ∙ ap (λ (f : Shown). find order q (lows_of (drop 1 f.leaves))) (sym all))
      (gap_back a h n b all (ap (λ (f : Shown). f.leaves) (v ∙ n.is))
      (subst (λ (k : Bytes). IsPassed a.gap k b.gap)
      (back-key n.change back (find order (key_of n.change) (home (key_of n.change) n.before.leaves).pairs) takes) by))
