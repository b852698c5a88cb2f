-- What a change of the leaves and of the index leaves: both stay in step.

use Rattle.std.proofs.Common.{Result, Option, ◌≡◌, ◌≢◌, ℕ, ◌+◌, ◌-◌, ◌<◌, ◌≤◌, ◌^◌, cond, Some, None, List, [], ◌∷◌, ◌++◌}
use Rattle.std.proofs.Common.{map, length, drop, get_or, refl, sym, ap, ◌∙◌, subst}
use Rattle.std.proofs.Common.{arith, length-append}
use Rattle.std.specs.Prelude.{slice_set}
use Rattle.std.specs.List.{AllByRecursion as All}
use Rattle.std.specs.Ordering.{eq_by_cmp}
use Rattle.std.specs.FinMap.Entries.{find, find-append}
use Rattle.std.proofs.lemmas.Bool.{le-leb, lt-leb}
use Rattle.std.proofs.lemmas.List.{length-map}
use Rattle.bw_record.specs.Lawful.{IsOp}
use Rattle.bw_record.specs.Record.{key_of}
use Rattle.bw_record.specs.declared.leaf.Leaf.{Leaf}
use Rattle.bw_record.specs.declared.record.Record.{Record}
use Rattle.bw_record.proofs.Order.{order-total, apart}
use Rattle.bw_page.specs.declared.leaves.Leaves.TheInside.{Inside}
use Rattle.bw_leaf.specs.Changed.{Bytes, Map, order, empty_leaf, changed, changed_map}
use Rattle.bw_page.specs.Leaves.{home, AreLeaves, BeginsEmpty, HasPage, applied, union}
use Rattle.bw_leaf.specs.SplitRule.{lower_of, upper_of}
use Rattle.bw_lows.specs.LowHeads.{page_of_low}
use Rattle.bw_page.specs.Shown.{Shown, applied_by}
use Rattle.bw_leaf.specs.Seek.{seek_of, IsWithin}
use Rattle.bw_page.specs.Lows.{lows_of}
use Rattle.bw_page.specs.Index.{view_of, IsIndexed}
use Rattle.bw_page.specs.declared.gap.Gap.{Gap}
use Rattle.bw_page.specs.Gap.{IsGap, IsPassed}
use Rattle.bw_page.proofs.Gaps.{passed}
use Rattle.bw_page.proofs.Homes.{put_in, set_is_put}
use Rattle.bw_page.proofs.Applying.{put_in-page, same_lows, put_leaves, new_low}
use Rattle.bw_page.proofs.Law.{directed, whole_in, lower_in, upper_in, applied-whole, applied-split, applied-lawful, applied-plain}
use Rattle.bw_page.proofs.Homes.{home_stands}

-- ---- the lows of changed leaves

lows-kept : (d : Leaf) (ls : List Leaf) → All (λ l. (put_in d l).low ≡ l.low) ls → lows_of (map (put_in d) ls) ≡ lows_of ls
lows-kept d [] h = refl
lows-kept d (l ∷ ls) h = λ i. (h.0 i, put_in-page d l i) ∷ lows-kept d ls h.1 i

pub lows-put : (d : Leaf) (leaves : List Leaf) → All (λ l. (put_in d l).low ≡ l.low) leaves → lows_of (drop 1 (map (put_in d) leaves)) ≡ lows_of (drop 1 leaves)
lows-put d [] h = refl
lows-put d (l ∷ ls) h = lows-kept d ls h.1

lows-append : (ls : List Leaf) (u : Leaf) → lows_of (ls ++ u ∷ []) ≡ lows_of ls ++ (u.low, u.page) ∷ []
lows-append [] u = refl
lows-append (l ∷ ls) u = ap (λ xs. (l.low, l.page) ∷ xs) (lows-append ls u)

lows-push : (leaves : List Leaf) (u : Leaf) → BeginsEmpty leaves → lows_of (drop 1 (leaves ++ u ∷ [])) ≡ lows_of (drop 1 leaves) ++ (u.low, u.page) ∷ []
lows-push [] u b = absurd b
lows-push (l ∷ ls) u b = lows-append ls u

not_among : (low : Bytes) (ls : List Leaf) → All (λ l. l.low ≢ low) ls → find order low (lows_of ls) ≡ None
not_among low [] h = refl
not_among low (l ∷ ls) h = rw (apart low l.low (λ e. h.0 (sym e))) (not_among low ls h.1)

pub not_among_others : (low : Bytes) (leaves : List Leaf) → All (λ l. l.low ≢ low) leaves → find order low (lows_of (drop 1 leaves)) ≡ None
not_among_others low [] h = refl
not_among_others low (l ∷ ls) h = not_among low ls h.1

-- a look-up among lows after a push of a new one
pub find-push : (q : Bytes) (leaves : List Leaf) (u : Leaf) → BeginsEmpty leaves → All (λ l. l.low ≢ u.low) leaves
    → find order q (lows_of (drop 1 (leaves ++ u ∷ []))) ≡ cond (eq_by_cmp order q u.low) (Some u.page) (find order q (lows_of (drop 1 leaves)))
find-push q leaves u b new =
    ap (find order q) (lows-push leaves u b) ∙ find-append order order-total (lows_of (drop 1 leaves)) u.low u.page q (not_among_others u.low leaves new)

-- ---- closed again

lawful_at : (a b : Inside) → b.m ≡ a.m → b.leaves.items ≡ a.leaves.items → AreLeaves a.m a.leaves.items → AreLeaves b.m b.leaves.items
lawful_at a b em el h = subst (λ (p : ℕ × List Leaf). AreLeaves p.0 p.1) (λ i. (sym em i, sym el i)) h

-- nothing was changed
pub same_filed : (a b : Inside) → IsIndexed a → b.m ≡ a.m → b.leaves.items ≡ a.leaves.items
    → ((q : Bytes) → page_of_low b.index q ≡ page_of_low a.index q) → b.gap ≡ a.gap → IsIndexed b
same_filed a b h em el same eg = record {
  limit = subst (λ (n : ℕ). (4 ≤ n) × (n ≤ 32)) (sym em) h.limit;
  count = subst (λ (ls : List Leaf). length ls < 2 ^ 32) (sym el) h.count;
  lawful = lawful_at a b em el h.lawful;
  index = λ q. same q ∙ h.index q ∙ ap (λ (ls : List Leaf). find order q (lows_of (drop 1 ls))) (sym el);
  gap = subst (λ (p : List Leaf × Option Gap). IsGap (union p.0) p.1) (λ i. (sym el i, sym eg i)) h.gap;
}

module _ (a : Inside) (h : IsIndexed a) (r : Record) (op : IsOp r) (at : ℕ) (here : at + 1 ≡ (home (key_of r) a.leaves.items).page) where
  -- the leaf that is changed
  pub leaf_is : (d : Leaf) → get_or a.leaves.items at d ≡ home (key_of r) a.leaves.items
  leaf_is d =
      let e : at ≡ (home (key_of r) a.leaves.items).page - 1 = omega arith in
      ap (λ i. get_or a.leaves.items i d) e ∙ home_stands a.m (key_of r) a.leaves.items h.lawful d

  some : 1 ≤ a.m
  some = let l = h.limit in omega arith

  in_place : (x : Leaf) → x.page ≡ (home (key_of r) a.leaves.items).page → slice_set a.leaves.items at x ≡ map (put_in x) a.leaves.items
  in_place x e =
      let i : at ≡ x.page - 1 = omega arith in
      let p : 1 ≤ x.page = omega arith in
      ap (λ n. slice_set a.leaves.items n x) i ∙ set_is_put x a.leaves.items h.lawful.pages p

  -- one leaf was changed, and it has no more pairs than it may
  pub whole_is : length (changed r (home (key_of r) a.leaves.items)).pairs ≤ a.m
      → slice_set a.leaves.items at (changed r (home (key_of r) a.leaves.items)) ≡ applied a.m a.leaves.items r
  whole_is fits = in_place (changed r (home (key_of r) a.leaves.items)) refl ∙ sym (applied-whole a.m a.leaves.items r some h.lawful op fits)

  pub whole_filed : (b : Inside) → b.m ≡ a.m → length (changed r (home (key_of r) a.leaves.items)).pairs ≤ a.m → b.leaves.items ≡ applied a.m a.leaves.items r
      → ((q : Bytes) → page_of_low b.index q ≡ page_of_low a.index q) → IsGap (union b.leaves.items) b.gap → IsIndexed b
  whole_filed b em fits el same gap =
      let into = whole_in a.m a.leaves.items (key_of r) _ (directed a.m a.leaves.items r h.lawful op) fits in
      let form = applied-whole a.m a.leaves.items r some h.lawful op fits in
      record {
        limit = subst (λ (n : ℕ). (4 ≤ n) × (n ≤ 32)) (sym em) h.limit;
        count = subst (λ (ls : List Leaf). length ls < 2 ^ 32) (sym (el ∙ form))
            (subst (λ n. n < 2 ^ 32) (sym (length-map a.leaves.items (put_in (changed r (home (key_of r) a.leaves.items))))) h.count);
        lawful = subst (λ (p : ℕ × List Leaf). AreLeaves p.0 p.1) (λ i. (sym em i, sym el i))
            (applied-lawful a.m a.leaves.items r some (λ over. absurd (omega arith)) h.lawful op);
        index = λ q. same q ∙ h.index q ∙ ap (find order q)
            (sym (ap (λ (ls : List Leaf). lows_of (drop 1 ls)) (el ∙ form)
            ∙ lows-put _ a.leaves.items (same_lows a.m a.leaves.items (key_of r) _ h.lawful into)));
        gap = gap;
      }

  -- one leaf was split in two, and its upper part stands after the others
  pub split_is : a.m < length (changed r (home (key_of r) a.leaves.items)).pairs
      → slice_set a.leaves.items at (lower_of a.m (changed r (home (key_of r) a.leaves.items)))
      ++ upper_of a.m (length a.leaves.items + 1) (changed r (home (key_of r) a.leaves.items)) ∷ [] ≡ applied a.m a.leaves.items r
  split_is over =
      ap (λ (ls : List Leaf). ls ++ upper_of a.m (length a.leaves.items + 1) (changed r (home (key_of r) a.leaves.items)) ∷ [])
      (in_place (lower_of a.m (changed r (home (key_of r) a.leaves.items))) refl)
      ∙ sym (applied-split a.m a.leaves.items r some h.lawful op over)

  pub split_filed : (b : Inside) → b.m ≡ a.m → a.m < length (changed r (home (key_of r) a.leaves.items)).pairs → length a.leaves.items + 1 < 2 ^ 32
      → b.leaves.items ≡ applied a.m a.leaves.items r
      → ((q : Bytes) → page_of_low b.index q
      ≡ cond (eq_by_cmp order q (upper_of a.m (length a.leaves.items + 1) (changed r (home (key_of r) a.leaves.items))).low)
      (Some (length a.leaves.items + 1)) (page_of_low a.index q))
      → IsGap (union b.leaves.items) b.gap → IsIndexed b
  split_filed b em over room el got gap =
      let x = changed r (home (key_of r) a.leaves.items) in
      let u = upper_of a.m (length a.leaves.items + 1) x in
      let t = directed a.m a.leaves.items r h.lawful op in
      let into = lower_in a.m a.leaves.items (key_of r) x some t in
      let form = applied-split a.m a.leaves.items r some h.lawful op over in
      let parts : List Leaf = map (put_in (lower_of a.m x)) a.leaves.items in
      let lowers = put_leaves a.m a.leaves.items (key_of r) (lower_of a.m x) h.lawful into in
      let up = upper_in a.m a.leaves.items (key_of r) x some h.lawful t over room in
      let long = length-append parts (u ∷ []) in
      let same_long = length-map a.leaves.items (put_in (lower_of a.m x)) in
      record {
        limit = subst (λ (n : ℕ). (4 ≤ n) × (n ≤ 32)) (sym em) h.limit;
        count = subst (λ (ls : List Leaf). length ls < 2 ^ 32) (sym (el ∙ form)) (let fits : length (parts ++ u ∷ []) < 2 ^ 32 = omega arith in fits);
        lawful = subst (λ (p : ℕ × List Leaf). AreLeaves p.0 p.1) (λ i. (sym em i, sym el i))
            (applied-lawful a.m a.leaves.items r some (λ o. room) h.lawful op);
        index = λ q. got q
            ∙ ap (λ v. cond (eq_by_cmp order q u.low) (Some u.page) v)
            (h.index q ∙ ap (find order q) (sym (lows-put _ a.leaves.items (same_lows a.m a.leaves.items (key_of r) _ h.lawful into))))
            ∙ sym (find-push q parts u lowers.first (new_low a.m parts u lowers up))
            ∙ ap (λ (ls : List Leaf). find order q (lows_of (drop 1 ls))) (sym (el ∙ form));
        gap = gap;
      }

  -- the map of all pages after the record
  pub plain_is : (next : List Leaf) → HasPage a.m a.leaves.items r → next ≡ applied a.m a.leaves.items r → union next ≡ changed_map (union a.leaves.items) r
  plain_is next room e = ap union e ∙ applied-plain a.m a.leaves.items r some room h.lawful op

-- ---- what a call leaves, said of the value that it began with

-- leaves after a record, with their index
pub record Follows (now : Shown) (r : Record) (b : Inside) : Type 0 where
  pub filed : IsIndexed b
  pub view : view_of b ≡ record { m = now.m; leaves = applied now.m now.leaves r; evicted = now.evicted }
  pub plain : union b.leaves.items ≡ changed_map (union now.leaves) r

module _ (a : Inside) (h : IsIndexed a) (now : Shown) (v : view_of a ≡ now) (r : Record) (op : IsOp r) (at count : ℕ)
    (here : at + 1 ≡ (home (key_of r) now.leaves).page) (pairs : count ≡ length (changed r (home (key_of r) now.leaves)).pairs) where
  here_inside : at + 1 ≡ (home (key_of r) a.leaves.items).page
  here_inside = subst (λ (f : Shown). at + 1 ≡ (home (key_of r) f.leaves).page) (sym v) here

  count_inside : count ≡ length (changed r (home (key_of r) a.leaves.items)).pairs
  count_inside = subst (λ (f : Shown). count ≡ length (changed r (home (key_of r) f.leaves)).pairs) (sym v) pairs

  -- the leaf that is split has too many pairs, whatever a read past the end gives
  pub over_at : a.m < count → (d : Leaf) → a.m < length (changed r (get_or a.leaves.items at d)).pairs
  over_at over d =
      subst (λ (l : Leaf). a.m < length (changed r l).pairs) (sym (leaf_is a h r op at here_inside d)) (let c = count_inside in omega arith)

  -- the search for the record's key ended in that leaf
  pub found_at : (found : Result ℕ ℕ) → found ≡ seek_of (key_of r) (home (key_of r) now.leaves).pairs
      → (d : Leaf) → found ≡ seek_of (key_of r) (get_or a.leaves.items at d).pairs
  found_at found e d =
      e ∙ ap (λ (f : Shown). seek_of (key_of r) (home (key_of r) f.leaves).pairs) (sym v)
      ∙ ap (λ (l : Leaf). seek_of (key_of r) l.pairs) (sym (leaf_is a h r op at here_inside d))

  pub within_at : (found : Result ℕ ℕ) → IsWithin (length (home (key_of r) now.leaves).pairs) found
      → (d : Leaf) → IsWithin (length (get_or a.leaves.items at d).pairs) found
  within_at found w d =
      subst (λ (l : Leaf). IsWithin (length l.pairs) found)
      (ap (λ (f : Shown). home (key_of r) f.leaves) (sym v) ∙ sym (leaf_is a h r op at here_inside d)) w

  -- that leaf, as it is read in its place
  pub home_at : (leaf : Leaf) → leaf ≡ get_or a.leaves.items at leaf → leaf ≡ home (key_of r) now.leaves
  home_at leaf e = e ∙ leaf_is a h r op at here_inside leaf ∙ ap (λ (f : Shown). home (key_of r) f.leaves) v

  viewed : (b : Inside) → b.m ≡ a.m → b.leaves.evicted ≡ a.leaves.evicted → b.leaves.items ≡ applied a.m a.leaves.items r
      → view_of b ≡ record { m = now.m; leaves = applied now.m now.leaves r; evicted = now.evicted }
  viewed b em ea el =
      let to : view_of b ≡ record { m = a.m; leaves = applied a.m a.leaves.items r; evicted = a.leaves.evicted } =
      λ i. record { m = em i; leaves = el i; evicted = ea i } in
      to ∙ ap (λ (f : Shown). let g : Shown = record { m = f.m; leaves = applied f.m f.leaves r; evicted = f.evicted } in g) v

  -- no page has a pair in the gap that is left
  gap_is : (b : Inside) → union b.leaves.items ≡ changed_map (union a.leaves.items) r → IsPassed a.gap (key_of r) b.gap
      → IsGap (union b.leaves.items) b.gap
  gap_is b e by = subst (λ (m : Map). IsGap m b.gap) (sym e) (passed (union a.leaves.items) r a.gap b.gap by h.gap)

  pub follows_whole : (b : Inside) → b.m ≡ a.m → b.leaves.evicted ≡ a.leaves.evicted → count ≤ a.m
      → ((d : Leaf) → b.leaves.items ≡ slice_set a.leaves.items at (changed r (get_or a.leaves.items at d)))
      → ((q : Bytes) → page_of_low b.index q ≡ page_of_low a.index q) → IsPassed a.gap (key_of r) b.gap → Follows now r b
  follows_whole b em ea few set same by =
      let fits : length (changed r (home (key_of r) a.leaves.items)).pairs ≤ a.m = (let c = count_inside in omega arith) in
      let el : b.leaves.items ≡ applied a.m a.leaves.items r =
      set empty_leaf ∙ ap (λ (l : Leaf). slice_set a.leaves.items at (changed r l)) (leaf_is a h r op at here_inside empty_leaf)
      ∙ whole_is a h r op at here_inside fits in
      let plainly = plain_is a h r op at here_inside b.leaves.items (λ over. absurd (omega arith)) el in
      record {
        filed = whole_filed a h r op at here_inside b em fits el same (gap_is b plainly by);
        view = viewed b em ea el;
        plain = plainly ∙ ap (λ (f : Shown). changed_map (union f.leaves) r) v;
      }

  pub follows_split : (b : Inside) (page : ℕ) → b.m ≡ a.m → b.leaves.evicted ≡ a.leaves.evicted → a.m < count → page ≡ length a.leaves.items + 1 → page < 2 ^ 32
      → ((d : Leaf) → b.leaves.items ≡ slice_set a.leaves.items at (lower_of a.m (changed r (get_or a.leaves.items at d)))
      ++ upper_of a.m page (changed r (get_or a.leaves.items at d)) ∷ [])
      → ((d : Leaf) (q : Bytes) → page_of_low b.index q
      ≡ cond (eq_by_cmp order q (upper_of a.m page (changed r (get_or a.leaves.items at d))).low) (Some page) (page_of_low a.index q))
      → IsPassed a.gap (key_of r) b.gap → Follows now r b
  follows_split b page em ea many e room set got by =
      let over : a.m < length (changed r (home (key_of r) a.leaves.items)).pairs = (let c = count_inside in omega arith) in
      let fits : length a.leaves.items + 1 < 2 ^ 32 = subst (λ n. n < 2 ^ 32) e room in
      let el : b.leaves.items ≡ applied a.m a.leaves.items r =
      set empty_leaf
      ∙ ap (λ (l : Leaf). slice_set a.leaves.items at (lower_of a.m (changed r l)) ++ upper_of a.m page (changed r l) ∷ [])
      (leaf_is a h r op at here_inside empty_leaf)
      ∙ ap (λ n. slice_set a.leaves.items at (lower_of a.m (changed r (home (key_of r) a.leaves.items)))
      ++ upper_of a.m n (changed r (home (key_of r) a.leaves.items)) ∷ []) e
      ∙ split_is a h r op at here_inside over in
      let plainly = plain_is a h r op at here_inside b.leaves.items (λ o. fits) el in
      record {
        filed = split_filed a h r op at here_inside b em over fits el (λ q. got empty_leaf q
            ∙ ap (λ (l : Leaf). cond (eq_by_cmp order q (upper_of a.m page (changed r l)).low) (Some page) (page_of_low a.index q))
            (leaf_is a h r op at here_inside empty_leaf)
            ∙ ap (λ n. cond (eq_by_cmp order q (upper_of a.m n (changed r (home (key_of r) a.leaves.items))).low) (Some n) (page_of_low a.index q)) e)
            (gap_is b plainly by);
        view = viewed b em ea el;
        plain = plainly ∙ ap (λ (f : Shown). changed_map (union f.leaves) r) v;
      }

-- the same entries give the same look-ups
pub same_gets : (x y : List (Bytes × ℕ)) → y ≡ x → (q : Bytes) → page_of_low y q ≡ page_of_low x q
same_gets x y e q = ap (λ (lows : List (Bytes × ℕ)). page_of_low lows q) e

-- ---- what a record did

pub whole_by : (f : Shown) (r : Record) (page count m : ℕ) → page ≡ (home (key_of r) f.leaves).page
    → count ≡ length (changed r (home (key_of r) f.leaves)).pairs → m ≡ f.m → count ≤ m → (record { page = page; made = None }) ≡ applied_by f r
whole_by f r page count m e c k few =
    let made : None ≡ (applied_by f r).made =
    ap (λ b. cond b None (Some (length f.leaves + 1))) (sym (le-leb (length (changed r (home (key_of r) f.leaves)).pairs) f.m (omega arith))) in
    λ i. record { page = e i; made = made i }

pub split_by : (f : Shown) (r : Record) (page count m made : ℕ) → page ≡ (home (key_of r) f.leaves).page
    → count ≡ length (changed r (home (key_of r) f.leaves)).pairs → m ≡ f.m → m < count → made ≡ length f.leaves + 1
    → (record { page = page; made = Some made }) ≡ applied_by f r
split_by f r page count m made e c k many n =
    let made_is : Some made ≡ (applied_by f r).made =
    ap Some n ∙ ap (λ b. cond b None (Some (length f.leaves + 1))) (sym (lt-leb (length (changed r (home (key_of r) f.leaves)).pairs) f.m (omega arith))) in
    λ i. record { page = e i; made = made_is i }
