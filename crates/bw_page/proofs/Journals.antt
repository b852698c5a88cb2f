-- What a record displaced puts back what there was; and a journal does so for a list of records.

use Rattle.std.proofs.Common.{◌≡◌, ℕ, ◌+◌, ◌-◌, ◌<◌, ◌≤◌, true, false, cond, Option, Some, None, List, [], ◌∷◌, ◌++◌, map, length, take, drop, get_or, refl}
use Rattle.std.proofs.Common.{sym, ap, ◌∙◌, subst, arith, length-append, nat_le}
use Rattle.std.specs.Prelude.{slice_set}
use Rattle.std.specs.Ordering.{eq_by_cmp}
use Rattle.std.specs.FinMap.Entries.{find}
use Rattle.std.proofs.Math.Seq.{take-append_seam}
use Rattle.std.proofs.lemmas.Bool.{leb-true, leb-false}
use Rattle.std.proofs.lemmas.List.{length-map, set-set, set-get_or, take_all, get_or-append_right}
use Rattle.bw_record.specs.Keys.{IsKey}
use Rattle.bw_record.specs.Lawful.{IsOp}
use Rattle.bw_record.specs.Record.{key_of}
use Rattle.bw_record.specs.declared.leaf.Leaf.{Leaf}
use Rattle.bw_record.specs.declared.record.Record.{Record}
use Rattle.bw_record.proofs.Order.{Below, not_both, upto_empty, tied}
use Rattle.bw_leaf.specs.Changed.{Bytes, order, changed}
use Rattle.bw_page.specs.Leaves.{home, with_leaf, applied, HasPage, AreLeaves}
use Rattle.bw_leaf.specs.SplitRule.{lower_of, upper_of}
use Rattle.bw_page.specs.Lows.{lows_of}
use Rattle.bw_page.proofs.Homes.{put_in, set_is_put}
use Rattle.bw_page.proofs.Applying.{Replaces, same_lows, put_leaves, Splits, new_low}
use Rattle.bw_page.proofs.Law.{directed, home_base, whole_in, lower_in, upper_in, applied-whole, applied-split}
use Rattle.bw_page.proofs.Homes.{home_stands}
use Rattle.bw_page.proofs.Closed.{lows-put, find-push, not_among_others}

-- ---- the two forms of leaves after a record

pub data Stepped (m : ℕ) (leaves : List Leaf) (k : Bytes) (next : List Leaf) : Type 0 where
  whole : (x : Leaf) → Replaces m leaves k x → next ≡ map (put_in x) leaves → Stepped m leaves k next
  split : (x u : Leaf) → Replaces m leaves k x → Splits m (map (put_in x) leaves) u → next ≡ map (put_in x) leaves ++ u ∷ [] → Stepped m leaves k next

pub stepped : (m : ℕ) (leaves : List Leaf) (r : Record) → 1 ≤ m → HasPage m leaves r → AreLeaves m leaves → IsOp r
    → Stepped m leaves (key_of r) (applied m leaves r)
stepped m leaves r some room a op =
    let x : Leaf = changed r (home (key_of r) leaves) in
    let t = directed m leaves r a op in
    elim (nat_le (length x.pairs) m) as (λ b. nat_le (length x.pairs) m ≡ b → Stepped m leaves (key_of r) (applied m leaves r)) [
      | true ↦ λ e. let fits = leb-true _ _ e in whole x (whole_in m leaves (key_of r) x t fits) (applied-whole m leaves r some a op fits)
      | false ↦ λ e. let over = leb-false _ _ e in
          split (lower_of m x) (upper_of m (length leaves + 1) x) (lower_in m leaves (key_of r) x some t)
          (upper_in m leaves (key_of r) x some a t over (room over)) (applied-split m leaves r some a op over)
    ] refl

-- ---- put back

same-length : (x : Leaf) (leaves : List Leaf) → length (map (put_in x) leaves) ≡ length leaves
same-length x leaves = length-map leaves (put_in x)

module _ (m : ℕ) (leaves : List Leaf) (k : Bytes) (a : AreLeaves m leaves) where
  -- the old leaf written over the new one
  pub written_back : (x : Leaf) → Replaces m leaves k x → slice_set (map (put_in x) leaves) ((home k leaves).page - 1) (home k leaves) ≡ leaves
  written_back x h =
      let base = home_base m leaves k a in
      let some : 1 ≤ x.page = let e = h.page in let p = base.page.0 in omega arith in
      ap (λ ls. slice_set ls ((home k leaves).page - 1) (home k leaves)) (sym (set_is_put x leaves a.pages some))
      ∙ ap (λ p. slice_set (slice_set leaves (p - 1) x) ((home k leaves).page - 1) (home k leaves)) h.page
      ∙ set-set leaves ((home k leaves).page - 1) x (home k leaves)
      ∙ ap (slice_set leaves ((home k leaves).page - 1)) (sym (home_stands m k leaves a (home k leaves)))
      ∙ set-get_or leaves ((home k leaves).page - 1) (home k leaves)

  pub front : (x u : Leaf) → take (length leaves) (map (put_in x) leaves ++ u ∷ []) ≡ map (put_in x) leaves
  front x u = ap (λ n. take n (map (put_in x) leaves ++ u ∷ [])) (sym (same-length x leaves)) ∙ take-append_seam (map (put_in x) leaves) (u ∷ [])

  pub goes_back : (next : List Leaf) → Stepped m leaves k next → with_leaf (take (length leaves) next) (home k leaves) ≡ leaves
  goes_back next (whole x h e) =
      ap (λ ls. with_leaf (take (length leaves) ls) (home k leaves)) e
      ∙ ap (λ ls. with_leaf ls (home k leaves)) (take_all (length leaves) (map (put_in x) leaves) (let l = same-length x leaves in omega arith))
      ∙ written_back x h
  goes_back next (split x u h s e) =
      ap (λ ls. with_leaf (take (length leaves) ls) (home k leaves)) e ∙ ap (λ ls. with_leaf ls (home k leaves)) (front x u) ∙ written_back x h

  pub one_more : (next : List Leaf) → Stepped m leaves k next → (length next ≤ length leaves + 1) × (length leaves ≤ length next)
  one_more next (whole x h e) = let l = same-length x leaves in let n : length next ≡ length (map (put_in x) leaves) = ap length e in (omega arith, omega arith)
  one_more next (split x u h s e) =
      let l = same-length x leaves in
      let n : length next ≡ length (map (put_in x) leaves ++ u ∷ []) = ap length e in
      let p = length-append (map (put_in x) leaves) (u ∷ []) in (omega arith, omega arith)

  pub last_is : (x u d : Leaf) → get_or (map (put_in x) leaves ++ u ∷ []) (length leaves) d ≡ u
  last_is x u d =
      let zeroth : length leaves - length leaves ≡ 0 = omega arith in
      get_or-append_right (map (put_in x) leaves) (u ∷ []) (length leaves) (length leaves) d (same-length x leaves) (omega arith)
      ∙ ap (λ i. get_or (u ∷ []) i d) zeroth

  low_some : (low other : Bytes) → Below other low → 1 ≤ length low
  low_some [] other h = not_both _ h (upto_empty other)
  low_some (b ∷ bs) other h = omega arith

  -- the low of a new page is a key
  pub new_key : (next : List Leaf) (d : Leaf) → Stepped m leaves k next → length leaves < length next → IsKey (get_or next (length leaves) d).low
  new_key next d (whole x h e) more = let l = same-length x leaves in let n : length next ≡ length (map (put_in x) leaves) = ap length e in absurd (omega arith)
  new_key next d (split x u h s e) more =
      subst (λ (y : Leaf). IsKey y.low) (sym (ap (λ ls. get_or ls (length leaves) d) e ∙ last_is x u d))
      (low_some u.low (home u.low (map (put_in x) leaves)).low s.above, s.base.low)

  forgotten : (q low : Bytes) (page : ℕ) (found : Option ℕ) → (q ≡ low → found ≡ None)
      → cond (eq_by_cmp order q low) None (cond (eq_by_cmp order q low) (Some page) found) ≡ found
  forgotten q low page found h =
      elim (eq_by_cmp order q low) as (λ b. eq_by_cmp order q low ≡ b → cond b None (cond b (Some page) found) ≡ found)
      [ true ↦ λ e. sym (h (tied q low e)) | false ↦ λ e. refl ] refl

  -- the index without the new low is that of the old leaves
  pub index_back : (next : List Leaf) (d : Leaf) (old new : Bytes → Option ℕ) → Stepped m leaves k next
      → ((q : Bytes) → old q ≡ find order q (lows_of (drop 1 next)))
      → (length next ≤ length leaves → (q : Bytes) → new q ≡ old q)
      → (length leaves < length next → (q : Bytes) → new q ≡ cond (eq_by_cmp order q (get_or next (length leaves) d).low) None (old q))
      → (q : Bytes) → new q ≡ find order q (lows_of (drop 1 leaves))
  index_back next d old new (whole x h e) is same less q =
      let l = same-length x leaves in
      let n : length next ≡ length (map (put_in x) leaves) = ap length e in
      same (omega arith) q ∙ is q ∙ ap (λ (ls : List Leaf). find order q (lows_of (drop 1 ls))) e
      ∙ ap (find order q) (lows-put x leaves (same_lows m leaves k x a h))
  index_back next d old new (split x u h s e) is same less q =
      let l = same-length x leaves in
      let n : length next ≡ length (map (put_in x) leaves ++ u ∷ []) = ap length e in
      let p = length-append (map (put_in x) leaves) (u ∷ []) in
      let lowers = put_leaves m leaves k x a h in
      let new_one = new_low m (map (put_in x) leaves) u lowers s in
      let kept = lows-put x leaves (same_lows m leaves k x a h) in
      less (omega arith) q
      ∙ ap (λ (y : Leaf). cond (eq_by_cmp order q y.low) None (old q)) (ap (λ ls. get_or ls (length leaves) d) e ∙ last_is x u d)
      ∙ ap (λ v. cond (eq_by_cmp order q u.low) None v)
      (is q ∙ ap (λ (ls : List Leaf). find order q (lows_of (drop 1 ls))) e ∙ find-push q (map (put_in x) leaves) u lowers.first new_one)
      ∙ forgotten q u.low u.page (find order q (lows_of (drop 1 (map (put_in x) leaves))))
      (λ is_low. ap (λ b. find order b (lows_of (drop 1 (map (put_in x) leaves)))) is_low ∙ not_among_others u.low (map (put_in x) leaves) new_one)
      ∙ ap (find order q) kept
