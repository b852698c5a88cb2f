-- Heads say an order of keys, and a row of them goes along with its pairs.

use Rattle.std.proofs.Common.{◌≡◌, ◌≢◌, ℕ, zero, suc, ◌<◌, ◌≤◌, false, inl, inr, get_or, List, [], ◌∷◌, ◌++◌, length, take, drop, map, insert, remove}
use Rattle.std.proofs.Common.{refl, sym, ap, ◌∙◌, subst, arith}
use Rattle.std.proofs.lemmas.List.{length-map, map-append, take-map, drop-map, map-set}
use Rattle.std.proofs.Math.Seq.{drop-append_seam}
use Rattle.std.specs.Prelude.{slice_set}
use Rattle.std.specs.Bool.{IsTrue}
use Rattle.std.specs.List.{AllByRecursion}
use Rattle.bw_record.specs.Keys.{is_below, IsBytes}
use Rattle.bw_record.specs.Heads.{PairList, head, heads, BeginsWith, Share, IsRow, AreBelow, BeginAbove}
use Rattle.bw_record.proofs.Order.{below_by_head, below_behind, above_beginning, below_beginning}

-- ---- the order

all_below : (s rest : List ℕ) → IsBytes rest → (pairs : PairList) (n : ℕ) → Share s pairs
    → AllByRecursion (λ h. h < head rest) (take n (heads (length s) pairs)) → AreBelow (s ++ rest) (take n pairs)
all_below s rest fits [] zero share all = tt
all_below s rest fits [] (suc n) share all = tt
all_below s rest fits (p ∷ ps) zero share all = tt
all_below s rest fits (p ∷ ps) (suc n) share all = (
  subst (λ k. IsTrue (is_below k (s ++ rest))) (sym share.0.0)
      (below_behind s (drop (length s) p.0) rest (below_by_head 8 (drop (length s) p.0) rest fits all.0)),
  all_below s rest fits ps n share.1 all.1,
)

-- the key begins with the bytes that are shared, and its rest has a head above these
pub skipped_below : (shared rest row : List ℕ) (pairs : PairList) (n : ℕ) → IsBytes rest → IsRow shared row pairs → n ≤ length row
    → AllByRecursion (λ h. h < head rest) (take n row) → (n ≤ length pairs) × AreBelow (shared ++ rest) (take n pairs)
skipped_below shared rest row pairs n fits (inl missing) within all =
    let zero_is : n ≡ 0 = omega (arith, ap length missing) in
    (omega arith, subst (λ m. AreBelow (shared ++ rest) (take m pairs)) (sym zero_is) tt)
skipped_below shared rest row pairs n fits (inr whole) within all = (
  omega (arith, ap length whole.1, length-map pairs (λ p. head (drop (length shared) p.0))),
  all_below shared rest fits pairs n whole.0 (subst (λ r. AllByRecursion (λ h. h < head rest) (take n r)) whole.1 all),
)

all_above : (s key : List ℕ) → IsTrue (is_below s key) → ((rest : List ℕ) → key ≢ s ++ rest) → (pairs : PairList) (n : ℕ)
    → Share s pairs → AreBelow key (take n pairs)
all_above s key below other [] zero share = tt
all_above s key below other [] (suc n) share = tt
all_above s key below other (p ∷ ps) zero share = tt
all_above s key below other (p ∷ ps) (suc n) share = (
  subst (λ k. IsTrue (is_below k key)) (sym share.0.0) (above_beginning s (drop (length s) p.0) key below other),
  all_above s key below other ps n share.1,
)

-- the key does not begin with the bytes that are shared, and is above them
pub skipped_all : (shared key row : List ℕ) (pairs : PairList) → IsRow shared row pairs → IsTrue (is_below shared key)
    → ((rest : List ℕ) → key ≢ shared ++ rest) → (length row ≤ length pairs) × AreBelow key (take (length row) pairs)
skipped_all shared key row pairs (inl missing) below other =
    let zero_is : length row ≡ 0 = ap length missing in
    (omega arith, subst (λ m. AreBelow key (take m pairs)) (sym zero_is) tt)
skipped_all shared key row pairs (inr whole) below other = (
  omega (arith, ap length whole.1, length-map pairs (λ p. head (drop (length shared) p.0))),
  all_above shared key below other pairs (length row) whole.0,
)

above_at : (s rest : List ℕ) (pairs : PairList) (at : ℕ) → Share s pairs → at < length (heads (length s) pairs)
    → head rest < get_or (heads (length s) pairs) at 0 → BeginAbove (s ++ rest) (drop at pairs)
above_at s rest [] at share inside above = absurd (omega arith)
above_at s rest (p ∷ ps) zero share inside above =
    subst (λ k. IsTrue (is_below (s ++ rest) k)) (sym share.0.0)
    (below_behind s rest (drop (length s) p.0) (below_by_head 8 rest (drop (length s) p.0) share.0.1 above))
above_at s rest (p ∷ ps) (suc at) share inside above = above_at s rest ps at share.1 (omega arith) above

-- the key begins with the bytes that are shared, and its rest has a head below the one at an index
pub skip_above : (shared rest row : List ℕ) (pairs : PairList) (at : ℕ) → IsRow shared row pairs → at < length row
    → head rest < get_or row at 0 → BeginAbove (shared ++ rest) (drop at pairs)
skip_above shared rest row pairs at (inl missing) inside above = absurd (omega (arith, ap length missing))
skip_above shared rest row pairs at (inr whole) inside above =
    above_at shared rest pairs at whole.0 (subst (λ (r : List ℕ). at < length r) whole.1 inside)
    (subst (λ (r : List ℕ). head rest < get_or r at 0) whole.1 above)

-- the key does not begin with the bytes that are shared, and is below them
pub all_skip_above : (shared key row : List ℕ) (pairs : PairList) → IsRow shared row pairs → 1 ≤ length row → is_below shared key ≡ false
    → ((rest : List ℕ) → key ≢ shared ++ rest) → BeginAbove key pairs
all_skip_above shared key row pairs (inl missing) some up other = absurd (omega (arith, ap length missing))
all_skip_above shared key row [] (inr whole) some up other = absurd (omega (arith, ap length whole.1))
all_skip_above shared key row (p ∷ ps) (inr whole) some up other =
    subst (λ k. IsTrue (is_below key k)) (sym whole.0.0.0) (below_beginning shared (drop (length shared) p.0) key up other)

-- ---- what keys share

pub rest_is : (shared key rest : List ℕ) → key ≡ shared ++ rest → drop (length shared) key ≡ rest
rest_is shared key rest e = ap (drop (length shared)) e ∙ drop-append_seam shared rest

pub begins : (shared key rest : List ℕ) → key ≡ shared ++ rest → IsBytes rest → BeginsWith shared key × IsBytes (drop (length shared) key)
begins shared key rest e fits = (
  e ∙ ap (λ (r : List ℕ). shared ++ r) (sym (rest_is shared key rest e)),
  subst IsBytes (sym (rest_is shared key rest e)) fits,
)

-- one more pair from the front
pub share_more : (s : List ℕ) (pairs : PairList) (i : ℕ) (p : List ℕ × List ℕ) → i < length pairs → p ≡ get_or pairs i p
    → Share s (take i pairs) → BeginsWith s p.0 × IsBytes (drop (length s) p.0) → Share s (take (suc i) pairs)
share_more s [] i p inside is share one = absurd (omega arith)
share_more s (q ∷ qs) zero p inside is share one =
    (subst (λ (r : List ℕ × List ℕ). BeginsWith s r.0 × IsBytes (drop (length s) r.0)) is one, tt)
share_more s (q ∷ qs) (suc i) p inside is share one = (share.0, share_more s qs i p (omega arith) is share.1 one)

pub heads_more : (skip : ℕ) (pairs : PairList) (i : ℕ) (p : List ℕ × List ℕ) → i < length pairs → p ≡ get_or pairs i p
    → heads skip (take i pairs) ++ head (drop skip p.0) ∷ [] ≡ heads skip (take (suc i) pairs)
heads_more skip [] i p inside is = absurd (omega arith)
heads_more skip (q ∷ qs) zero p inside is = ap (λ (r : List ℕ × List ℕ). head (drop skip r.0) ∷ []) is
heads_more skip (q ∷ qs) (suc i) p inside is = ap (λ (l : List ℕ). head (drop skip q.0) ∷ l) (heads_more skip qs i p (omega arith) is)

share_append : (s : List ℕ) (xs ys : PairList) → Share s xs → Share s ys → Share s (xs ++ ys)
share_append s [] ys front back = back
share_append s (x ∷ xs) ys front back = (front.0, share_append s xs ys front.1 back)

share_take : (s : List ℕ) (n : ℕ) (pairs : PairList) → Share s pairs → Share s (take n pairs)
share_take s zero pairs share = tt
share_take s (suc n) [] share = tt
share_take s (suc n) (p ∷ ps) share = (share.0, share_take s n ps share.1)

share_drop : (s : List ℕ) (n : ℕ) (pairs : PairList) → Share s pairs → Share s (drop n pairs)
share_drop s zero pairs share = share
share_drop s (suc n) [] share = tt
share_drop s (suc n) (p ∷ ps) share = share_drop s n ps share.1

share_set : (s : List ℕ) (pairs : PairList) (at : ℕ) (k v : List ℕ) → BeginsWith s k × IsBytes (drop (length s) k) → Share s pairs → Share s (slice_set pairs at (k, v))
share_set s [] at k v one share = share
share_set s (p ∷ ps) zero k v one share = (one, share.1)
share_set s (p ∷ ps) (suc at) k v one share = (share.0, share_set s ps at k v one share.1)

-- ---- the row

-- a row as long as its pairs is whole
pub whole_row : (shared row : List ℕ) (pairs : PairList) → IsRow shared row pairs → length row ≡ length pairs
    → Share shared pairs × (row ≡ heads (length shared) pairs)
whole_row shared row [] (inl missing) long = (tt, missing)
whole_row shared row (p ∷ ps) (inl missing) long = absurd (omega (arith, ap length missing))
whole_row shared row pairs (inr whole) long = whole

heads_inserted : (skip : ℕ) (row : List ℕ) (pairs : PairList) (at : ℕ) (k v : List ℕ) → row ≡ heads skip pairs
    → insert row at (head (drop skip k)) ≡ heads skip (insert pairs at (k, v))
heads_inserted skip row pairs at k v e =
    let h : ℕ = head (drop skip k) in
    ap (λ (r : List ℕ). take at r ++ h ∷ drop at r) e
    ∙ ap (λ (r : List ℕ). r ++ h ∷ drop at (heads skip pairs)) (take-map (λ p. head (drop skip p.0)) at pairs)
    ∙ ap (λ (r : List ℕ). map (λ p. head (drop skip p.0)) (take at pairs) ++ h ∷ r) (drop-map (λ p. head (drop skip p.0)) at pairs)
    ∙ sym (map-append (λ p. head (drop skip p.0)) (take at pairs) ((k, v) ∷ drop at pairs))

pub row_inserted : (shared row : List ℕ) (pairs : PairList) (at : ℕ) (k v rest : List ℕ) → IsRow shared row pairs
    → length row ≡ length pairs → k ≡ shared ++ rest → IsBytes rest → IsRow shared (insert row at (head rest)) (insert pairs at (k, v))
row_inserted shared row pairs at k v rest is long e fits =
    let whole : Share shared pairs × (row ≡ heads (length shared) pairs) = whole_row shared row pairs is long in
    inr (
      share_append shared (take at pairs) ((k, v) ∷ drop at pairs) (share_take shared at pairs whole.0)
          (begins shared k rest e fits, share_drop shared at pairs whole.0),
      ap (λ (r : List ℕ). insert row at (head r)) (sym (rest_is shared k rest e)) ∙ heads_inserted (length shared) row pairs at k v whole.1,
    )

heads_removed : (skip : ℕ) (pairs : PairList) (at : ℕ) → remove (heads skip pairs) at ≡ heads skip (remove pairs at)
heads_removed skip pairs at =
    ap (λ (r : List ℕ). r ++ drop (suc at) (heads skip pairs)) (take-map (λ p. head (drop skip p.0)) at pairs)
    ∙ ap (λ (r : List ℕ). map (λ p. head (drop skip p.0)) (take at pairs) ++ r) (drop-map (λ p. head (drop skip p.0)) (suc at) pairs)
    ∙ sym (map-append (λ p. head (drop skip p.0)) (take at pairs) (drop (suc at) pairs))

pub row_set : (shared row : List ℕ) (pairs : PairList) (at : ℕ) (k v rest : List ℕ) → IsRow shared row pairs → k ≡ shared ++ rest → IsBytes rest
    → IsRow shared (slice_set row at (head rest)) (slice_set pairs at (k, v))
row_set shared row pairs at k v rest (inl missing) e fits = inl (ap (λ (r : List ℕ). slice_set r at (head rest)) missing)
row_set shared row pairs at k v rest (inr whole) e fits = inr (
  share_set shared pairs at k v (begins shared k rest e fits) whole.0,
  ap (λ (r : List ℕ). slice_set row at (head r)) (sym (rest_is shared k rest e))
      ∙ ap (λ (r : List ℕ). slice_set r at (head (drop (length shared) k))) whole.1
      ∙ sym (map-set (λ p. head (drop (length shared) p.0)) pairs at (k, v)),
)

pub row_removed : (shared row : List ℕ) (pairs : PairList) (at : ℕ) → IsRow shared row pairs → at < length row
    → IsRow shared (remove row at) (remove pairs at)
row_removed shared row pairs at (inl missing) within = absurd (omega (arith, ap length missing))
row_removed shared row pairs at (inr whole) within = inr (
  share_append shared (take at pairs) (drop (suc at) pairs) (share_take shared at pairs whole.0) (share_drop shared (suc at) pairs whole.0),
  ap (λ (r : List ℕ). remove r at) whole.1 ∙ heads_removed (length shared) pairs at,
)

pub row_taken : (shared row : List ℕ) (pairs : PairList) (n : ℕ) → IsRow shared row pairs → IsRow shared (take n row) (take n pairs)
row_taken shared row pairs zero (inl missing) = inl refl
row_taken shared row pairs (suc n) (inl missing) = inl (ap (take (suc n)) missing)
row_taken shared row pairs n (inr whole) = inr (
  share_take shared n pairs whole.0,
  ap (take n) whole.1 ∙ take-map (λ p. head (drop (length shared) p.0)) n pairs,
)

-- what is beyond a row is beyond its pairs, or there is no row
missing_beyond : (shared row : List ℕ) (pairs : PairList) (at : ℕ) → IsRow shared row pairs → length row ≤ at → at < length pairs → row ≡ []
missing_beyond shared row pairs at (inl missing) beyond within = missing
missing_beyond shared row pairs at (inr whole) beyond within =
    absurd (omega (arith, ap length whole.1, length-map pairs (λ p. head (drop (length shared) p.0))))

pub row_missing : (shared row : List ℕ) (pairs other : PairList) (at : ℕ) → IsRow shared row pairs → length row ≤ at → at < length pairs
    → IsRow shared row other
row_missing shared row pairs other at is beyond within = inl (missing_beyond shared row pairs at is beyond within)
