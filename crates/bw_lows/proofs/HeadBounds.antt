-- A row of heads goes along with its lows, and says where a key parts them.

use Rattle.std.proofs.Common.{◌≡◌, ◌≢◌, ℕ, zero, suc, ◌+◌, Option, Some, None, IsSome, ◌<◌, ◌≤◌, inl, inr, List, [], ◌∷◌, ◌++◌, length, get_or, take, drop, map, insert, remove}
use Rattle.std.proofs.Common.{refl, sym, ap, ◌∙◌, subst, arith}
use Rattle.std.proofs.lemmas.List.{length-map, map-append, take-map, drop-map, map-set, take-append-drop}
use Rattle.std.proofs.lemmas.Bool.{cases_lt}
use Rattle.std.specs.Prelude.{slice_set, IfSome}
use Rattle.std.specs.List.{AllByRecursion}
use Rattle.bw_record.specs.Keys.{is_below, IsBytes}
use Rattle.bw_record.specs.Heads.{head}
use Rattle.bw_record.proofs.Order.{below_beginning, below_by_head, below_behind, above_beginning, Below, UpTo, below_upto, not_both}
use Rattle.bw_lows.specs.LowHeads.{Bytes}
use Rattle.bw_lows.specs.Rows.{Low, nothing, keys, low_at, Ascends, IsBetween}
use Rattle.bw_lows.specs.LowRow.{Begins, head_behind, IsHeadBehind, IsWholeRow, IsRow, DoAscend, IsHeadRun}
use Rattle.bw_lows.proofs.Ascending.{all_front, all_back, all_both}
use Rattle.bw_lows.proofs.Flattened.{take_next}

-- ---- parts of a row

module _ (P : Low → Type 0) (lows : List Low) (n : ℕ) (all : AllByRecursion P lows) where
  parted : AllByRecursion P (take n lows ++ drop n lows)
  parted = subst (λ (ls : List Low). AllByRecursion P ls) (sym (take-append-drop n lows)) all

  all_taken : AllByRecursion P (take n lows)
  all_taken = all_front P (take n lows) (drop n lows) parted

  all_dropped : AllByRecursion P (drop n lows)
  all_dropped = all_back P (take n lows) (drop n lows) parted

all_at : (P : Low → Type 0) (lows : List Low) (i : ℕ) → i < length lows → AllByRecursion P lows → P (get_or lows i nothing)
all_at P [] i h all = absurd (omega arith)
all_at P (p ∷ ps) zero h all = all.0
all_at P (p ∷ ps) (suc i) h all = all_at P ps i (omega arith) all.1

ascends_at : (lows : List Low) (i j : ℕ) → Ascends lows → i < j → j < length lows → Below (low_at lows i) (low_at lows j)
ascends_at [] i j a less inside = absurd (omega arith)
ascends_at (p ∷ ps) i zero a less inside = absurd (omega arith)
ascends_at (p ∷ ps) zero (suc j) a less inside = all_at (λ x. Below p.0 x.0) ps j (omega arith) a.0
ascends_at (p ∷ ps) (suc i) (suc j) a less inside = ascends_at ps i j a.1 (omega arith) (omega arith)

map_at : (f : Low → ℕ) (lows : List Low) (i : ℕ) → i < length lows → get_or (map f lows) i 0 ≡ f (get_or lows i nothing)
map_at f [] i h = absurd (omega arith)
map_at f (p ∷ ps) zero h = refl
map_at f (p ∷ ps) (suc i) h = map_at f ps i (omega arith)

its_key : (lows : List Low) (i : ℕ) → get_or (keys lows) i [] ≡ low_at lows i
its_key [] i = refl
its_key (p ∷ ps) zero = refl
its_key (p ∷ ps) (suc i) = its_key ps i

-- what stands beside lows
pub key_at : (lows : List Low) (ks : List Bytes) (i : ℕ) → keys lows ≡ ks → get_or ks i [] ≡ low_at lows i
key_at lows ks i e = ap (λ (bs : List Bytes). get_or bs i []) (sym e) ∙ its_key lows i

module _ {X Y : Type 0} (f : X → Y) (xs : List X) (at : ℕ) where
  pub map_inserted : (x : X) → insert (map f xs) at (f x) ≡ map f (insert xs at x)
  map_inserted x =
      ap (λ (r : List Y). r ++ f x ∷ drop at (map f xs)) (take-map f at xs)
      ∙ ap (λ (r : List Y). map f (take at xs) ++ f x ∷ r) (drop-map f at xs)
      ∙ sym (map-append f (take at xs) (x ∷ drop at xs))

  pub map_removed : remove (map f xs) at ≡ map f (remove xs at)
  map_removed =
      ap (λ (r : List Y). r ++ drop (suc at) (map f xs)) (take-map f at xs)
      ∙ ap (λ (r : List Y). map f (take at xs) ++ r) (drop-map f (suc at) xs)
      ∙ sym (map-append f (take at xs) (drop (suc at) xs))

-- ---- a row after a change

module _ (shared : Bytes) where
  abbrev Shares : Low → Type 0
  Shares p = Begins shared p.0

  abbrev its_head : Low → ℕ
  its_head p = head_behind shared p.0

  -- a row as long as its lows is whole
  pub whole_row : (row : List ℕ) (lows : List Low) → IsRow shared row lows → length row ≡ length lows → IsWholeRow shared row lows
  whole_row row [] (inl missing) long = (tt, missing)
  whole_row row (p ∷ ps) (inl missing) long = absurd (omega (arith, ap length missing))
  whole_row row lows (inr whole) long = whole

  pub row_inserted : (row : List ℕ) (lows : List Low) (at : ℕ) (low : Low) (h : ℕ) → IsRow shared row lows → length row ≡ length lows
      → IsHeadBehind shared low.0 h → IsRow shared (insert row at h) (insert lows at low)
  row_inserted row lows at low h is long its =
      let whole : IsWholeRow shared row lows = whole_row row lows is long in
      inr (
        all_both Shares (take at lows) (low ∷ drop at lows) (all_taken Shares lows at whole.0) (its.0, all_dropped Shares lows at whole.0),
        ap (λ (r : List ℕ). insert r at h) whole.1 ∙ ap (λ (x : ℕ). insert (map its_head lows) at x) its.1 ∙ map_inserted its_head lows at low,
      )

  -- one low more after those so far
  pub row_next : (row next : List ℕ) (lows : List Low) (i : ℕ) (h : Option ℕ) → i < length lows → IsWholeRow shared row (take i lows)
      → IsSome h → IfSome h (λ x. IsHeadBehind shared (low_at lows i) x) → IfSome h (λ x. next ≡ row ++ x ∷ [])
      → IsWholeRow shared next (take (i + 1) lows)
  row_next row next lows i None inside whole some its pushed = absurd (cc)
  row_next row next lows i (Some x) inside whole some its pushed =
      let p : Low = get_or lows i nothing in
      let one : take (i + 1) lows ≡ take i lows ++ p ∷ [] = subst (λ (n : ℕ). take n lows ≡ take i lows ++ p ∷ []) {x = suc i} (omega arith) (take_next lows i inside) in
      subst (λ (ls : List Low). IsWholeRow shared next ls) (sym one) (
        all_both Shares (take i lows) (p ∷ []) whole.0 (its.0, tt),
        pushed ∙ ap (λ (r : List ℕ). r ++ x ∷ []) whole.1 ∙ ap (λ (y : ℕ). map its_head (take i lows) ++ y ∷ []) its.1
            ∙ sym (map-append its_head (take i lows) (p ∷ [])),
      )

  pub row_removed : (row : List ℕ) (lows : List Low) (at : ℕ) → IsRow shared row lows → at < length row → IsRow shared (remove row at) (remove lows at)
  row_removed row lows at (inl missing) within = absurd (omega (arith, ap length missing))
  row_removed row lows at (inr whole) within = inr (
    all_both Shares (take at lows) (drop (suc at) lows) (all_taken Shares lows at whole.0) (all_dropped Shares lows (suc at) whole.0),
    ap (λ (r : List ℕ). remove r at) whole.1 ∙ map_removed its_head lows at,
  )

  -- what is beyond a row is beyond its lows, or there is no row
  pub row_beyond : (row : List ℕ) (lows other : List Low) (at : ℕ) → IsRow shared row lows → length row ≤ at → at < length lows → IsRow shared row other
  row_beyond row lows other at (inl missing) beyond within = inl missing
  row_beyond row lows other at (inr whole) beyond within = absurd (omega (arith, ap length whole.1, length-map lows its_head))

  shares_set : (lows : List Low) (at : ℕ) (low : Low) → Shares low → AllByRecursion Shares lows → AllByRecursion Shares (slice_set lows at low)
  shares_set [] at low one all = tt
  shares_set (p ∷ ps) zero low one all = (one, all.1)
  shares_set (p ∷ ps) (suc at) low one all = (all.0, shares_set ps at low one all.1)

  pub row_set : (row : List ℕ) (lows : List Low) (at : ℕ) (low : Low) (h : ℕ) → IsRow shared row lows → IsHeadBehind shared low.0 h
      → IsRow shared (slice_set row at h) (slice_set lows at low)
  row_set row lows at low h (inl missing) its = inl (ap (λ (r : List ℕ). slice_set r at h) missing)
  row_set row lows at low h (inr whole) its = inr (
    shares_set lows at low its.0 whole.0,
    ap (λ (r : List ℕ). slice_set r at h) whole.1 ∙ ap (λ (x : ℕ). slice_set (map its_head lows) at x) its.1
        ∙ sym (map-set its_head lows at low),
  )

  heads_kept : (lows : List Low) (at page : ℕ) → map its_head lows ≡ map its_head (slice_set lows at (low_at lows at, page))
  heads_kept [] at page = refl
  heads_kept (p ∷ ps) zero page = refl
  heads_kept (p ∷ ps) (suc at) page = ap (λ (r : List ℕ). its_head p ∷ r) (heads_kept ps at page)

  shares_kept : (lows : List Low) (at page : ℕ) → AllByRecursion Shares lows → AllByRecursion Shares (slice_set lows at (low_at lows at, page))
  shares_kept [] at page all = tt
  shares_kept (p ∷ ps) zero page all = all
  shares_kept (p ∷ ps) (suc at) page all = (all.0, shares_kept ps at page all.1)

  -- a low got another page
  pub row_kept : (row : List ℕ) (lows : List Low) (at page : ℕ) → IsRow shared row lows → IsRow shared row (slice_set lows at (low_at lows at, page))
  row_kept row lows at page (inl missing) = inl missing
  row_kept row lows at page (inr whole) = inr (shares_kept lows at page whole.0, whole.1 ∙ heads_kept lows at page)

pub first_kept : (lows : List Low) (at page : ℕ) → low_at (slice_set lows at (low_at lows at, page)) 0 ≡ low_at lows 0
first_kept [] at page = refl
first_kept (p ∷ ps) zero page = refl
first_kept (p ∷ ps) (suc at) page = refl

-- ---- where a key parts lows that begin with the same bytes

module _ (shared row : List ℕ) (lows : List Low) (count : ℕ) (long : length row ≡ count) (lows_long : length lows ≡ count) (is : IsRow shared row lows) where
  whole : IsWholeRow shared row lows
  whole = whole_row shared row lows is (long ∙ sym lows_long)

  begins : (i : ℕ) → i < count → Begins shared (low_at lows i)
  begins i h = all_at (λ p. Begins shared p.0) lows i (omega (arith, lows_long)) whole.0

  head_is : (i : ℕ) → i < count → get_or row i 0 ≡ head_behind shared (low_at lows i)
  head_is i h = ap (λ (r : List ℕ). get_or r i 0) whole.1 ∙ map_at (λ p. head_behind shared p.0) lows i (omega (arith, lows_long))

  -- what stands behind the bytes ascends as the lows do, and so do its heads
  pub heads_ascend : Ascends lows → DoAscend row
  heads_ascend a i j less inside =
      let there : j < count = omega (arith, long) in
      let here : i < count = omega arith in
      let below : Below (low_at lows i) (low_at lows j) = ascends_at lows i j a less (omega (arith, lows_long)) in
      elim (cases_lt (get_or row j 0) (get_or row i 0)) as (λ _. get_or row i 0 ≤ get_or row j 0) [
        | inl k ↦
            let rest : Below (drop (length shared) (low_at lows j)) (drop (length shared) (low_at lows i)) =
            below_by_head 8 (drop (length shared) (low_at lows j)) (drop (length shared) (low_at lows i)) (begins i here).1
            (omega (arith, k, head_is i here, head_is j there)) in
            let whole_too : Below (low_at lows j) (low_at lows i) =
            subst (λ (x : Bytes). Below x (low_at lows i)) (sym (begins j there).0)
            (subst (λ (x : Bytes). Below (shared ++ drop (length shared) (low_at lows j)) x) (sym (begins i here).0)
            (below_behind shared (drop (length shared) (low_at lows j)) (drop (length shared) (low_at lows i)) rest)) in
            not_both (is_below (low_at lows j) (low_at lows i)) whole_too (below_upto (low_at lows i) (low_at lows j) below)
        | inr k ↦ k
      ]

  module _ (key : Bytes) where
    -- the key begins with the bytes too
    pub bounds_by_heads : (rest : Bytes) (from to : ℕ) → IsBytes rest → key ≡ shared ++ rest → IsHeadRun row (head rest) from to
        → IsBetween (λ i. is_below key (low_at lows i)) count from to
    bounds_by_heads rest from to fits e run = record {
      order = run.order;
      within = omega (arith, run.within);
      before = λ i next.
          let inside : i < count = omega (arith, run.order, run.within) in
          below_upto (low_at lows i) key
          (subst (λ (k : Bytes). Below (low_at lows i) k) (sym e)
          (subst (λ (k : Bytes). Below k (shared ++ rest)) (sym (begins i inside).0)
          (below_behind shared (drop (length shared) (low_at lows i)) rest
          (below_by_head 8 (drop (length shared) (low_at lows i)) rest fits (omega (arith, run.before i next, head_is i inside))))));
      behind = λ h.
          subst (λ (k : Bytes). Below k (low_at lows to)) (sym e)
          (subst (λ (k : Bytes). Below (shared ++ rest) k) (sym (begins to h).0)
          (below_behind shared rest (drop (length shared) (low_at lows to))
          (below_by_head 8 rest (drop (length shared) (low_at lows to)) (begins to h).1
          (omega (arith, run.behind (omega arith), head_is to h)))));
    }

    -- the key does not begin with them, and is above them
    pub bounds_above : Below shared key → ((rest : Bytes) → key ≢ shared ++ rest) → IsBetween (λ i. is_below key (low_at lows i)) count count count
    bounds_above below other = record {
      order = omega arith;
      within = omega arith;
      before = λ i next.
          let inside : i < count = omega arith in
          below_upto (low_at lows i) key
          (subst (λ (k : Bytes). Below k key) (sym (begins i inside).0)
          (above_beginning shared (drop (length shared) (low_at lows i)) key below other));
      behind = λ h. absurd (omega arith);
    }

    -- or is below them
    pub bounds_below : UpTo key shared → ((rest : Bytes) → key ≢ shared ++ rest) → IsBetween (λ i. is_below key (low_at lows i)) count 0 0
    bounds_below upto other = record {
      order = omega arith;
      within = omega arith;
      before = λ i next. absurd (omega arith);
      behind = λ h.
          subst (λ (k : Bytes). Below key k) (sym (begins 0 h).0)
          (below_beginning shared (drop (length shared) (low_at lows 0)) key upto other);
    }

-- nothing is known yet
pub unbound : (key : Bytes) (lows : List Low) (count : ℕ) → IsBetween (λ i. is_below key (low_at lows i)) count 0 count
unbound key lows count = record {
  order = omega arith;
  within = omega arith;
  before = λ i next. absurd (omega arith);
  behind = λ h. absurd (omega arith);
}
