-- Rows of lows as one row: where its parts stand, and what a change of one block leaves.

use Rattle.std.proofs.Common.{◌≡◌, inl, inr, ℕ, zero, suc, ◌-◌, ◌<◌, ◌≤◌, List, [], ◌∷◌, ◌++◌, length, get_or, take, drop, refl, sym, ap, ◌∙◌, subst, arith, append_assoc}
use Rattle.std.proofs.lemmas.List.{append-nil, take-append-drop, drop_all, length-append, length-drop}
use Rattle.std.proofs.lemmas.Bool.{cases_lt}
use Rattle.std.specs.Prelude.{slice_set}
use Rattle.bw_record.specs.Keys.{is_below}
use Rattle.bw_record.proofs.Order.{Below, UpTo, not_both}
use Rattle.bw_lows.specs.LowHeads.{Bytes, page_of_low, IsGreatestLow, HasNoLow, IsLeastLow, HasNoHigher}
use Rattle.bw_lows.specs.Rows.{Low, nothing, low_at, page_at, AllUpTo, AllAbove, Ascends, IsBoundary}
use Rattle.bw_lows.specs.Flat.{flat, block_at, lows_before, lows_behind, AreFilled, AreBlocks, IsPlace}
use Rattle.bw_lows.proofs.Ascending.{AllBelow, all_back, all_both, ascends_front, ascends_back, before_low, below_through, above_first, greatest_there, least_there, none_there, none_higher}

-- ---- one row

pub at_low : (lows : List Low) (m : ℕ) → m < length lows → lows ≡ take m lows ++ get_or lows m nothing ∷ drop (suc m) lows
at_low [] m h = absurd (omega arith)
at_low (p ∷ ps) zero h = refl
at_low (p ∷ ps) (suc m) h = ap (λ (rest : List Low). p ∷ rest) (at_low ps m (omega arith))

pub take_next : (lows : List Low) (m : ℕ) → m < length lows → take (suc m) lows ≡ take m lows ++ get_or lows m nothing ∷ []
take_next [] m h = absurd (omega arith)
take_next (p ∷ ps) zero h = refl
take_next (p ∷ ps) (suc m) h = ap (λ (rest : List Low). p ∷ rest) (take_next ps m (omega arith))

pub drop_next : (lows : List Low) (m : ℕ) → m < length lows → drop m lows ≡ get_or lows m nothing ∷ drop (suc m) lows
drop_next [] m h = absurd (omega arith)
drop_next (p ∷ ps) zero h = refl
drop_next (p ∷ ps) (suc m) h = drop_next ps m (omega arith)

pub first_of_both : (front back : List Low) → 0 < length front → low_at (front ++ back) 0 ≡ low_at front 0
first_of_both [] back h = absurd (omega arith)
first_of_both (p ∷ ps) back h = refl

-- ---- rows one after the other

pub parted : (blocks : List (List Low)) (i : ℕ) (front back : List Low) → i < length blocks → block_at blocks i ≡ front ++ back
    → flat blocks ≡ (flat (take i blocks) ++ front) ++ (back ++ flat (drop (suc i) blocks))
parted [] i front back h e = absurd (omega arith)
parted (b ∷ bs) zero front back h e = ap (λ (c : List Low). c ++ flat bs) e ∙ append_assoc front back (flat bs)
parted (b ∷ bs) (suc i) front back h e =
    ap (λ (c : List Low). b ++ c) (parted bs i front back (omega arith) e)
    ∙ sym (append_assoc b (flat (take i bs) ++ front) (back ++ flat (drop (suc i) bs)))
    ∙ ap (λ (c : List Low). c ++ (back ++ flat (drop (suc i) bs))) (sym (append_assoc b (flat (take i bs)) front))

pub parted_set : (blocks : List (List Low)) (i : ℕ) (block front back : List Low) → i < length blocks → block ≡ front ++ back
    → flat (slice_set blocks i block) ≡ (flat (take i blocks) ++ front) ++ (back ++ flat (drop (suc i) blocks))
parted_set [] i block front back h e = absurd (omega arith)
parted_set (b ∷ bs) zero block front back h e = ap (λ (c : List Low). c ++ flat bs) e ∙ append_assoc front back (flat bs)
parted_set (b ∷ bs) (suc i) block front back h e =
    ap (λ (c : List Low). b ++ c) (parted_set bs i block front back (omega arith) e)
    ∙ sym (append_assoc b (flat (take i bs) ++ front) (back ++ flat (drop (suc i) bs)))
    ∙ ap (λ (c : List Low). c ++ (back ++ flat (drop (suc i) bs))) (sym (append_assoc b (flat (take i bs)) front))

pub parted_at : (blocks : List (List Low)) (i n : ℕ) → i < length blocks → flat blocks ≡ lows_before blocks i n ++ lows_behind blocks i n
parted_at blocks i n h =
    parted blocks i (take n (block_at blocks i)) (drop n (block_at blocks i)) h (sym (take-append-drop n (block_at blocks i)))

-- around one low
pub parted_low : (blocks : List (List Low)) (i m : ℕ) → i < length blocks → m < length (block_at blocks i)
    → flat blocks ≡ lows_before blocks i m ++ get_or (block_at blocks i) m nothing ∷ lows_behind blocks i (suc m)
parted_low blocks i m h k =
    parted blocks i (take m (block_at blocks i)) (get_or (block_at blocks i) m nothing ∷ drop (suc m) (block_at blocks i)) h (at_low (block_at blocks i) m k)

pub before_next : (blocks : List (List Low)) (i m : ℕ) → m < length (block_at blocks i)
    → lows_before blocks i (suc m) ≡ lows_before blocks i m ++ get_or (block_at blocks i) m nothing ∷ []
before_next blocks i m h =
    ap (λ (rest : List Low). flat (take i blocks) ++ rest) (take_next (block_at blocks i) m h)
    ∙ sym (append_assoc (flat (take i blocks)) (take m (block_at blocks i)) (get_or (block_at blocks i) m nothing ∷ []))

-- a block of lows that ascend
pub block_ascends : (blocks : List (List Low)) (i : ℕ) → Ascends (flat blocks) → Ascends (block_at blocks i)
block_ascends [] i a = tt
block_ascends (b ∷ bs) zero a = ascends_front b (flat bs) a
block_ascends (b ∷ bs) (suc i) a = block_ascends bs i (ascends_back b (flat bs) a)

-- ---- blocks that are not empty

pub filled_at : (blocks : List (List Low)) (i : ℕ) → AreFilled blocks → i < length blocks → 0 < length (block_at blocks i)
filled_at [] i all h = absurd (omega arith)
filled_at (b ∷ bs) zero all h = all.0
filled_at (b ∷ bs) (suc i) all h = filled_at bs i all.1 (omega arith)

drop_block : (blocks : List (List Low)) (i : ℕ) → i < length blocks → flat (drop i blocks) ≡ block_at blocks i ++ flat (drop (suc i) blocks)
drop_block [] i h = absurd (omega arith)
drop_block (b ∷ bs) zero h = refl
drop_block (b ∷ bs) (suc i) h = drop_block bs i (omega arith)

no_block : (blocks : List (List Low)) (i : ℕ) → length blocks ≤ i → flat (drop i blocks) ≡ []
no_block blocks i h = ap (λ (bs : List (List Low)). flat bs) (drop_all i blocks h)

-- the first low from a block on
pub first_from : (blocks : List (List Low)) (i : ℕ) → AreFilled blocks → i < length blocks
    → low_at (flat (drop i blocks)) 0 ≡ low_at (block_at blocks i) 0
first_from blocks i all h =
    ap (λ (lows : List Low). low_at lows 0) (drop_block blocks i h)
    ∙ first_of_both (block_at blocks i) (flat (drop (suc i) blocks)) (filled_at blocks i all h)

-- the first low after a place
pub first_here : (blocks : List (List Low)) (i n : ℕ) → n < length (block_at blocks i) → low_at (lows_behind blocks i n) 0 ≡ low_at (block_at blocks i) n
first_here blocks i n h =
    ap (λ (lows : List Low). low_at (lows ++ flat (drop (suc i) blocks)) 0) (drop_next (block_at blocks i) n h)

pub none_here : (blocks : List (List Low)) (i n : ℕ) → length (block_at blocks i) ≤ n → lows_behind blocks i n ≡ flat (drop (suc i) blocks)
none_here blocks i n h = ap (λ (lows : List Low). lows ++ flat (drop (suc i) blocks)) (drop_all n (block_at blocks i) h)

-- ---- the place that a search finds

module _ (key : Bytes) (blocks : List (List Low)) (a : AreBlocks blocks) (count : ℕ)
    (boundary : IsBoundary (λ i. is_below key (low_at (block_at blocks i) 0)) (length blocks) count) where
  above_from : 0 < length (flat (drop count blocks)) → Below key (low_at (flat (drop count blocks)) 0)
  above_from some = elim (cases_lt count (length blocks)) as (λ _. Below key (low_at (flat (drop count blocks)) 0)) [
    | inl h ↦ ap (λ k. is_below key k) (first_from blocks count a.filled h) ∙ boundary.behind h
    | inr h ↦ absurd (omega (arith, ap length (no_block blocks count h)))
  ]

  behind_none : (bs : List (List Low)) → lows_behind bs 0 0 ≡ flat bs
  behind_none [] = refl
  behind_none (b ∷ bs) = refl

  pub first_place : count ≡ 0 → IsPlace key blocks 0 0
  first_place zero_is =
      let all : AllAbove key (flat blocks) = above_first key (flat blocks) a.ascends
      (subst (λ (n : ℕ). 0 < length (flat (drop n blocks)) → Below key (low_at (flat (drop n blocks)) 0)) zero_is above_from) in
      record {
        block = λ h. h;
        within = omega arith;
        found = λ h. absurd (omega arith);
        none = λ e. all;
        upto = tt;
        above = subst (λ (lows : List Low). AllAbove key lows) (sym (behind_none blocks)) all;
      }

  module _ (i n : ℕ) (next : suc i ≡ count) (there : IsBoundary (λ j. is_below key (low_at (block_at blocks i) j)) (length (block_at blocks i)) n) where
    block : i < length blocks
    block = omega (arith, boundary.within)

    -- its first low is not above the key
    some : n ≡ 0 → ⊥
    some e = not_both (is_below key (low_at (block_at blocks i) 0))
        (ap (λ (j : ℕ). is_below key (low_at (block_at blocks i) j)) (sym e) ∙ there.behind (omega (arith, filled_at blocks i a.filled block)))
        (boundary.before i next)

    upto_before : (m : ℕ) → suc m ≡ n → AllUpTo key (lows_before blocks i n)
    upto_before m e =
        let inside : m < length (block_at blocks i) = omega (arith, there.within) in
        let p : Low = get_or (block_at blocks i) m nothing in
        let u : UpTo p.0 key = there.before m e in
        let under : AllBelow p.0 (lows_before blocks i m) = before_low (lows_before blocks i m) p (lows_behind blocks i (suc m))
        (subst (λ (lows : List Low). Ascends lows) (parted_low blocks i m block inside) a.ascends) in
        subst (λ (k : ℕ). AllUpTo key (lows_before blocks i k)) e
        (subst (λ (lows : List Low). AllUpTo key lows) (sym (before_next blocks i m inside))
        (all_both (λ x. UpTo x.0 key) (lows_before blocks i m) (p ∷ []) (below_through key p.0 (lows_before blocks i m) under u) (u, tt)))

    first_behind : 0 < length (lows_behind blocks i n) → Below key (low_at (lows_behind blocks i n) 0)
    first_behind more = elim (cases_lt n (length (block_at blocks i))) as (λ _. Below key (low_at (lows_behind blocks i n) 0)) [
      | inl h ↦ ap (λ k. is_below key k) (first_here blocks i n h) ∙ there.behind h
      | inr h ↦ let e : lows_behind blocks i n ≡ flat (drop count blocks) = none_here blocks i n h ∙ ap (λ (c : ℕ). flat (drop c blocks)) next in
          ap (λ (lows : List Low). is_below key (low_at lows 0)) e ∙ above_from (subst (λ (lows : List Low). 0 < length lows) e more)
    ]

    pub found_place : IsPlace key blocks i n
    found_place = record {
      block = λ h. block;
      within = there.within;
      found = λ h. block;
      none = λ e. absurd (some e);
      upto = upto_before (n - 1) (omega (arith, some));
      above = above_first key (lows_behind blocks i n)
          (ascends_back (lows_before blocks i n) (lows_behind blocks i n)
          (subst (λ (lows : List Low). Ascends lows) (parted_at blocks i n block) a.ascends)) first_behind;
    }

-- ---- what stands at a place

module _ (key : Bytes) (blocks : List (List Low)) (a : AreBlocks blocks) (i n : ℕ) (place : IsPlace key blocks i n) where
  pub greatest_at : (m : ℕ) → suc m ≡ n → IsGreatestLow (page_of_low (flat blocks)) key (page_at (block_at blocks i) m)
  greatest_at m e =
      let block : i < length blocks = place.found (omega arith) in
      let inside : m < length (block_at blocks i) = omega (arith, place.within) in
      let p : Low = get_or (block_at blocks i) m nothing in
      let whole = parted_low blocks i m block inside in
      let upto : AllUpTo key (lows_before blocks i m ++ p ∷ []) = subst (λ (lows : List Low). AllUpTo key lows) (before_next blocks i m inside)
      (subst (λ (k : ℕ). AllUpTo key (lows_before blocks i k)) (sym e) place.upto) in
      subst (λ (lows : List Low). IsGreatestLow (page_of_low lows) key p.1) (sym whole)
      (greatest_there key (lows_before blocks i m) p (lows_behind blocks i (suc m)) (subst (λ (lows : List Low). Ascends lows) whole a.ascends)
      (all_back (λ x. UpTo x.0 key) (lows_before blocks i m) (p ∷ []) upto).0
      (subst (λ (k : ℕ). AllAbove key (lows_behind blocks i k)) (sym e) place.above))

  pub none_at : n ≡ 0 → HasNoLow (page_of_low (flat blocks)) key
  none_at e = none_there key (flat blocks) (place.none e)

-- the first low after a place
least_of : (key : Bytes) (front back : List Low) → Ascends (front ++ back) → AllUpTo key front → AllAbove key back → 0 < length back
    → IsLeastLow (page_of_low (front ++ back)) key (low_at back 0)
least_of key front [] a upto above some = absurd (omega arith)
least_of key front (p ∷ ps) a upto above some = least_there key front p ps a upto above.0

module _ (key : Bytes) (blocks : List (List Low)) (a : AreBlocks blocks) (i n : ℕ) (place : IsPlace key blocks i n) (block : i < length blocks) where
  least_behind : 0 < length (lows_behind blocks i n) → IsLeastLow (page_of_low (flat blocks)) key (low_at (lows_behind blocks i n) 0)
  least_behind some =
      let whole = parted_at blocks i n block in
      subst (λ (lows : List Low). IsLeastLow (page_of_low lows) key (low_at (lows_behind blocks i n) 0)) (sym whole)
      (least_of key (lows_before blocks i n) (lows_behind blocks i n) (subst (λ (lows : List Low). Ascends lows) whole a.ascends)
      place.upto place.above some)

  pub least_here : n < length (block_at blocks i) → IsLeastLow (page_of_low (flat blocks)) key (low_at (block_at blocks i) n)
  least_here inside =
      subst (λ (low : Bytes). IsLeastLow (page_of_low (flat blocks)) key low) (first_here blocks i n inside)
      (least_behind (omega (arith, length-append (drop n (block_at blocks i)) (flat (drop (suc i) blocks)), length-drop n (block_at blocks i))))

  pub least_next : length (block_at blocks i) ≤ n → suc i < length blocks
      → IsLeastLow (page_of_low (flat blocks)) key (low_at (block_at blocks (suc i)) 0)
  least_next end next =
      let e : lows_behind blocks i n ≡ flat (drop (suc i) blocks) = none_here blocks i n end in
      let some : 0 < length (flat (drop (suc i) blocks)) = omega (
        arith,
        ap length (drop_block blocks (suc i) next),
        length-append (block_at blocks (suc i)) (flat (drop (suc (suc i)) blocks)),
        filled_at blocks (suc i) a.filled next,
      ) in
      subst (λ (low : Bytes). IsLeastLow (page_of_low (flat blocks)) key low)
      (ap (λ (lows : List Low). low_at lows 0) e ∙ first_from blocks (suc i) a.filled next)
      (least_behind (subst (λ (lows : List Low). 0 < length lows) (sym e) some))

  pub none_behind : length (block_at blocks i) ≤ n → length blocks ≤ suc i → HasNoHigher (page_of_low (flat blocks)) key
  none_behind end last =
      let e : lows_behind blocks i n ≡ [] = none_here blocks i n end ∙ no_block blocks (suc i) last in
      let whole : flat blocks ≡ lows_before blocks i n = parted_at blocks i n block ∙ ap (λ (lows : List Low). lows_before blocks i n ++ lows) e
      ∙ append-nil (lows_before blocks i n) in
      subst (λ (lows : List Low). HasNoHigher (page_of_low lows) key) (sym whole) (none_higher key (lows_before blocks i n) place.upto)

-- no blocks at all
pub none_of_none : (key : Bytes) (blocks : List (List Low)) (i n : ℕ) → IsPlace key blocks i n → length blocks ≤ i
    → HasNoHigher (page_of_low (flat blocks)) key
none_of_none key [] i n place beyond = λ q b. refl
none_of_none key (c ∷ cs) i n place beyond = absurd (omega (arith, place.block (omega arith)))
