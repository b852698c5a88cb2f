-- What a change at a place leaves.

use Rattle.std.proofs.Common.{◌≡◌, ℕ, zero, suc, ◌+◌, ◌<◌, Bool, true, false, cond, Some, None, List, [], ◌∷◌, ◌++◌, length, get_or, take, drop, refl, sym, ap, ◌∙◌, subst, arith, append_assoc}
use Rattle.std.proofs.lemmas.List.{set_split, length-set, length-append}
use Rattle.std.specs.Prelude.{slice_set, insert, remove}
use Rattle.std.specs.Ordering.{is_eq}
use Rattle.bw_record.proofs.Order.{UpTo, upto_apart_below, tied}
use Rattle.bw_lows.specs.LowHeads.{Bytes, order, page_of_low}
use Rattle.bw_lows.specs.Rows.{Low, nothing, low_at, AllUpTo, AllAbove, Ascends}
use Rattle.bw_lows.specs.Flat.{flat, block_at, lows_before, lows_behind, AreFilled, AreBlocks, IsPlace}
use Rattle.bw_lows.proofs.Ascending.{AllBelow, all_back, ascends_back, before_low, ascends_with, ascends_without, no_low, no_low_above, page_with, page_set, page_without, below_last}
use Rattle.bw_lows.proofs.Flattened.{parted_set, parted_at, parted_low, before_next}

-- ---- blocks

pub filled_set : (blocks : List (List Low)) (i : ℕ) (block : List Low) → AreFilled blocks → 0 < length block → AreFilled (slice_set blocks i block)
filled_set [] i block all some = tt
filled_set (b ∷ bs) zero block all some = (some, all.1)
filled_set (b ∷ bs) (suc i) block all some = (all.0, filled_set bs i block all.1 some)

pub filled_without : (blocks : List (List Low)) (i : ℕ) (block : List Low) → AreFilled blocks → AreFilled (remove (slice_set blocks i block) i)
filled_without [] zero block all = tt
filled_without [] (suc i) block all = tt
filled_without (b ∷ bs) zero block all = all.1
filled_without (b ∷ bs) (suc i) block all = (all.0, filled_without bs i block all.1)

-- an empty block is none
pub flat_without : (blocks : List (List Low)) (i : ℕ) (block : List Low) → block ≡ []
    → flat (remove (slice_set blocks i block) i) ≡ flat (slice_set blocks i block)
flat_without [] zero block e = refl
flat_without [] (suc i) block e = refl
flat_without (b ∷ bs) zero block e = ap (λ (c : List Low). c ++ flat bs) (sym e)
flat_without (b ∷ bs) (suc i) block e = ap (λ (c : List Low). b ++ c) (flat_without bs i block e)

halved_there : (blocks : List (List Low)) (i : ℕ) (lower upper : List Low) → i < length blocks → lower ++ upper ≡ block_at blocks i
    → flat (insert (slice_set blocks i lower) (suc i) upper) ≡ flat blocks
halved_there [] i lower upper h e = absurd (omega arith)
halved_there (b ∷ bs) zero lower upper h e = sym (append_assoc lower upper (flat bs)) ∙ ap (λ (c : List Low). c ++ flat bs) e
halved_there (b ∷ bs) (suc i) lower upper h e = ap (λ (c : List Low). b ++ c) (halved_there bs i lower upper (omega arith) e)

-- a block was halved
pub flat_halved : (blocks : List (List Low)) (i : ℕ) (lower upper : List Low) → i < length blocks → lower ++ upper ≡ block_at blocks i
    → flat (insert (slice_set blocks i lower) (i + 1) upper) ≡ flat blocks
flat_halved blocks i lower upper h e =
    let one : i + 1 ≡ suc i = omega arith in
    ap (λ (k : ℕ). flat (insert (slice_set blocks i lower) k upper)) one ∙ halved_there blocks i lower upper h e

-- a low was taken out of a block
pub flat_out : (blocks : List (List Low)) (i m : ℕ) → i < length blocks
    → flat (slice_set blocks i (remove (block_at blocks i) m)) ≡ lows_before blocks i m ++ lows_behind blocks i (m + 1)
flat_out blocks i m h =
    let one : suc m ≡ m + 1 = omega arith in
    parted_set blocks i (remove (block_at blocks i) m) (take m (block_at blocks i)) (drop (suc m) (block_at blocks i)) h refl
    ∙ ap (λ (k : ℕ). lows_before blocks i m ++ lows_behind blocks i k) one

-- ---- the pages after a change

-- lows up to a key, none of which is the key
below_absent : (key : Bytes) (front back : List Low) → AllUpTo key front → page_of_low (front ++ back) key ≡ None → AllBelow key front
below_absent key [] back upto none = tt
below_absent key (p ∷ ps) back upto none =
    elim (is_eq (order key p.0)) as (λ b. is_eq (order key p.0) ≡ b → cond b (Some p.1) (page_of_low (ps ++ back) key) ≡ None → AllBelow key (p ∷ ps)) [
      | true ↦ λ e some. absurd (cc)
      | false ↦ λ e rest. (upto_apart_below key p.0 upto.0 e, below_absent key ps back upto.1 rest)
    ] refl none

module _ (key : Bytes) (blocks : List (List Low)) (a : AreBlocks blocks) (i n : ℕ) (place : IsPlace key blocks i n) where
  pub absent_first : n ≡ 0 → page_of_low (flat blocks) key ≡ None
  absent_first e = no_low_above key (flat blocks) (place.none e)

  module _ (page : ℕ) (block : i < length blocks) (none : page_of_low (flat blocks) key ≡ None) where
    under_new : AllBelow key (lows_before blocks i n)
    under_new = below_absent key (lows_before blocks i n) (lows_behind blocks i n) place.upto
        (ap (λ (lows : List Low). page_of_low lows key) (sym (parted_at blocks i n block)) ∙ none)

    with_new : flat (slice_set blocks i (insert (block_at blocks i) n (key, page))) ≡ lows_before blocks i n ++ (key, page) ∷ lows_behind blocks i n
    with_new = parted_set blocks i (insert (block_at blocks i) n (key, page)) (take n (block_at blocks i)) ((key, page) ∷ drop n (block_at blocks i)) block refl

    pub added_blocks : AreBlocks (slice_set blocks i (insert (block_at blocks i) n (key, page)))
    added_blocks = record {
      filled = filled_set blocks i (insert (block_at blocks i) n (key, page)) a.filled
          (omega (arith, length-append (take n (block_at blocks i)) ((key, page) ∷ drop n (block_at blocks i))));
      ascends = subst (λ (lows : List Low). Ascends lows) (sym with_new)
          (ascends_with (lows_before blocks i n) (key, page) (lows_behind blocks i n)
          (subst (λ (lows : List Low). Ascends lows) (parted_at blocks i n block) a.ascends) under_new place.above);
    }

    pub added_page : (q : Bytes) → page_of_low (flat (slice_set blocks i (insert (block_at blocks i) n (key, page)))) q
        ≡ cond (is_eq (order q key)) (Some page) (page_of_low (flat blocks) q)
    added_page q =
        ap (λ (lows : List Low). page_of_low lows q) with_new
        ∙ page_with q key page (lows_before blocks i n) (lows_behind blocks i n) under_new
        ∙ ap (λ (lows : List Low). cond (is_eq (order q key)) (Some page) (page_of_low lows q)) (sym (parted_at blocks i n block))

  module _ (m : ℕ) (last : suc m ≡ n) where
    block : i < length blocks
    block = place.found (omega arith)

    inside : m < length (block_at blocks i)
    inside = omega (arith, place.within)

    whole : flat blocks ≡ lows_before blocks i m ++ get_or (block_at blocks i) m nothing ∷ lows_behind blocks i (suc m)
    whole = parted_low blocks i m block inside

    ascending : Ascends (lows_before blocks i m ++ get_or (block_at blocks i) m nothing ∷ lows_behind blocks i (suc m))
    ascending = subst (λ (lows : List Low). Ascends lows) whole a.ascends

    under : AllBelow (low_at (block_at blocks i) m) (lows_before blocks i m)
    under = before_low (lows_before blocks i m) (get_or (block_at blocks i) m nothing) (lows_behind blocks i (suc m)) ascending

    over : AllAbove (low_at (block_at blocks i) m) (lows_behind blocks i (suc m))
    over = (ascends_back (lows_before blocks i m) (get_or (block_at blocks i) m nothing ∷ lows_behind blocks i (suc m)) ascending).0

    upto_last : UpTo (low_at (block_at blocks i) m) key
    upto_last = (all_back (λ x. UpTo x.0 key) (lows_before blocks i m) (get_or (block_at blocks i) m nothing ∷ [])
        (subst (λ (lows : List Low). AllUpTo key lows) (before_next blocks i m inside)
        (subst (λ (k : ℕ). AllUpTo key (lows_before blocks i k)) (sym last) place.upto))).0

    -- the last low up to a key is not the key
    pub absent_last : is_eq (order key (low_at (block_at blocks i) m)) ≡ false → page_of_low (flat blocks) key ≡ None
    absent_last apart =
        ap (λ (lows : List Low). page_of_low lows key) (parted_at blocks i n block)
        ∙ no_low key (lows_before blocks i n) (lows_behind blocks i n)
        (subst (λ (k : ℕ). AllBelow key (lows_before blocks i k)) last
        (subst (λ (lows : List Low). AllBelow key lows) (sym (before_next blocks i m inside))
        (below_last key (lows_before blocks i m) (get_or (block_at blocks i) m nothing) under upto_last apart))) place.above

    with_set : (page : ℕ) → flat (slice_set blocks i (slice_set (block_at blocks i) m (low_at (block_at blocks i) m, page)))
        ≡ lows_before blocks i m ++ (low_at (block_at blocks i) m, page) ∷ lows_behind blocks i (suc m)
    with_set page = parted_set blocks i (slice_set (block_at blocks i) m (low_at (block_at blocks i) m, page)) (take m (block_at blocks i))
        ((low_at (block_at blocks i) m, page) ∷ drop (suc m) (block_at blocks i)) block
        (set_split (block_at blocks i) m (low_at (block_at blocks i) m, page) inside)

    pub set_blocks : (page : ℕ) → AreBlocks (slice_set blocks i (slice_set (block_at blocks i) m (low_at (block_at blocks i) m, page)))
    set_blocks page = record {
      filled = filled_set blocks i (slice_set (block_at blocks i) m (low_at (block_at blocks i) m, page)) a.filled
          (omega (arith, length-set (block_at blocks i) m (low_at (block_at blocks i) m, page), inside));
      ascends = subst (λ (lows : List Low). Ascends lows) (sym (with_set page))
          (ascends_with (lows_before blocks i m) (low_at (block_at blocks i) m, page) (lows_behind blocks i (suc m))
          (ascends_without (lows_before blocks i m) (get_or (block_at blocks i) m nothing) (lows_behind blocks i (suc m)) ascending) under over);
    }

    module _ (tie : is_eq (order key (low_at (block_at blocks i) m)) ≡ true) where
      same : low_at (block_at blocks i) m ≡ key
      same = sym (tied key (low_at (block_at blocks i) m) tie)

      pub set_page : (page : ℕ) (q : Bytes) → page_of_low (flat (slice_set blocks i (slice_set (block_at blocks i) m (low_at (block_at blocks i) m, page)))) q
          ≡ cond (is_eq (order q key)) (Some page) (page_of_low (flat blocks) q)
      set_page page q =
          ap (λ (lows : List Low). page_of_low lows q) (with_set page)
          ∙ page_set q (low_at (block_at blocks i) m) (get_or (block_at blocks i) m nothing).1 page (lows_before blocks i m) (lows_behind blocks i (suc m)) under
          ∙ ap (λ (k : Bytes). cond (is_eq (order q k)) (Some page) (page_of_low (lows_before blocks i m ++ get_or (block_at blocks i) m nothing ∷ lows_behind blocks i (suc m)) q)) same
          ∙ ap (λ (lows : List Low). cond (is_eq (order q key)) (Some page) (page_of_low lows q)) (sym whole)

      pub out_page : (next : List (List Low)) → flat next ≡ lows_before blocks i m ++ lows_behind blocks i (m + 1)
          → (q : Bytes) → page_of_low (flat next) q ≡ cond (is_eq (order q key)) None (page_of_low (flat blocks) q)
      out_page next e q =
          let one : m + 1 ≡ suc m = omega arith in
          ap (λ (lows : List Low). page_of_low lows q) (e ∙ ap (λ (k : ℕ). lows_before blocks i m ++ lows_behind blocks i k) one)
          ∙ page_without q (low_at (block_at blocks i) m) (get_or (block_at blocks i) m nothing).1 (lows_before blocks i m) (lows_behind blocks i (suc m)) under over
          ∙ ap (λ (k : Bytes). cond (is_eq (order q k)) None (page_of_low (lows_before blocks i m ++ get_or (block_at blocks i) m nothing ∷ lows_behind blocks i (suc m)) q)) same
          ∙ ap (λ (lows : List Low). cond (is_eq (order q key)) None (page_of_low lows q)) (sym whole)

    pub out_blocks : (next : List (List Low)) → flat next ≡ lows_before blocks i m ++ lows_behind blocks i (m + 1) → AreFilled next → AreBlocks next
    out_blocks next e filled =
        let one : m + 1 ≡ suc m = omega arith in
        record {
          filled = filled;
          ascends = subst (λ (lows : List Low). Ascends lows) (sym (e ∙ ap (λ (k : ℕ). lows_before blocks i m ++ lows_behind blocks i k) one))
              (ascends_without (lows_before blocks i m) (get_or (block_at blocks i) m nothing) (lows_behind blocks i (suc m)) ascending);
        }

-- ---- what code reads of a block

-- whether the last low up to a key is the key, as a block that was read says it
pub tie_read : (key : Bytes) (blocks : List (List Low)) (i m : ℕ) (read : List Low) (b answer : Bool) → read ≡ block_at blocks i
    → b ≡ is_eq (order key (low_at read m)) → b ≡ answer → is_eq (order key (low_at (block_at blocks i) m)) ≡ answer
tie_read key blocks i m read b answer is e a = ap (λ (r : List Low). is_eq (order key (low_at r m))) (sym is) ∙ sym e ∙ a
