-- The row of the first lows of blocks: where it parts them, and what a change of one block leaves.

use Rattle.std.proofs.Common.{◌≡◌, ℕ, zero, suc, ◌<◌, List, [], ◌∷◌, ◌++◌, length, get_or, insert, remove}
use Rattle.std.proofs.Common.{refl, sym, ap, ◌∙◌, subst, arith}
use Rattle.std.proofs.lemmas.List.{map-set, length-map, length-set, get_or_read, get_or-set_same}
use Rattle.std.specs.Prelude.{slice_set}
use Rattle.std.specs.List.{AllByRecursion}
use Rattle.bw_record.specs.Keys.{is_below}
use Rattle.bw_lows.specs.LowHeads.{Bytes}
use Rattle.bw_lows.specs.Rows.{Low, nothing, low_at, Ascends, IsBetween}
use Rattle.bw_lows.specs.LowRow.{IsRow}
use Rattle.bw_lows.specs.Flat.{flat, firsts, block_at, AreFilled}
use Rattle.bw_record.proofs.Order.{Below}
use Rattle.bw_lows.proofs.Ascending.{all_back, ascends_back}
use Rattle.bw_lows.proofs.HeadBounds.{map_inserted, map_removed, row_kept}
use Rattle.bw_lows.proofs.Flattened.{first_of_both}

-- ---- the first lows

abbrev first : List Low → Low
first block = get_or block 0 nothing

pub first_at : (blocks : List (List Low)) (i : ℕ) → get_or (firsts blocks) i nothing ≡ first (block_at blocks i)
first_at [] i = refl
first_at (b ∷ bs) zero = refl
first_at (b ∷ bs) (suc i) = first_at bs i

module _ (P : Low → Type 0) where
  all_firsts : (blocks : List (List Low)) → AreFilled blocks → AllByRecursion P (flat blocks) → AllByRecursion P (firsts blocks)
  all_firsts [] filled all = tt
  all_firsts ([] ∷ bs) filled all = absurd (omega (arith, filled.0))
  all_firsts ((p ∷ ps) ∷ bs) filled all = (all.0, all_firsts bs filled.1 (all_back P ps (flat bs) all.1))

-- the first lows of blocks ascend as all lows do
pub firsts_ascend : (blocks : List (List Low)) → AreFilled blocks → Ascends (flat blocks) → Ascends (firsts blocks)
firsts_ascend [] filled a = tt
firsts_ascend ([] ∷ bs) filled a = absurd (omega (arith, filled.0))
firsts_ascend ((p ∷ ps) ∷ bs) filled a = (
  all_firsts (λ q. Below p.0 q.0) bs filled.1 (all_back (λ q. Below p.0 q.0) ps (flat bs) a.0),
  firsts_ascend bs filled.1 (ascends_back (p ∷ ps) (flat bs) a),
)

-- a search among the first lows is one among blocks
pub between_firsts : (key : Bytes) (blocks : List (List Low)) (count from to : ℕ)
    → IsBetween (λ i. is_below key (low_at (firsts blocks) i)) count from to
    → IsBetween (λ i. is_below key (low_at (block_at blocks i) 0)) count from to
between_firsts key blocks count from to between = record {
  order = between.order;
  within = between.within;
  before = λ i next. sym (ap (λ (p : Low). is_below key p.0) (first_at blocks i)) ∙ between.before i next;
  behind = λ h. sym (ap (λ (p : Low). is_below key p.0) (first_at blocks to)) ∙ between.behind h;
}

removed_set : (blocks : List (List Low)) (at : ℕ) (block : List Low) → remove (slice_set blocks at block) at ≡ remove blocks at
removed_set [] zero block = refl
removed_set [] (suc at) block = refl
removed_set (b ∷ bs) zero block = refl
removed_set (b ∷ bs) (suc at) block = ap (λ (r : List (List Low)). b ∷ r) (removed_set bs at block)

pub length-firsts : (blocks : List (List Low)) → length (firsts blocks) ≡ length blocks
length-firsts blocks = length-map blocks first

firsts_set : (blocks : List (List Low)) (at : ℕ) (block : List Low) → firsts (slice_set blocks at block) ≡ slice_set (firsts blocks) at (first block)
firsts_set blocks at block = map-set first blocks at block

module _ (shared row : List ℕ) (blocks : List (List Low)) (at : ℕ) (is : IsRow shared row (firsts blocks)) where
  -- a block was changed, but its first low was not
  pub firsts_kept : (block : List Low) → low_at block 0 ≡ low_at (block_at blocks at) 0 → IsRow shared row (firsts (slice_set blocks at block))
  firsts_kept block e =
      let low : low_at block 0 ≡ low_at (firsts blocks) at = e ∙ sym (ap (λ (p : Low). p.0) (first_at blocks at)) in
      subst (λ (lows : List Low). IsRow shared row lows) (sym (firsts_set blocks at block))
      (subst (λ (k : Bytes). IsRow shared row (slice_set (firsts blocks) at (k, (first block).1))) (sym low)
      (row_kept shared row (firsts blocks) at (first block).1 is))

  -- a block was halved
  pub firsts_halved : (lower upper : List Low) → lower ++ upper ≡ block_at blocks at → 0 < length lower
      → IsRow shared row (firsts (slice_set blocks at lower))
  firsts_halved lower upper e some =
      firsts_kept lower (sym (first_of_both lower upper some) ∙ ap (λ (b : List Low). low_at b 0) e)

-- a block was put after the one at an index
pub firsts_inserted : (shared row : List ℕ) (blocks next : List (List Low)) (at : ℕ) (upper : List Low) → next ≡ insert blocks at upper
    → IsRow shared row (insert (firsts blocks) at (first upper)) → IsRow shared row (firsts next)
firsts_inserted shared row blocks next at upper e is =
    subst (λ (lows : List Low). IsRow shared row lows) (map_inserted first blocks at upper ∙ ap (λ (bs : List (List Low)). firsts bs) (sym e)) is

-- a block is gone
pub firsts_removed : (shared row : List ℕ) (blocks next : List (List Low)) (at : ℕ) (block : List Low) → next ≡ remove (slice_set blocks at block) at
    → IsRow shared row (remove (firsts blocks) at) → IsRow shared row (firsts next)
firsts_removed shared row blocks next at block e is =
    subst (λ (lows : List Low). IsRow shared row lows)
    (map_removed first blocks at ∙ ap (λ (bs : List (List Low)). firsts bs) (sym (removed_set blocks at block) ∙ sym e)) is

-- a block is another one
pub firsts_noted : (shared row : List ℕ) (was blocks : List (List Low)) (at : ℕ) (block : List Low) → blocks ≡ slice_set was at block
    → IsRow shared row (slice_set (firsts was) at (first block)) → IsRow shared row (firsts blocks)
firsts_noted shared row was blocks at block e is =
    subst (λ (lows : List Low). IsRow shared row lows) (sym (firsts_set was at block) ∙ ap (λ (bs : List (List Low)). firsts bs) (sym e)) is

-- a look at that block finds it
pub noted_first : (was blocks : List (List Low)) (at : ℕ) (block read : List Low) → at < length blocks → blocks ≡ slice_set was at block
    → read ≡ get_or blocks at read → read ≡ block
noted_first was blocks at block read inside e is =
    let within : at < length was = omega (arith, ap length e, length-set was at block) in
    get_or_read blocks at read inside is [] ∙ ap (λ (bs : List (List Low)). get_or bs at []) e ∙ get_or-set_same was at block [] within
