-- A frame says its share, one record after the other.

use Rattle.std.proofs.Common.{◌≡◌, ℕ, ◌+◌, true, false, List, [], ◌∷◌, ◌++◌, length, refl, sym, ap, ◌∙◌, append_assoc, append-nil, if◌then◌else◌}
use Rattle.std.specs.Prelude.{◌==◌, nat_le}
use Rattle.bw_record.specs.declared.record.Record.{Record}
use Rattle.bw_record.specs.declared.leaf.Leaf.{Leaf}
use Rattle.bw_record.specs.declared.block.Place.{Place}
use Rattle.bw_record.specs.declared.block.Block.{Block}
use Rattle.bw_record.specs.declared.block.Block.TheVariants.{Delta, Split}
use Rattle.bw_page.specs.Leaves.{directed_at, applied, pages}
use Rattle.bw_leaf.specs.SplitRule.{upper_of}
use Rattle.bw_buffer.specs.Joining.{added}
use Rattle.bw_making.specs.Share.{ops_at, splits_in, bases_in, directed, split_by, splits_by, Tells}
use Rattle.bw_making.specs.Adding.{result_of, blocks_for}
use Rattle.bw_making.proofs.Joins.{added_ops, added_splits, added_bases}

directed_more : (m p : ℕ) (leaves : List Leaf) (rs : List Record) (r : Record)
    → directed m p leaves (rs ++ r ∷ []) ≡ directed m p leaves rs ++ (if directed_at (pages m leaves rs) r == p then r ∷ [] else [])
directed_more m p leaves [] r = append-nil (if directed_at leaves r == p then r ∷ [] else [])
directed_more m p leaves (x ∷ rs) r =
    let here : List Record = if directed_at leaves x == p then x ∷ [] else [] in
    ap (λ (l : List Record). here ++ l) (directed_more m p (applied m leaves x) rs r)
    ∙ sym (append_assoc here (directed m p (applied m leaves x) rs) (if directed_at (pages m leaves (x ∷ rs)) r == p then r ∷ [] else []))

splits_more : (m : ℕ) (leaves : List Leaf) (rs : List Record) (r : Record)
    → splits_by m leaves (rs ++ r ∷ []) ≡ splits_by m leaves rs ++ split_by m (pages m leaves rs) r
splits_more m leaves [] r = append-nil (split_by m leaves r)
splits_more m leaves (x ∷ rs) r =
    ap (λ (l : List (ℕ × ℕ)). split_by m leaves x ++ l) (splits_more m (applied m leaves x) rs r)
    ∙ sym (append_assoc (split_by m leaves x) (splits_by m (applied m leaves x) rs) (split_by m (pages m leaves (x ∷ rs)) r))

module _ (m : ℕ) (now : List Leaf) (back here : Place) (r : Record) where
  ops_for : (p : ℕ) → ops_at p (blocks_for m now back here r) ≡ (if directed_at now r == p then r ∷ [] else [])
  ops_for p = elim (nat_le (length (result_of now r).pairs) m) as
      (λ b. ops_at p (if b then Delta (directed_at now r) back (r ∷ []) ∷ [] else Delta (directed_at now r) back (r ∷ []) ∷ Split (directed_at now r) here
      (upper_of m (length now + 1) (result_of now r)) ∷ []) ≡ (if directed_at now r == p then r ∷ [] else [])) [
        | true ↦ append-nil (if directed_at now r == p then r ∷ [] else [])
        | false ↦ append-nil (if directed_at now r == p then r ∷ [] else [])
      ]

  splits_for : splits_in (blocks_for m now back here r) ≡ split_by m now r
  splits_for = elim (nat_le (length (result_of now r).pairs) m) as
      (λ b. splits_in (if b then Delta (directed_at now r) back (r ∷ []) ∷ [] else Delta (directed_at now r) back (r ∷ []) ∷ Split (directed_at now r) here
      (upper_of m (length now + 1) (result_of now r)) ∷ []) ≡ (if b then [] else (directed_at now r, length now + 1) ∷ [])) [
        | true ↦ refl
        | false ↦ refl
      ]

  bases_for : bases_in (blocks_for m now back here r) ≡ []
  bases_for = elim (nat_le (length (result_of now r).pairs) m) as
      (λ b. bases_in (if b then Delta (directed_at now r) back (r ∷ []) ∷ [] else Delta (directed_at now r) back (r ∷ []) ∷ Split (directed_at now r) here
      (upper_of m (length now + 1) (result_of now r)) ∷ []) ≡ []) [ true ↦ refl | false ↦ refl ]

-- one record more
pub tells_more : (m : ℕ) (leaves : List Leaf) (rs : List Record) (blocks : List Block) (back here : Place) (r : Record) → Tells m leaves rs blocks
    → Tells m leaves (rs ++ r ∷ []) (added blocks (blocks_for m (pages m leaves rs) back here r))
tells_more m leaves rs blocks back here r t =
    let now = pages m leaves rs in
    let more = blocks_for m now back here r in
    record {
      deltas = λ p. added_ops p blocks more ∙ ap (λ (l : List Record). l ++ ops_at p more) (t.deltas p)
          ∙ ap (λ (l : List Record). directed m p leaves rs ++ l) (ops_for m now back here r p) ∙ sym (directed_more m p leaves rs r);
      splits = added_splits blocks more ∙ ap (λ (l : List (ℕ × ℕ)). l ++ splits_in more) t.splits
          ∙ ap (λ (l : List (ℕ × ℕ)). splits_by m leaves rs ++ l) (splits_for m now back here r) ∙ sym (splits_more m leaves rs r);
      bases = added_bases blocks more ∙ ap (λ (l : List Leaf). l ++ bases_in more) t.bases ∙ bases_for m now back here r;
    }

-- nothing says no records
pub tells_none : (m : ℕ) (leaves : List Leaf) → Tells m leaves [] []
tells_none m leaves = record { deltas = λ p. refl; splits = refl; bases = refl }
