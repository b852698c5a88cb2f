-- The blocks of one record, read forwards, are that record.

use Rattle.std.proofs.Common.{◌≡◌, ℕ, ◌+◌, ◌<◌, ◌≤◌, Bool, true, false, Option, Some, List, [], ◌∷◌, ◌++◌, map, length}
use Rattle.std.proofs.Common.{refl, sym, ap, ◌∙◌, arith, if◌then◌else◌, length-append}
use Rattle.std.specs.Prelude.{◌==◌, nat_le}
use Rattle.std.specs.List.{fold}
use Rattle.std.specs.Option.{option_map}
use Rattle.std.proofs.lemmas.Bool.{eqb-true, eq-eqb, ne_eqb, le-leb, lt-leb, leb-true, leb-false}
use Rattle.std.proofs.lemmas.List.{length-map}
use Rattle.bw_record.specs.Lawful.{IsOp}
use Rattle.bw_record.specs.Record.{key_of}
use Rattle.bw_record.specs.declared.record.Record.{Record}
use Rattle.bw_record.specs.declared.leaf.Leaf.{Leaf}
use Rattle.bw_record.specs.declared.block.Place.{Place}
use Rattle.bw_record.specs.declared.block.Block.TheVariants.{Delta, Split}
use Rattle.bw_leaf.specs.Changed.{changed}
use Rattle.bw_page.specs.Leaves.{directed_at, leaf_at, applied, AreLeaves}
use Rattle.bw_leaf.specs.SplitRule.{lower_of, upper_of}
use Rattle.bw_leaf.specs.Forwards.{kept_below, after}
use Rattle.bw_page.proofs.Homes.{put_in}
use Rattle.bw_page.proofs.PageByPage.{home_there, put_at}
use Rattle.bw_page.proofs.Law.{directed, split_within, applied-whole, applied-split}
use Rattle.bw_page.proofs.Steps.{kept-lower, leaf_at-push, leaf_at-new}
use Rattle.bw_making.specs.Adding.{result_of, blocks_for}

-- ---- one page after a record

module _ (m : ℕ) (leaves : List Leaf) (r : Record) (some : 1 ≤ m) (a : AreLeaves m leaves) (op : IsOp r) where
  -- a leaf with the page's number, in its place
  puts : (d : Leaf) (p : ℕ) → d.page ≡ directed_at leaves r
      → leaf_at p (map (put_in d) leaves) ≡ (if directed_at leaves r == p then Some d else leaf_at p leaves)
  puts d p page = put_at m leaves (key_of r) d p a page

  -- what a Delta of the record leaves
  delta_leaves : (back : Place) (p : ℕ) → after p (leaf_at p leaves) (Delta (directed_at leaves r) back (r ∷ []))
      ≡ (if directed_at leaves r == p then Some (result_of leaves r) else leaf_at p leaves)
  delta_leaves back p =
      elim (directed_at leaves r == p) as (λ b. (directed_at leaves r == p) ≡ b
      → (if b then option_map (λ l. changed r l) (leaf_at p leaves) else leaf_at p leaves) ≡ (if b then Some (result_of leaves r) else leaf_at p leaves)) [
        | true ↦ λ e. (let same : directed_at leaves r ≡ p = eqb-true _ _ e in
            ap (option_map (λ l. changed r l)) (ap (λ q. leaf_at q leaves) (sym same) ∙ home_there m leaves (key_of r) a))
        | false ↦ λ e. refl
      ] refl

  -- the two forms of a record's blocks
  blocks-whole : (back here : Place) → length (result_of leaves r).pairs ≤ m → blocks_for m leaves back here r ≡ Delta (directed_at leaves r) back (r ∷ []) ∷ []
  blocks-whole back here fits = rw (le-leb _ m fits) refl

  blocks-cut : (back here : Place) → m < length (result_of leaves r).pairs
      → blocks_for m leaves back here r ≡ Delta (directed_at leaves r) back (r ∷ []) ∷ Split (directed_at leaves r) here
      (upper_of m (length leaves + 1) (result_of leaves r)) ∷ []
  blocks-cut back here over = rw (lt-leb _ m over) refl

  pub whole_content : (back here : Place) (p : ℕ) → length (result_of leaves r).pairs ≤ m
      → fold (after p) (leaf_at p leaves) (blocks_for m leaves back here r) ≡ leaf_at p (applied m leaves r)
  whole_content back here p fits =
      ap (fold (after p) (leaf_at p leaves)) (blocks-whole back here fits) ∙ delta_leaves back p ∙ sym (puts (result_of leaves r) p refl)
      ∙ ap (leaf_at p) (sym (applied-whole m leaves r some a op fits))

  cut_lower : m < length (result_of leaves r).pairs
      → kept_below (upper_of m (length leaves + 1) (result_of leaves r)).low (result_of leaves r) ≡ lower_of m (result_of leaves r)
  cut_lower over =
      let t = Rattle.bw_page.proofs.Law.directed m leaves r a op in
      kept-lower m (length leaves + 1) (result_of leaves r) (split_within m leaves (key_of r) (result_of leaves r) some a t over) t.rises

  -- an old page after the Delta and the Split
  split_leaves : (back here : Place) (p : ℕ) → p ≤ length leaves → m < length (result_of leaves r).pairs
      → after p (after p (leaf_at p leaves) (Delta (directed_at leaves r) back (r ∷ [])))
      (Split (directed_at leaves r) here (upper_of m (length leaves + 1) (result_of leaves r)))
      ≡ (if directed_at leaves r == p then Some (lower_of m (result_of leaves r)) else leaf_at p leaves)
  split_leaves back here p within over =
      let other : ((length leaves + 1) == p) ≡ false = ne_eqb _ _ (λ e. absurd (omega arith)) in
      rw other (elim (directed_at leaves r == p) as (λ b. (directed_at leaves r == p) ≡ b
      → (if b then option_map (kept_below (upper_of m (length leaves + 1) (result_of leaves r)).low)
      (after p (leaf_at p leaves) (Delta (directed_at leaves r) back (r ∷ []))) else after p (leaf_at p leaves)
      (Delta (directed_at leaves r) back (r ∷ [])))
      ≡ (if b then Some (lower_of m (result_of leaves r)) else leaf_at p leaves)) [
        | true ↦ λ e. ap (option_map (kept_below (upper_of m (length leaves + 1) (result_of leaves r)).low))
            (delta_leaves back p ∙ ap (λ (b : Bool). if b then Some (result_of leaves r) else leaf_at p leaves) e) ∙ ap Some (cut_lower over)
        | false ↦ λ e. delta_leaves back p ∙ ap (λ (b : Bool). if b then Some (result_of leaves r) else leaf_at p leaves) e
      ] refl)

  pub old_content : (back here : Place) (p : ℕ) → p ≤ length leaves → m < length (result_of leaves r).pairs
      → fold (after p) (leaf_at p leaves) (blocks_for m leaves back here r) ≡ leaf_at p (applied m leaves r)
  old_content back here p within over =
      ap (fold (after p) (leaf_at p leaves)) (blocks-cut back here over)
      ∙ split_leaves back here p within over
      ∙ sym (puts (lower_of m (result_of leaves r)) p refl)
      ∙ sym (leaf_at-push p (map (put_in (lower_of m (result_of leaves r))) leaves) (upper_of m (length leaves + 1) (result_of leaves r))
      (let e = length-map leaves (put_in (lower_of m (result_of leaves r))) in omega arith))
      ∙ ap (leaf_at p) (sym (applied-split m leaves r some a op over))

  pub new_content : (back here : Place) (w : Option Leaf) → m < length (result_of leaves r).pairs
      → fold (after (length leaves + 1)) w (blocks_for m leaves back here r) ≡ leaf_at (length leaves + 1) (applied m leaves r)
  new_content back here w over =
      let same : ((length leaves + 1) == (length leaves + 1)) ≡ true = eq-eqb _ _ refl in
      let at = length-map leaves (put_in (lower_of m (result_of leaves r))) in
      let u = upper_of m (length leaves + 1) (result_of leaves r) in
      let delta = Delta (directed_at leaves r) back (r ∷ []) in
      ap (fold (after (length leaves + 1)) w) (blocks-cut back here over)
      ∙ ap (λ (b : Bool). if b then Some u else if directed_at leaves r == (length leaves + 1) then option_map (kept_below u.low)
      (after (length leaves + 1) w delta) else after (length leaves + 1) w delta) same
      ∙ sym (ap (λ n. leaf_at (n + 1) (map (put_in (lower_of m (result_of leaves r))) leaves
      ++ upper_of m (length leaves + 1) (result_of leaves r) ∷ [])) (sym at)
      ∙ leaf_at-new (map (put_in (lower_of m (result_of leaves r))) leaves) (upper_of m (length leaves + 1) (result_of leaves r)))
      ∙ ap (leaf_at (length leaves + 1)) (sym (applied-split m leaves r some a op over))

  pub length-applied : length (applied m leaves r) ≡ (if nat_le (length (result_of leaves r).pairs) m then length leaves else length leaves + 1)
  length-applied =
      elim (nat_le (length (result_of leaves r).pairs) m) as
      (λ b. nat_le (length (result_of leaves r).pairs) m ≡ b → length (applied m leaves r) ≡ (if b then length leaves else length leaves + 1)) [
        | true ↦ λ e. ap length (applied-whole m leaves r some a op (leb-true _ _ e)) ∙ length-map leaves (put_in (result_of leaves r))
        | false ↦ λ e. ap length (applied-split m leaves r some a op (leb-false _ _ e))
            ∙ length-append (map (put_in (lower_of m (result_of leaves r))) leaves) (upper_of m (length leaves + 1) (result_of leaves r) ∷ [])
            ∙ ap (λ n. n + 1) (length-map leaves (put_in (lower_of m (result_of leaves r))))
      ] refl
