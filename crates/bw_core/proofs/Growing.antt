-- One record more in the frame in the making.

use Rattle.std.proofs.Common.{◌≡◌, ℕ, zero, suc, ◌+◌, ◌-◌, ◌/◌, ◌^◌, ◌<◌, ◌≤◌, lit<, Bool, true, false, Option, Some, None, List, [], ◌∷◌, ◌++◌}
use Rattle.std.proofs.Common.{length, set, refl, sym, ap, ◌∙◌, subst, arith, if◌then◌else◌, length-append, length-set}
use Rattle.std.proofs.Common.{length-drop}
use Rattle.std.specs.Prelude.{◌==◌, ◌||◌, nat_le}
use Rattle.std.specs.List.{AllByRecursion as All, fold, slice_get}
use Rattle.std.proofs.lemmas.Bool.{eq-eqb, ne_eqb, leb-true, leb-false}
use Rattle.bw_record.specs.Lawful.{IsOp}
use Rattle.bw_codec.specs.Grammar.{IsBlock, IsPlace, IsDelta}
use Rattle.bw_record.specs.Record.{key_of}
use Rattle.bw_record.specs.Touch.{touches}
use Rattle.bw_record.specs.declared.record.Record.{Record}
use Rattle.bw_record.specs.declared.leaf.Leaf.{Leaf}
use Rattle.bw_record.specs.declared.block.Place.{Place}
use Rattle.bw_record.specs.declared.block.Block.TheVariants.{Delta, Split}
use Rattle.bw_record.specs.declared.block.Frame.{Frame}
use Rattle.bw_buffer.specs.Joining.{joins}
use Rattle.bw_page.specs.Leaves.{directed_at, leaf_at, applied, HasPage, AreLeaves}
use Rattle.bw_leaf.specs.SplitRule.{upper_of}
use Rattle.bw_leaf.specs.Forwards.{after, content, blocks_of}
use Rattle.bw_page.specs.Standing.{Stand}
use Rattle.bw_leaf.proofs.Sorted.{all-push}
use Rattle.bw_page.proofs.Indexed.{home_within}
use Rattle.bw_page.proofs.Law.{applied-lawful, split_within, upper_in, home_base}
use Rattle.bw_page.proofs.Law as law
use Rattle.bw_log.specs.Places.{place_of, AreLinked}
use Rattle.bw_making.specs.Adding.{with_blocks, count_after, here_for, last_for, result_of, blocks_for, places_after}
use Rattle.bw_core.specs.Growing.{Grown}
use Rattle.bw_making.proofs.Joins.{content_with, quiet_with, added_lawful, joins_within}
use Rattle.bw_core.proofs.Stepping.{whole_content, old_content, new_content, length-applied}
use Rattle.bw_making.proofs.Placing.{delta_linked, delta_place, delta_end, split_linked, split_place, set_newest, push_newest}

all-write : {X : Type 0} (P : X → Type 0) (xs : List X) (i : ℕ) (x : X) → All P xs → P x → All P (set xs i x)
all-write P [] i x h k = tt
all-write P (y ∷ ys) zero x h k = (k, h.1)
all-write P (y ∷ ys) (suc i) x h k = (h.0, all-write P ys i x h.1 k)

all-get : {X : Type 0} (P : X → Type 0) (xs : List X) (i : ℕ) (x : X) → All P xs → slice_get xs i ≡ Some x → P x
all-get P [] i x h e = absurd cc
all-get {X} P (y ∷ ys) zero x h e = (let same : y ≡ x = cc in subst P same h.0)
all-get P (y ∷ ys) (suc i) x h e = all-get P ys i x h.1 e

-- what one record asks of the frames and of the frame in the making
pub record Takes (m : ℕ) (counted : List Frame) (open_frame : Frame) (leaves : List Leaf) (newest : List Place) (back : Place) (r : Record) : Type 0 where
  pub some : 4 ≤ m
  pub grown : Grown m counted open_frame leaves newest
  pub op : IsOp r
  pub room : HasPage m leaves r
  pub last : slice_get newest (directed_at leaves r - 1) ≡ Some back
  pub number : (1 ≤ open_frame.number) × (open_frame.number < 2 ^ 64)
  pub few : length open_frame.blocks + 2 < 2 ^ 32

module _ (m : ℕ) (counted : List Frame) (o : Frame) (leaves : List Leaf) (newest : List Place) (back : Place) (r : Record)
    (t : Takes m counted o leaves newest back r) where
  lawful_now : AreLeaves m leaves
  lawful_now = t.grown.stands.lawful

  one : 1 ≤ m
  one = (let s = t.some in omega arith)

  here : (1 ≤ directed_at leaves r) × (directed_at leaves r ≤ length leaves)
  here = home_within m (key_of r) leaves lawful_now

  -- where the Delta goes, and where a Split after it goes
  abbrev pub at : Place
  at = here_for o (directed_at leaves r)

  abbrev pub last : Place
  last = last_for o (directed_at leaves r)

  -- ---- content

  old_page : (p : ℕ) → p ≤ length leaves → fold (after p) (leaf_at p leaves) (blocks_for m leaves back at r) ≡ leaf_at p (applied m leaves r)
  old_page p within =
      elim (nat_le (length (result_of leaves r).pairs) m) as
      (λ b. nat_le (length (result_of leaves r).pairs) m ≡ b
      → fold (after p) (leaf_at p leaves) (blocks_for m leaves back at r) ≡ leaf_at p (applied m leaves r)) [
        | true ↦ λ e. whole_content m leaves r one lawful_now t.op back at p (leb-true _ _ e)
        | false ↦ λ e. old_content m leaves r one lawful_now t.op back at p within (leb-false _ _ e)
      ] refl

  new_page : (p : ℕ) (w : Option Leaf) → p ≤ length (applied m leaves r) → length leaves < p
      → fold (after p) w (blocks_for m leaves back at r) ≡ leaf_at p (applied m leaves r)
  new_page p w within beyond =
      let long = length-applied m leaves r one lawful_now t.op in
      elim (nat_le (length (result_of leaves r).pairs) m) as
      (λ b. nat_le (length (result_of leaves r).pairs) m ≡ b → fold (after p) w (blocks_for m leaves back at r) ≡ leaf_at p (applied m leaves r)) [
        | true ↦ λ e. (let same : length (applied m leaves r) ≡ length leaves = long ∙ (rw e refl) in absurd (omega arith))
        | false ↦ λ e. (
            let more : length (applied m leaves r) ≡ length leaves + 1 = long ∙ (rw e refl) in
            let last : length leaves + 1 ≡ p = omega arith in
            subst (λ (q : ℕ). fold (after q) w (blocks_for m leaves back at r) ≡ leaf_at q (applied m leaves r)) last
            (new_content m leaves r one lawful_now t.op back at w (leb-false _ _ e)))
      ] refl

  untouched : (p : ℕ) → length (applied m leaves r) + 1 ≤ p → All (λ b. touches p b ≡ false) (blocks_for m leaves back at r)
  untouched p beyond =
      let long = length-applied m leaves r one lawful_now t.op in
      let h = here in
      elim (nat_le (length (result_of leaves r).pairs) m) as (λ b. nat_le (length (result_of leaves r).pairs) m ≡ b
      → All (λ b. touches p b ≡ false) (if b then Delta (directed_at leaves r) back (r ∷ []) ∷ [] else Delta (directed_at leaves r) back (r ∷ []) ∷ Split
      (directed_at leaves r) at (upper_of m (length leaves + 1) (result_of leaves r)) ∷ [])) [
        | true ↦ λ e. (let same : length (applied m leaves r) ≡ length leaves = long ∙ (rw e refl) in (ne_eqb _ _ (λ s. absurd (omega arith)), tt))
        | false ↦ λ e. (
            let more : length (applied m leaves r) ≡ length leaves + 1 = long ∙ (rw e refl) in
            let delta : (directed_at leaves r == p) ≡ false = ne_eqb _ _ (λ s. absurd (omega arith)) in
            let split : ((length leaves + 1) == p) ≡ false = ne_eqb _ _ (λ s. absurd (omega arith)) in
            (delta, (rw delta split, tt)))
      ] refl

  pub stands_more : Stand m (counted ++ with_blocks o (blocks_for m leaves back at r) ∷ []) (applied m leaves r)
  stands_more =
      let long = length-applied m leaves r one lawful_now t.op in
      record {
        some = (let n = length-append counted (with_blocks o (blocks_for m leaves back at r) ∷ []) in omega arith);
        lawful = applied-lawful m leaves r one t.room lawful_now t.op;
        each = λ p from within.
            content_with p counted o (blocks_for m leaves back at r)
            ∙ elim (nat_le p (length leaves)) as (λ b. nat_le p (length leaves) ≡ b
            → fold (after p) (content p (blocks_of (counted ++ o ∷ []))) (blocks_for m leaves back at r) ≡ leaf_at p (applied m leaves r)) [
              | true ↦ λ e. ap (λ (w : Option Leaf). fold (after p) w (blocks_for m leaves back at r)) (t.grown.stands.each p from (leb-true _ _ e))
                  ∙ old_page p (leb-true _ _ e)
              | false ↦ λ e. new_page p (content p (blocks_of (counted ++ o ∷ []))) within (leb-false _ _ e)
            ] refl;
        all = λ p beyond.
            quiet_with p counted o (blocks_for m leaves back at r)
            (t.grown.stands.all p (elim (nat_le (length (result_of leaves r).pairs) m) as
            (λ b. nat_le (length (result_of leaves r).pairs) m ≡ b → length leaves + 1 ≤ p) [
              | true ↦ λ e. (let same : length (applied m leaves r) ≡ length leaves = long ∙ (rw e refl) in omega arith)
              | false ↦ λ e. (let more : length (applied m leaves r) ≡ length leaves + 1 = long ∙ (rw e refl) in omega arith)
            ] refl)) (untouched p beyond);
      }

  -- ---- links and newest places

  last_touch : place_of (directed_at leaves r) (counted ++ o ∷ []) ≡ Some back
  last_touch = sym (t.grown.each (directed_at leaves r) here.0) ∙ t.last

  -- the frame with the Delta
  abbrev middle : Frame
  middle = with_blocks o (Delta (directed_at leaves r) back (r ∷ []) ∷ [])

  middle_linked : AreLinked (counted ++ middle ∷ [])
  middle_linked = delta_linked counted o (directed_at leaves r) back r t.grown.linked last_touch

  middle_place : (q : ℕ) → place_of q (counted ++ middle ∷ []) ≡ (if directed_at leaves r == q then Some at else place_of q (counted ++ o ∷ []))
  middle_place q = delta_place counted o (directed_at leaves r) back r q

  middle_touch : place_of (directed_at leaves r) (counted ++ middle ∷ []) ≡ Some at
  middle_touch =
      middle_place (directed_at leaves r)
      ∙ ap (λ (b : Bool). if b then Some at else place_of (directed_at leaves r) (counted ++ o ∷ []))
      (eq-eqb (directed_at leaves r) (directed_at leaves r) refl)

  linked_more : AreLinked (counted ++ with_blocks o (blocks_for m leaves back at r) ∷ [])
  linked_more =
      elim (nat_le (length (result_of leaves r).pairs) m) as
      (λ b. AreLinked (counted ++ with_blocks o
      (if b then Delta (directed_at leaves r) back (r ∷ []) ∷ [] else Delta (directed_at leaves r) back (r ∷ []) ∷ Split (directed_at leaves r) at
      (upper_of m (length leaves + 1) (result_of leaves r)) ∷ []) ∷ [])) [
        | true ↦ middle_linked
        | false ↦ split_linked counted middle (directed_at leaves r) at (upper_of m (length leaves + 1) (result_of leaves r)) middle_linked middle_touch
      ]

  newest_more : (p : ℕ) → 1 ≤ p → slice_get (places_after m leaves at last r newest) (p - 1)
      ≡ place_of p (counted ++ with_blocks o (blocks_for m leaves back at r) ∷ [])
  newest_more p from =
      let h = here in
      let count = t.grown.count in
      let upper = upper_of m (length leaves + 1) (result_of leaves r) in
      let old : Option Place = place_of p (counted ++ o ∷ []) in
      elim (nat_le (length (result_of leaves r).pairs) m) as (λ b.
      slice_get (if b then set newest (directed_at leaves r - 1) at else set newest (directed_at leaves r - 1) last
      ++ last ∷ []) (p - 1)
      ≡ place_of p (counted ++ with_blocks o (if b then Delta (directed_at leaves r) back (r ∷ []) ∷ [] else Delta (directed_at leaves r) back (r ∷ []) ∷
      Split (directed_at leaves r) at (upper_of m (length leaves + 1) (result_of leaves r)) ∷ []) ∷ [])) [
        | true ↦ set_newest newest (directed_at leaves r) p at h.0 (omega arith) from
            ∙ ap (λ (w : Option Place). if directed_at leaves r == p then Some at else w) (t.grown.each p from)
            ∙ sym (middle_place p)
        | false ↦ push_newest newest (directed_at leaves r) (length leaves + 1) p last h.0 (omega arith) (omega arith) from
            ∙ ap (λ (w : Option Place). if (directed_at leaves r == p) || ((length leaves + 1) == p) then Some last else w) (t.grown.each p from)
            ∙ elim (directed_at leaves r == p) as (λ b. (if b || ((length leaves + 1) == p) then Some last else old)
            ≡ (if b || ((length leaves + 1) == p) then Some last else if b then Some at else old)) [ true ↦ refl | false ↦ refl ]
            ∙ ap (λ (w : Option Place). if (directed_at leaves r == p) || ((length leaves + 1) == p) then Some last else w) (sym (middle_place p))
            ∙ ap (λ (x : Place). if (directed_at leaves r == p) || ((length leaves + 1) == p) then Some x else place_of p (counted ++ middle ∷ []))
            (sym (delta_end counted o (directed_at leaves r) back r))
            ∙ sym (split_place counted middle (directed_at leaves r) at upper p)
      ]

  -- ---- lawful blocks

  back_lawful : IsPlace back
  back_lawful = all-get IsPlace newest (directed_at leaves r - 1) back t.grown.places t.last

  here_lawful : IsPlace at
  here_lawful = (let few = t.few in let within = joins_within (directed_at leaves r) o.blocks in record { frame = t.number; index = omega arith })

  last_lawful : IsPlace last
  last_lawful =
      let few = t.few in
      record {
        frame = t.number;
        index = elim (joins (directed_at leaves r) o.blocks) as (λ j. count_after j (length o.blocks) < 2 ^ 32) [
          | None ↦ omega arith
          | Some i ↦ omega arith
        ];
      }

  pub blocks_lawful : All (IsBlock m) (blocks_for m leaves back at r)
  blocks_lawful =
      let n = t.number in
      let few = t.few in
      let base = home_base m leaves (key_of r) lawful_now in
      let end_lawful : IsPlace at = here_lawful in
      let delta : IsDelta (directed_at leaves r) back (r ∷ []) =
      record { changes = base.page; links = back_lawful; count = (omega arith, lit< tt); each = (t.op, tt) } in
      elim (nat_le (length (result_of leaves r).pairs) m) as (λ b. nat_le (length (result_of leaves r).pairs) m ≡ b
      → All (IsBlock m) (if b then Delta (directed_at leaves r) back (r ∷ []) ∷ [] else Delta (directed_at leaves r) back (r ∷ []) ∷ Split
      (directed_at leaves r) at (upper_of m (length leaves + 1) (result_of leaves r)) ∷ [])) [
        | true ↦ λ e. (delta, tt)
        | false ↦ λ e. (
            let over = leb-false _ _ e in
            let x = result_of leaves r in
            let d = law.directed m leaves r lawful_now t.op in
            let within = split_within m leaves (key_of r) x one lawful_now d over in
            let up = upper_in m leaves (key_of r) x one lawful_now d over (t.room over) in
            let long = length-drop ((m + 1) / 2) x.pairs in
            let h = here in (
              delta,
              (
                record {
                  splits = base.page;
                  links = end_lawful;
                  makes = up.base;
                  low = refl;
                  count = omega arith;
                  new = (omega arith, λ s. absurd (omega arith));
                },
                tt,
              ),
            ))
      ] refl

  -- ---- all of it

  pub grown_more : Grown m counted (with_blocks o (blocks_for m leaves back at r)) (applied m leaves r) (places_after m leaves at last r newest)
  grown_more =
      let count = t.grown.count in
      let long = length-applied m leaves r one lawful_now t.op in
      record {
        stands = stands_more;
        linked = linked_more;
        count = elim (nat_le (length (result_of leaves r).pairs) m) as (λ b. length (applied m leaves r) ≡ (if b then length leaves else length leaves + 1)
            → length (if b then set newest (directed_at leaves r - 1) at else set newest (directed_at leaves r - 1) last
            ++ last ∷ []) ≡ length (applied m leaves r)) [
              | true ↦ λ e. (let k = length-set newest (directed_at leaves r - 1) at in omega arith)
              | false ↦ λ e. (let k = length-set newest (directed_at leaves r - 1) last
                  in let j = length-append (set newest (directed_at leaves r - 1) last) (last ∷ []) in omega arith)
            ] long;
        places = elim (nat_le (length (result_of leaves r).pairs) m) as (λ b.
            All IsPlace (if b then set newest (directed_at leaves r - 1) at else set newest (directed_at leaves r - 1) last
            ++ last ∷ [])) [
              | true ↦ all-write IsPlace newest (directed_at leaves r - 1) at t.grown.places here_lawful
              | false ↦ all-push IsPlace (set newest (directed_at leaves r - 1) last) last
                  (all-write IsPlace newest (directed_at leaves r - 1) last t.grown.places last_lawful) last_lawful
            ];
        each = newest_more;
        lawful = added_lawful m o.blocks (blocks_for m leaves back at r) t.grown.lawful blocks_lawful;
      }
