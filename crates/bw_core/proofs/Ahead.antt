-- One record more is planned: what a look at the rows says is what the places and blocks after it
-- are.

use Rattle.std.proofs.Common.{◌≡◌, ◌≢◌, ℕ, ◌+◌, ◌-◌, ◌≤◌, Bool, true, false, Option, Some, None, List, [], ◌∷◌, ◌++◌}
use Rattle.std.proofs.Common.{length, set, refl, sym, ap, ◌∙◌, arith, if◌then◌else◌, length-append}
use Rattle.std.specs.Prelude.{nat_le, ◌==◌, ◌||◌, unwrap_or, slice_get}
use Rattle.std.proofs.lemmas.Bool.{eqb-true, eqb-false, leb-true, leb-false}
use Rattle.std.proofs.lemmas.Grind.{fold-append}
use Rattle.bw_record.specs.Lawful.{IsOp}
use Rattle.bw_record.specs.declared.record.Record.{Record}
use Rattle.bw_record.specs.declared.leaf.Leaf.{Leaf}
use Rattle.bw_record.specs.declared.block.Place.{Place}
use Rattle.bw_record.specs.declared.block.Block.{Block}
use Rattle.bw_record.specs.declared.block.Block.TheVariants.{Delta, Split}
use Rattle.bw_page.specs.Leaves.{applied, directed_at, AreLeaves}
use Rattle.bw_leaf.specs.SplitRule.{upper_of}
use Rattle.bw_buffer.specs.Counting.{grown}
use Rattle.bw_buffer.specs.Joining.{joins, joined, added, last_delta, open_records, records_after, takes}
use Rattle.bw_buffer.proofs.Growing.{last_push, last_joined}
use Rattle.bw_buffer.proofs.Sizes.{records_joined}
use Rattle.bw_making.specs.declared.draft.Row.{Row}
use Rattle.bw_making.specs.Adding.{Drawn, count_after, here_for, last_for, result_of, upper_if, planned, back_in, blocks_for, drawn_by}
use Rattle.bw_making.specs.Drafting.{count_with, is_row_of, open_by, open_in, records_by, records_in, place_by, place_in, row_by, row_for, row_in}
use Rattle.bw_making.proofs.Placing.{set_newest, push_newest, delta_end}
use Rattle.bw_core.proofs.Stepping.{length-applied}

rows_last : (rows : List Row) (row : Row) (p : ℕ) → row_in (rows ++ row ∷ []) p ≡ (if is_row_of p row then Some row else row_in rows p)
rows_last rows row p = fold-append (λ (found : Option Row) (one : Row). if is_row_of p one then Some one else found) None rows (row ∷ [])

neither : (a b : Bool) → (a || b) ≡ false → b ≡ false
neither true b e = absurd cc
neither false b e = e

neither_first : (a b : Bool) → (a || b) ≡ false → a ≡ false
neither_first true b e = absurd cc
neither_first false b e = refl

-- ---- places

module _ (rows : List Row) (base newest : List Place) (p0 n : ℕ) (x : Place) (from : 1 ≤ p0) (within : p0 ≤ length newest) where
  places_set : (p : ℕ) → 1 ≤ p → place_in rows base p ≡ slice_get newest (p - 1)
      → place_in (rows ++ row_by p0 x x n None ∷ []) base p ≡ slice_get (set newest (p0 - 1) x) (p - 1)
  places_set p some was =
      ap (λ (o : Option Row). place_by o (slice_get base (p - 1))) (rows_last rows (row_by p0 x x n None) p)
      ∙ elim (p0 == p) as (λ b. place_by (if b || false then Some (row_by p0 x x n None) else row_in rows p) (slice_get base (p - 1))
      ≡ (if b then Some x else slice_get newest (p - 1))) [ true ↦ refl | false ↦ was ]
      ∙ sym (set_newest newest p0 p x from within some)

  abbrev made_row : ℕ → Row
  made_row u = record { page = p0; made = Some u; place = x; records = None }

  places_cut : (u p : ℕ) → u ≡ length newest + 1 → 1 ≤ p → p ≤ length newest + 1 → (p ≤ length newest → place_in rows base p ≡ slice_get newest (p - 1))
      → place_in (rows ++ made_row u ∷ []) base p ≡ slice_get (set newest (p0 - 1) x ++ x ∷ []) (p - 1)
  places_cut u p new some top was =
      ap (λ (o : Option Row). place_by o (slice_get base (p - 1))) (rows_last rows (made_row u) p)
      ∙ elim ((p0 == p) || (u == p)) as (λ b. ((p0 == p) || (u == p)) ≡ b
      → place_by (if b then Some (made_row u) else row_in rows p) (slice_get base (p - 1))
      ≡ (if b then Some x else slice_get newest (p - 1))) [
        | true ↦ λ e. refl
        | false ↦ λ e. (let other : u ≢ p = eqb-false u p (neither (p0 == p) (u == p) e) in was (not_last u p other new top))
      ] refl
      ∙ sym (push_newest newest p0 u p x from within new some)
    where
      not_last : (u p : ℕ) → u ≢ p → u ≡ length newest + 1 → p ≤ length newest + 1 → p ≤ length newest
      not_last u p other new top = elim (nat_le p (length newest)) as (λ b. nat_le p (length newest) ≡ b → p ≤ length newest) [
        | true ↦ λ e. leb-true _ _ e
        | false ↦ λ e. (let h = leb-false _ _ e in absurd (other (omega arith)))
      ] refl

-- ---- the block that a Delta joins

pub records_delta : (p page : ℕ) (back : Place) (r : Record) (bs : List Block)
    → open_records p (joined bs (Delta page back (r ∷ []))) ≡ (if page == p then Some (grown (open_records page bs) 1) else open_records p bs)
records_delta p page back r bs =
    records_joined p bs (Delta page back (r ∷ []))
    ∙ elim (page == p) as (λ t. (page == p) ≡ t
    → (if t then Some (grown (open_records p bs) 1) else open_records p bs) ≡ (if t then Some (grown (open_records page bs) 1) else open_records p bs)) [
      | true ↦ λ same. ap (λ (q : ℕ). Some (grown (open_records q bs) 1)) (sym (eqb-true page p same))
      | false ↦ λ other. refl
    ] refl

joins_delta : (p page : ℕ) (back : Place) (r : Record) (bs : List Block)
    → joins p (joined bs (Delta page back (r ∷ [])))
    ≡ (if page == p then (if takes 1 (Some (grown (open_records page bs) 1)) then Some (unwrap_or (joins page bs) (length bs)) else None) else joins p bs)
joins_delta p page back r bs =
    let now = joined bs (Delta page back (r ∷ [])) in
    ap (λ (o : Option ℕ). if takes 1 o then last_delta p now else None) (records_delta p page back r bs)
    ∙ ap (λ (o : Option ℕ). if takes 1 (if page == p then Some (grown (open_records page bs) 1) else open_records p bs) then o else None)
    (last_joined p page back (r ∷ []) bs)
    ∙ elim (page == p) as (λ t.
    (if takes 1 (if t then Some (grown (open_records page bs) 1) else open_records p bs)
    then (if t then Some (unwrap_or (joins page bs) (length bs)) else last_delta p bs) else None)
    ≡ (if t then (if takes 1 (Some (grown (open_records page bs) 1)) then Some (unwrap_or (joins page bs) (length bs)) else None) else joins p bs)) [
      | true ↦ refl
      | false ↦ refl
    ]

records_split : (p page : ℕ) (here : Place) (upper : Leaf) (bs : List Block)
    → open_records p (bs ++ Split page here upper ∷ []) ≡ (if (page == p) || (upper.page == p) then None else open_records p bs)
records_split p page here upper bs = fold-append (records_after p) None bs (Split page here upper ∷ [])

joins_split : (p page : ℕ) (here : Place) (upper : Leaf) (bs : List Block)
    → joins p (bs ++ Split page here upper ∷ []) ≡ (if (page == p) || (upper.page == p) then None else joins p bs)
joins_split p page here upper bs =
    ap (λ (o : Option ℕ). if takes 1 o then last_delta p (bs ++ Split page here upper ∷ []) else None) (records_split p page here upper bs)
    ∙ ap (λ (o : Option ℕ). if takes 1 (if (page == p) || (upper.page == p) then None else open_records p bs) then o else None)
    (last_push p bs (Split page here upper))
    ∙ elim ((page == p) || (upper.page == p)) as (λ t.
    (if takes 1 (if t then None else open_records p bs) then (if t then (if false then Some (length bs) else None) else last_delta p bs) else None)
    ≡ (if t then None else joins p bs)) [
      | true ↦ refl
      | false ↦ refl
    ]

module _ (rows : List Row) (base bs : List Block) (p0 : ℕ) (back here x : Place) (r : Record) where
  abbrev count : ℕ
  count = grown (open_records p0 bs) 1

  abbrev set_row_of : Row
  set_row_of = record { page = p0; made = None; place = here; records = Some count }

  records_set : (p : ℕ) → records_in rows base p ≡ open_records p bs
      → records_in (rows ++ set_row_of ∷ []) base p ≡ open_records p (joined bs (Delta p0 back (r ∷ [])))
  records_set p was =
      ap (λ (o : Option Row). records_by o (open_records p base)) (rows_last rows set_row_of p)
      ∙ elim (p0 == p) as (λ b. records_by (if b || false then Some set_row_of else row_in rows p) (open_records p base)
      ≡ (if b then Some count else open_records p bs)) [ true ↦ refl | false ↦ was ]
      ∙ sym (records_delta p p0 back r bs)

  opens_set : (p : ℕ) → here.index ≡ unwrap_or (joins p0 bs) (length bs) → open_in rows base p ≡ joins p bs
      → open_in (rows ++ set_row_of ∷ []) base p ≡ joins p (joined bs (Delta p0 back (r ∷ [])))
  opens_set p at was =
      ap (λ (o : Option Row). open_by o (joins p base)) (rows_last rows set_row_of p)
      ∙ elim (p0 == p) as (λ b. open_by (if b || false then Some set_row_of else row_in rows p) (joins p base)
      ≡ (if b then (if takes 1 (Some count) then Some (unwrap_or (joins p0 bs) (length bs)) else None) else joins p bs)) [
        | true ↦ ap (λ (i : ℕ). if takes 1 (Some count) then Some i else None) at
        | false ↦ was
      ]
      ∙ sym (joins_delta p p0 back r bs)

  module _ (upper : Leaf) (n p : ℕ) (new : upper.page ≡ n + 1) (top : p ≤ n + 1) where
    abbrev cut_row : Row
    cut_row = record { page = p0; made = Some upper.page; place = x; records = None }

    not_last : upper.page ≢ p → p ≤ n
    not_last other = elim (nat_le p n) as (λ b. nat_le p n ≡ b → p ≤ n) [
      | true ↦ λ e. leb-true _ _ e
      | false ↦ λ e. (let h = leb-false _ _ e in absurd (other (omega arith)))
    ] refl

    -- what is said of a page by its newest row, where the newest of all rows is this cut
    by_cut : {A : Type 0} (tell : Option Row → A) (split was : A) → tell (Some cut_row) ≡ split → ((p0 == p) ≡ false → p ≤ n → tell (row_in rows p) ≡ was)
        → tell (row_in (rows ++ cut_row ∷ []) p) ≡ (if (p0 == p) || (upper.page == p) then split else was)
    by_cut tell split was is stays =
        ap tell (rows_last rows cut_row p)
        ∙ elim ((p0 == p) || (upper.page == p)) as (λ b. ((p0 == p) || (upper.page == p)) ≡ b
        → tell (if b then Some cut_row else row_in rows p) ≡ (if b then split else was)) [
          | true ↦ λ e. is
          | false ↦ λ e. (
              let other : upper.page ≢ p = eqb-false upper.page p (neither (p0 == p) (upper.page == p) e) in
              stays (neither_first (p0 == p) (upper.page == p) e) (not_last other))
        ] refl

    records_cut : (p ≤ n → records_in rows base p ≡ open_records p bs)
        → records_in (rows ++ cut_row ∷ []) base p ≡ open_records p (joined bs (Delta p0 back (r ∷ [])) ++ Split p0 here upper ∷ [])
    records_cut was =
        by_cut (λ (o : Option Row). records_by o (open_records p base)) None (open_records p (joined bs (Delta p0 back (r ∷ [])))) refl
        (λ not within. was within ∙ sym (records_delta p p0 back r bs ∙ ap (λ (b : Bool). if b then Some count else open_records p bs) not))
        ∙ sym (records_split p p0 here upper (joined bs (Delta p0 back (r ∷ []))))

    opens_cut : (p ≤ n → open_in rows base p ≡ joins p bs)
        → open_in (rows ++ cut_row ∷ []) base p ≡ joins p (joined bs (Delta p0 back (r ∷ [])) ++ Split p0 here upper ∷ [])
    opens_cut was =
        by_cut (λ (o : Option Row). open_by o (joins p base)) None (joins p (joined bs (Delta p0 back (r ∷ [])))) refl
        (λ not within. was within ∙ sym (joins_delta p p0 back r bs
        ∙ ap (λ (b : Bool). if b then (if takes 1 (Some count) then Some (unwrap_or (joins p0 bs) (length bs)) else None) else joins p bs) not))
        ∙ sym (joins_split p p0 here upper (joined bs (Delta p0 back (r ∷ []))))

-- ---- all of it

-- the blocks of a record, from the upper part if there is one
pub planned_for_is : (m : ℕ) (leaves : List Leaf) (back here : Place) (r : Record)
    → planned (directed_at leaves r) back here r (upper_if m (length leaves + 1) (result_of leaves r)) ≡ blocks_for m leaves back here r
planned_for_is m leaves back here r =
    elim (nat_le (length (result_of leaves r).pairs) m) as
    (λ b. planned (directed_at leaves r) back here r (if b then None else Some (upper_of m (length leaves + 1) (result_of leaves r)))
    ≡ (if b then Delta (directed_at leaves r) back (r ∷ []) ∷ [] else Delta (directed_at leaves r) back (r ∷ []) ∷ Split (directed_at leaves r)
    here (upper_of m (length leaves + 1) (result_of leaves r)) ∷ [])) [ true ↦ refl | false ↦ refl ]

-- what is known of the places before it, and of those after it
pub record Knows (rows : List Row) (base : List Place) (blocks : List Block) (d : Drawn) : Type 0 where
  pub places : (p : ℕ) → 1 ≤ p → p ≤ length d.leaves → place_in rows base p ≡ slice_get d.newest (p - 1)
  pub opens : (p : ℕ) → 1 ≤ p → p ≤ length d.leaves → open_in rows blocks p ≡ joins p d.frame.blocks
  pub records : (p : ℕ) → 1 ≤ p → p ≤ length d.leaves → records_in rows blocks p ≡ open_records p d.frame.blocks

module _ (m : ℕ) (d : Drawn) (r : Record) (one : 1 ≤ m) (lawful : AreLeaves m d.leaves) (op : IsOp r) (count : length d.newest ≡ length d.leaves)
    (from : 1 ≤ directed_at d.leaves r) (within : directed_at d.leaves r ≤ length d.leaves) where
  abbrev p0 : ℕ
  p0 = directed_at d.leaves r

  abbrev here : Place
  here = here_for d.frame p0

  abbrev last : Place
  last = last_for d.frame p0

  abbrev upper : Leaf
  upper = upper_of m (length d.leaves + 1) (result_of d.leaves r)

  pub knows_more : (rows : List Row) (base : List Place) (blocks : List Block) → Knows rows base blocks d
      → Knows (rows ++ row_for m d r ∷ []) base blocks (drawn_by m d r)
  knows_more rows base blocks k =
      elim (nat_le (length (result_of d.leaves r).pairs) m) as (λ b.
      length (applied m d.leaves r) ≡ (if b then length d.leaves else length d.leaves + 1)
      → Knows (rows ++ row_by p0 here last (grown (open_records p0 d.frame.blocks) 1) (if b then None else Some upper) ∷ []) base blocks (record {
        leaves = applied m d.leaves r;
        newest = if b then set d.newest (p0 - 1) here else set d.newest (p0 - 1) last ++ last ∷ [];
        frame = record d.frame {
          blocks = added d.frame.blocks
              (if b then Delta p0 (back_in d r) (r ∷ []) ∷ [] else Delta p0 (back_in d r) (r ∷ []) ∷ Split p0 here upper ∷ []);
        };
      })) [
        | true ↦ λ long. record {
          places = λ p some top. places_set rows base d.newest p0 (grown (open_records p0 d.frame.blocks) 1) here from (omega arith) p some
              (k.places p some (omega arith));
          opens = λ p some top. opens_set rows blocks d.frame.blocks p0 (back_in d r) here last r p refl (k.opens p some (omega arith));
          records = λ p some top. records_set rows blocks d.frame.blocks p0 (back_in d r) here last r p (k.records p some (omega arith));
        }
        | false ↦ λ long. record {
          places = λ p some top. places_cut rows base d.newest p0 0 last from (omega arith) (length d.leaves + 1) p (omega arith) some (omega arith)
              (λ low. k.places p some (omega arith));
          opens = λ p some top. opens_cut rows blocks d.frame.blocks p0 (back_in d r) here last r upper (length d.leaves) p refl (omega arith)
              (λ low. k.opens p some low);
          records = λ p some top. records_cut rows blocks d.frame.blocks p0 (back_in d r) here last r upper (length d.leaves) p refl (omega arith)
              (λ low. k.records p some low);
        }
      ] (length-applied m d.leaves r one lawful op)

  -- how many blocks there are then
  pub count_more : length (drawn_by m d r).frame.blocks
      ≡ count_with (upper_if m (length d.leaves + 1) (result_of d.leaves r)) (count_after (joins p0 d.frame.blocks) (length d.frame.blocks))
  count_more =
      let delta : length (joined d.frame.blocks (Delta p0 (back_in d r) (r ∷ []))) ≡ count_after (joins p0 d.frame.blocks) (length d.frame.blocks) =
      ap (λ (x : Place). x.index) (delta_end [] d.frame p0 (back_in d r) r) in
      elim (nat_le (length (result_of d.leaves r).pairs) m) as (λ b.
      length (added d.frame.blocks (if b then Delta p0 (back_in d r) (r ∷ []) ∷ [] else Delta p0 (back_in d r) (r ∷ []) ∷ Split p0 here upper ∷ []))
      ≡ count_with (if b then None else Some upper) (count_after (joins p0 d.frame.blocks) (length d.frame.blocks))) [
        | true ↦ delta
        | false ↦ length-append (joined d.frame.blocks (Delta p0 (back_in d r) (r ∷ []))) (Split p0 here upper ∷ []) ∙ ap (λ (n : ℕ). n + 1) delta
      ]
