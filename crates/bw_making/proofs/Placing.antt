-- Links and newest places, if a record's blocks are added to the frame in the making.

use Rattle.std.proofs.Common.{◌≡◌, ◌≢◌, ℕ, zero, suc, ◌+◌, ◌-◌, ◌<◌, ◌≤◌, Bool, true, false, Option, Some, None, List, [], ◌∷◌, ◌++◌, length, set}
use Rattle.std.proofs.Common.{refl, sym, ap, ◌∙◌, subst, append_assoc, append-nil, arith, if◌then◌else◌, length-append, length-set}
use Rattle.std.specs.Prelude.{◌==◌, ◌||◌, unwrap_or}
use Rattle.std.specs.List.{fold, list_any, slice_get}
use Rattle.std.proofs.lemmas.Bool.{eqb-true, eqb-false, eq-eqb, or_parts}
use Rattle.std.proofs.lemmas.Grind.{fold-append, flat_map-append}
use Rattle.bw_record.specs.Touch.{touches}
use Rattle.bw_record.specs.declared.record.Record.{Record}
use Rattle.bw_record.specs.declared.leaf.Leaf.{Leaf}
use Rattle.bw_record.specs.declared.block.Place.{Place}
use Rattle.bw_record.specs.declared.block.Block.{Block}
use Rattle.bw_record.specs.declared.block.Block.TheVariants.{Delta, Base, Split}
use Rattle.bw_record.specs.declared.block.Frame.{Frame}
use Rattle.bw_buffer.specs.Joining.{joins, with_ops, ops_added, joined_by}
use Rattle.bw_buffer.proofs.Joined.{StandsOpen, found, joins_parts}
use Rattle.bw_log.specs.Places.{placed, all_placed, later, last_place, place_of, is_place, is_back, fault_at, fault_of, or_else, bad_link}
use Rattle.bw_log.specs.Places.{first_number, AreLinked}
use Rattle.bw_log.proofs.Links.{bad_link-append}
use Rattle.bw_making.specs.Adding.{with_blocks, end_of, count_after, here_for, last_for}

-- ---- lists

pub set_same : {X : Type 0} (xs : List X) (i : ℕ) (x : X) → i < length xs → slice_get (set xs i x) i ≡ Some x
set_same [] i x h = absurd (omega arith)
set_same (y ∷ ys) zero x h = refl
set_same (y ∷ ys) (suc i) x h = set_same ys i x (omega arith)

pub set_other : {X : Type 0} (xs : List X) (i j : ℕ) (x : X) → i ≢ j → slice_get (set xs i x) j ≡ slice_get xs j
set_other [] i j x ne = refl
set_other (y ∷ ys) zero zero x ne = absurd (ne refl)
set_other (y ∷ ys) zero (suc j) x ne = refl
set_other (y ∷ ys) (suc i) zero x ne = refl
set_other (y ∷ ys) (suc i) (suc j) x ne = set_other ys i j x (λ e. ne (ap suc e))

pub push_old : {X : Type 0} (xs : List X) (j : ℕ) (x : X) → j ≢ length xs → slice_get (xs ++ x ∷ []) j ≡ slice_get xs j
push_old [] zero x ne = absurd (ne refl)
push_old [] (suc j) x ne = refl
push_old (y ∷ ys) zero x ne = refl
push_old (y ∷ ys) (suc j) x ne = push_old ys j x (λ e. ne (ap suc e))

pub push_new : {X : Type 0} (xs : List X) (j : ℕ) (x : X) → j ≡ length xs → slice_get (xs ++ x ∷ []) j ≡ Some x
push_new [] zero x e = refl
push_new [] (suc j) x e = absurd (omega arith)
push_new (y ∷ ys) zero x e = absurd (omega arith)
push_new (y ∷ ys) (suc j) x e = push_new ys j x (omega arith)

-- ---- placed blocks

-- a frame with blocks after all others
abbrev behind : Frame → List Block → Frame
behind f bs = record f { blocks = f.blocks ++ bs }

placed_more : (n i : ℕ) (xs ys : List Block) → placed n i (xs ++ ys) ≡ placed n i xs ++ placed n (i + length xs) ys
placed_more n i [] ys = ap (λ k. placed n k ys) (omega arith)
placed_more n i (x ∷ xs) ys =
    let p : Place = record { frame = n; index = i } in
    ap (λ (l : List (Place × Block)). (p, x) ∷ l) (placed_more n (i + 1) xs ys ∙ ap (λ k. placed n (i + 1) xs ++ placed n k ys) (omega arith))

pub placed_push : (fs : List Frame) (f : Frame) → all_placed (fs ++ f ∷ []) ≡ all_placed fs ++ placed f.number 0 f.blocks
placed_push fs f =
    flat_map-append (λ (x : Frame). placed x.number 0 x.blocks) fs (f ∷ [])
    ∙ ap (λ (l : List (Place × Block)). all_placed fs ++ l) (append-nil (placed f.number 0 f.blocks))

placed_behind : (fs : List Frame) (f : Frame) (bs : List Block)
    → all_placed (fs ++ behind f bs ∷ []) ≡ all_placed (fs ++ f ∷ []) ++ placed f.number (length f.blocks) bs
placed_behind fs f bs =
    placed_push fs (behind f bs)
    ∙ ap (λ (l : List (Place × Block)). all_placed fs ++ l) (placed_more f.number 0 f.blocks bs
    ∙ ap (λ k. placed f.number 0 f.blocks ++ placed f.number k bs) (omega arith))
    ∙ sym (append_assoc (all_placed fs) (placed f.number 0 f.blocks) (placed f.number (length f.blocks) bs))
    ∙ ap (λ (l : List (Place × Block)). l ++ placed f.number (length f.blocks) bs) (sym (placed_push fs f))

-- the first number is that of the same frame, whatever blocks the last has
first_same : (fs : List Frame) (f : Frame) (blocks : List Block) → first_number (fs ++ record f { blocks = blocks } ∷ []) ≡ first_number (fs ++ f ∷ [])
first_same [] f blocks = refl
first_same (x ∷ xs) f blocks = refl

place_behind : (p : ℕ) (fs : List Frame) (f : Frame) (bs : List Block)
    → place_of p (fs ++ behind f bs ∷ []) ≡ fold (later (touches p)) (place_of p (fs ++ f ∷ [])) (placed f.number (length f.blocks) bs)
place_behind p fs f bs = ap (last_place (touches p)) (placed_behind fs f bs)
    ∙ fold-append (later (touches p)) None (all_placed (fs ++ f ∷ [])) (placed f.number (length f.blocks) bs)

linked_behind : (fs : List Frame) (f : Frame) (bs : List Block) → AreLinked (fs ++ f ∷ [])
    → bad_link (first_number (fs ++ f ∷ [])) (all_placed (fs ++ f ∷ [])) (placed f.number (length f.blocks) bs) ≡ None → AreLinked (fs ++ behind f bs ∷ [])
linked_behind fs f bs old new =
    let first = first_number (fs ++ f ∷ []) in
    ap (λ n. bad_link n [] (all_placed (fs ++ behind f bs ∷ []))) (first_same fs f (f.blocks ++ bs))
    ∙ ap (bad_link first []) (placed_behind fs f bs)
    ∙ bad_link-append first [] (all_placed (fs ++ f ∷ [])) (placed f.number (length f.blocks) bs)
    ∙ ap (λ (o : Option ℕ). or_else o (bad_link first (all_placed (fs ++ f ∷ [])) (placed f.number (length f.blocks) bs))) old
    ∙ new

-- ---- more records in a Delta change no place and no link

more_touches : (q : ℕ) (ops : List Record) (b : Block) → touches q (with_ops ops b) ≡ touches q b
more_touches q ops (Delta page back was) = refl
more_touches q ops (Base leaf) = refl
more_touches q ops (Split page back upper) = refl

more_fault : (first : ℕ) (before : List (Place × Block)) (ops : List Record) (b : Block) → fault_of first before (with_ops ops b) ≡ fault_of first before b
more_fault first before ops (Delta page back was) = refl
more_fault first before ops (Base leaf) = refl
more_fault first before ops (Split page back upper) = refl

more_places : (q n k i : ℕ) (ops : List Record) (bs : List Block) (was : Option Place)
    → fold (later (touches q)) was (placed n k (ops_added i ops bs)) ≡ fold (later (touches q)) was (placed n k bs)
more_places q n k i ops [] was = refl
more_places q n k zero ops (b ∷ bs) was =
    let p : Place = record { frame = n; index = k } in
    ap (λ (t : Bool). fold (later (touches q)) (if t then Some p else was) (placed n (k + 1) bs)) (more_touches q ops b)
more_places q n k (suc i) ops (b ∷ bs) was = more_places q n (k + 1) i ops bs (later (touches q) was (record { frame = n; index = k }, b))

-- blocks before that have the same last place of each page
links_alike : (first : ℕ) (before other xs : List (Place × Block)) → ((q : ℕ) → last_place (touches q) before ≡ last_place (touches q) other)
    → bad_link first before xs ≡ bad_link first other xs
links_alike first before other [] same = refl
links_alike first before other (x ∷ xs) same =
    ap (λ (o : Option ℕ). or_else o (bad_link first (before ++ x ∷ []) xs)) (fault_alike x.1)
    ∙ ap (or_else (fault_of first other x.1)) (links_alike first (before ++ x ∷ []) (other ++ x ∷ []) xs (λ q.
    fold-append (later (touches q)) None before (x ∷ []) ∙ ap (λ (o : Option Place). later (touches q) o x) (same q)
    ∙ sym (fold-append (later (touches q)) None other (x ∷ []))))
  where
    at_alike : (page : ℕ) (back : Place) → fault_at first before page back ≡ fault_at first other page back
    at_alike page back = ap (λ (o : Option Place). if is_back first o back then None else Some page) (same page)

    fault_alike : (b : Block) → fault_of first before b ≡ fault_of first other b
    fault_alike (Delta page back ops) = at_alike page back
    fault_alike (Base leaf) = refl
    fault_alike (Split page back upper) = at_alike page back

more_links : (first : ℕ) (before : List (Place × Block)) (n k i : ℕ) (ops : List Record) (bs : List Block)
    → bad_link first before (placed n k (ops_added i ops bs)) ≡ bad_link first before (placed n k bs)
more_links first before n k i ops [] = refl
more_links first before n k zero ops (b ∷ bs) =
    let p : Place = record { frame = n; index = k } in
    let old : Place × Block = (p, b) in
    let new : Place × Block = (p, with_ops ops b) in
    ap (λ (o : Option ℕ). or_else o (bad_link first (before ++ new ∷ []) (placed n (k + 1) bs))) (more_fault first before ops b)
    ∙ ap (or_else (fault_of first before b)) (links_alike first (before ++ new ∷ []) (before ++ old ∷ []) (placed n (k + 1) bs) (λ q.
    fold-append (later (touches q)) None before (new ∷ [])
    ∙ ap (λ (t : Bool). if t then Some p else last_place (touches q) before) (more_touches q ops b)
    ∙ sym (fold-append (later (touches q)) None before (old ∷ []))))
more_links first before n k (suc i) ops (b ∷ bs) =
    let x : Place × Block = (record { frame = n; index = k }, b) in
    ap (or_else (fault_of first before b)) (more_links first (before ++ x ∷ []) n (k + 1) i ops bs)

module _ (fs : List Frame) (f : Frame) (i : ℕ) (ops : List Record) where
  place_more : (q : ℕ) → place_of q (fs ++ record f { blocks = ops_added i ops f.blocks } ∷ []) ≡ place_of q (fs ++ f ∷ [])
  place_more q =
      ap (last_place (touches q)) (placed_push fs (record f { blocks = ops_added i ops f.blocks }))
      ∙ fold-append (later (touches q)) None (all_placed fs) (placed f.number 0 (ops_added i ops f.blocks))
      ∙ more_places q f.number 0 i ops f.blocks (last_place (touches q) (all_placed fs))
      ∙ sym (ap (last_place (touches q)) (placed_push fs f) ∙ fold-append (later (touches q)) None (all_placed fs) (placed f.number 0 f.blocks))

  linked_more : AreLinked (fs ++ f ∷ []) → AreLinked (fs ++ record f { blocks = ops_added i ops f.blocks } ∷ [])
  linked_more old =
      let first = first_number (fs ++ f ∷ []) in
      ap (λ n. bad_link n [] (all_placed (fs ++ record f { blocks = ops_added i ops f.blocks } ∷ []))) (first_same fs f (ops_added i ops f.blocks))
      ∙ ap (bad_link first []) (placed_push fs (record f { blocks = ops_added i ops f.blocks }))
      ∙ bad_link-append first [] (all_placed fs) (placed f.number 0 (ops_added i ops f.blocks))
      ∙ ap (or_else (bad_link first [] (all_placed fs))) (more_links first (all_placed fs) f.number 0 i ops f.blocks)
      ∙ sym (bad_link-append first [] (all_placed fs) (placed f.number 0 f.blocks))
      ∙ ap (bad_link first []) (sym (placed_push fs f))
      ∙ old

-- ---- the Delta that is joined is the last block of its page

quiet_places : (test : Block → Bool) (n k : ℕ) (was : Option Place) (bs : List Block) → list_any test bs ≡ false → fold (later test) was (placed n k bs) ≡ was
quiet_places test n k was [] e = refl
quiet_places test n k was (b ∷ bs) e =
    (let parts = or_parts (test b) (list_any test bs) e in
    let p : Place = record { frame = n; index = k } in
    ap (λ (t : Bool). fold (later test) (if t then Some p else was) (placed n (k + 1) bs)) parts.0 ∙ quiet_places test n (k + 1) was bs parts.1)

open_place : (p n i : ℕ) (was : Option Place) (bs : List Block) → StandsOpen p i bs
    → fold (later (touches p)) was (placed n 0 bs) ≡ Some (record { frame = n; index = i })
open_place p n i was bs s =
    let delta = Delta p s.back s.was in
    let k = 0 + length s.before in
    let at : Place = record { frame = n; index = k } in
    let front = fold (later (touches p)) was (placed n 0 s.before) in
    ap (λ (l : List Block). fold (later (touches p)) was (placed n 0 l)) s.split
    ∙ ap (fold (later (touches p)) was) (placed_more n 0 s.before (delta ∷ s.behind))
    ∙ fold-append (later (touches p)) was (placed n 0 s.before) (placed n k (delta ∷ s.behind))
    ∙ ap (λ (t : Bool). fold (later (touches p)) (if t then Some at else front) (placed n (k + 1) s.behind)) (eq-eqb p p refl)
    ∙ quiet_places (touches p) n (k + 1) (Some at) s.behind s.quiet
    ∙ ap (λ (j : ℕ). Some (at_index n j)) (let e = s.index in omega arith)
  where
    at_index : ℕ → ℕ → Place
    at_index n j = record { frame = n; index = j }

joined_place : (p : ℕ) (fs : List Frame) (f : Frame) (i : ℕ) → joins p f.blocks ≡ Some i
    → place_of p (fs ++ f ∷ []) ≡ Some (record { frame = f.number; index = i })
joined_place p fs f i e =
    ap (last_place (touches p)) (placed_push fs f)
    ∙ fold-append (later (touches p)) None (all_placed fs) (placed f.number 0 f.blocks)
    ∙ open_place p f.number i (last_place (touches p) (all_placed fs)) f.blocks (found p f.blocks i (joins_parts 1 p i f.blocks e).0)

-- ---- a record's Delta

same_place : (a : Place) → is_place a a ≡ true
same_place a = rw (eq-eqb a.frame a.frame refl) (rw (eq-eqb a.index a.index refl) refl)

links_back : (first : ℕ) (before : List (Place × Block)) (p : ℕ) (back : Place) → last_place (touches p) before ≡ Some back
    → fault_at first before p back ≡ None
links_back first before p back e =
    ap (λ (o : Option Place). if is_back first o back then None else Some p) e
    ∙ ap (λ (b : Bool). if b then None else Some p) (same_place back)

module _ (fs : List Frame) (f : Frame) (p : ℕ) (back : Place) (r : Record) where
  abbrev ops : List Record
  ops = r ∷ []

  pub delta_linked : AreLinked (fs ++ f ∷ []) → place_of p (fs ++ f ∷ []) ≡ Some back → AreLinked (fs ++ with_blocks f (Delta p back ops ∷ []) ∷ [])
  delta_linked old last =
      elim (joins p f.blocks) as (λ o. AreLinked (fs ++ record f { blocks = joined_by o ops (Delta p back ops) f.blocks } ∷ [])) [
        | None ↦ linked_behind fs f (Delta p back ops ∷ []) old
            (ap (λ (o : Option ℕ). or_else o None) (links_back (first_number (fs ++ f ∷ [])) (all_placed (fs ++ f ∷ [])) p back last))
        | Some i ↦ linked_more fs f i ops old
      ]

  pub delta_place : (q : ℕ) → place_of q (fs ++ with_blocks f (Delta p back ops ∷ []) ∷ []) ≡
      (if p == q then Some (here_for f p) else place_of q (fs ++ f ∷ []))
  delta_place q =
      let at : ℕ → Place = λ n. record { frame = f.number; index = n } in
      elim (joins p f.blocks) as (λ o. joins p f.blocks ≡ o → place_of q (fs ++ record f { blocks = joined_by o ops (Delta p back ops) f.blocks } ∷ [])
      ≡ (if p == q then Some (at (unwrap_or o (length f.blocks))) else place_of q (fs ++ f ∷ []))) [
        | None ↦ λ e. place_behind q fs f (Delta p back ops ∷ [])
        | Some i ↦ λ e. place_more fs f i ops q
            ∙ elim (p == q) as (λ t. (p == q) ≡ t → place_of q (fs ++ f ∷ []) ≡ (if t then Some (at i) else place_of q (fs ++ f ∷ []))) [
              | true ↦ λ same. subst (λ (n : ℕ). place_of n (fs ++ f ∷ []) ≡ Some (at i)) (eqb-true p q same) (joined_place p fs f i e)
              | false ↦ λ other. refl
            ] refl
      ] refl

  -- the frame then ends where the Split goes
  pub delta_end : end_of (with_blocks f (Delta p back ops ∷ [])) ≡ last_for f p
  delta_end =
      let at : ℕ → Place = λ n. record { frame = f.number; index = n } in
      elim (joins p f.blocks) as (λ o. at (length (joined_by o ops (Delta p back ops) f.blocks)) ≡ at (count_after o (length f.blocks))) [
        | None ↦ ap at (length-append f.blocks (Delta p back ops ∷ []))
        | Some i ↦ ap at (length_more i f.blocks)
      ]
    where
      length_more : (i : ℕ) (bs : List Block) → length (ops_added i ops bs) ≡ length bs
      length_more i [] = refl
      length_more zero (b ∷ bs) = refl
      length_more (suc i) (b ∷ bs) = ap suc (length_more i bs)

-- ---- its Split

module _ (fs : List Frame) (f : Frame) (p : ℕ) (here : Place) (upper : Leaf) where
  pub split_linked : AreLinked (fs ++ f ∷ []) → place_of p (fs ++ f ∷ []) ≡ Some here → AreLinked (fs ++ with_blocks f (Split p here upper ∷ []) ∷ [])
  split_linked old last =
      linked_behind fs f (Split p here upper ∷ []) old
      (ap (λ (o : Option ℕ). or_else o None) (links_back (first_number (fs ++ f ∷ [])) (all_placed (fs ++ f ∷ [])) p here last))

  pub split_place : (q : ℕ) → place_of q (fs ++ with_blocks f (Split p here upper ∷ []) ∷ [])
      ≡ (if (p == q) || (upper.page == q) then Some (end_of f) else place_of q (fs ++ f ∷ []))
  split_place q = place_behind q fs f (Split p here upper ∷ [])

-- ---- newest places

-- of a page that is there
pub set_newest : (newest : List Place) (p q : ℕ) (x : Place) → 1 ≤ p → p ≤ length newest → 1 ≤ q
    → slice_get (set newest (p - 1) x) (q - 1) ≡ (if p == q then Some x else slice_get newest (q - 1))
set_newest newest p q x from within some =
    elim (p == q) as (λ b. (p == q) ≡ b → slice_get (set newest (p - 1) x) (q - 1) ≡ (if b then Some x else slice_get newest (q - 1))) [
      | true ↦ λ e. (let same : p ≡ q = eqb-true p q e in ap (λ k. slice_get (set newest (p - 1) x) (k - 1)) (sym same)
          ∙ set_same newest (p - 1) x (omega arith))
      | false ↦ λ e. set_other newest (p - 1) (q - 1) x (λ same. eqb-false p q e (omega arith))
    ] refl

-- of that page and of one after all others
pub push_newest : (newest : List Place) (p u q : ℕ) (x : Place) → 1 ≤ p → p ≤ length newest → u ≡ length newest + 1 → 1 ≤ q
    → slice_get (set newest (p - 1) x ++ x ∷ []) (q - 1) ≡ (if (p == q) || (u == q) then Some x else slice_get newest (q - 1))
push_newest newest p u q x from within page some =
    let long = length-set newest (p - 1) x in
    elim (u == q) as (λ b. (u == q) ≡ b → slice_get (set newest (p - 1) x ++ x ∷ []) (q - 1) ≡ (if (p == q) || b then Some x else slice_get newest (q - 1))) [
      | true ↦ λ e. (let same : u ≡ q = eqb-true u q e in
          push_new (set newest (p - 1) x) (q - 1) x (omega arith)
          ∙ sym (elim (p == q) as (λ b. (if b || true then Some x else slice_get newest (q - 1)) ≡ Some x) [ true ↦ refl | false ↦ refl ]))
      | false ↦ λ e. (let other : q - 1 ≢ length (set newest (p - 1) x) = λ same. eqb-false u q e (omega arith) in
          push_old (set newest (p - 1) x) (q - 1) x other
          ∙ set_newest newest p q x from within some
          ∙ elim (p == q) as (λ b. (if b then Some x else slice_get newest (q - 1)) ≡ (if b || false then Some x else slice_get newest (q - 1)))
          [ true ↦ refl | false ↦ refl ])
    ] refl
