-- A Base that is the last block of all that touches its page is the page.

use Rattle.std.proofs.Common.{inl, inr, ◌≡◌, ℕ, ◌+◌, ◌<◌, Bool, false, if◌then◌else◌, Option, Some, None, IfSome, List, [], ◌∷◌, ◌++◌, length}
use Rattle.std.proofs.Common.{refl, sym, ap, subst, ◌∙◌, append_assoc, length-append, arith}
use Rattle.std.specs.List.{fold, list_any, AllByRecursion}
use Rattle.std.proofs.lemmas.Bool.{eq-eqb, cases_Bool, or_parts}
use Rattle.std.proofs.lemmas.Grind.{fold-append}
use Rattle.std.proofs.lemmas.List.Folds.{list_any-append}
use Rattle.bw_record.specs.Touch.{touches}
use Rattle.bw_record.specs.declared.leaf.Leaf.{Leaf}
use Rattle.bw_record.specs.declared.block.Place.{Place}
use Rattle.bw_record.specs.declared.block.Block.{Block}
use Rattle.bw_record.specs.declared.block.Block.TheVariants.{Base}
use Rattle.bw_record.specs.declared.block.Frame.{Frame}
use Rattle.bw_leaf.specs.Forwards.{after, content, blocks_of}
use Rattle.bw_log.specs.Places.{placed, all_placed, later, last_place, place_of}
use Rattle.bw_log.specs.Segments.{AreFrom}
use Rattle.bw_log.proofs.Entries.{all_append, all_mapped}
use Rattle.bw_log.proofs.GivenUp.{placed_more}
use Rattle.bw_log.proofs.Walk.{same_fold}
use Rattle.bw_log.proofs.Walks.{blocks_more}
use Rattle.bw_care.proofs.OldPages.{all_after, any_placed, any_all_placed, set_where}

-- ---- the places after a block

pub above : (k n : ℕ) (ys : List Frame) → AreFrom n ys → k < n → AllByRecursion (λ f. k < f.number) ys
above k n [] from less = tt
above k n (y ∷ ys) from less = (let is = from.0 in omega arith, above k (n + 1) ys from.1 (omega arith))

beyond_above : (n : ℕ) (fs : List Frame) (x : Frame) (xs : List Frame) → AreFrom n (fs ++ x ∷ xs) → AllByRecursion (λ f. x.number < f.number) xs
beyond_above n [] x xs from = above x.number (n + 1) xs from.1 (let is = from.0 in omega arith)
beyond_above n (f ∷ fs) x xs from = beyond_above (n + 1) fs x xs from.1

abbrev IsOther : Place → Place → Type 0
IsOther place q = q ≡ place → ⊥

other_after : (place : Place) (n i : ℕ) (bs : List Block) → place.index < i → AllByRecursion (λ x. IsOther place x.0) (placed n i bs)
other_after place n i [] less = tt
other_after place n i (b ∷ bs) less = (λ e. let same = ap (λ (q : Place). q.index) e in omega arith, other_after place n (i + 1) bs (omega arith))

other_beyond : (place : Place) (xs : List Frame) → AllByRecursion (λ f. place.frame < f.number) xs → AllByRecursion (λ x. IsOther place x.0) (all_placed xs)
other_beyond place xs are =
    all_mapped (λ (x : Place × Block). place.frame < x.0.frame) (λ (x : Place × Block). IsOther place x.0) (all_placed xs)
    (λ x less e. let same = ap (λ (q : Place). q.frame) e in omega arith) (all_after place.frame xs are)

placed_over : (n i : ℕ) (bs cs : List Block) → placed n i (bs ++ cs) ≡ placed n i bs ++ placed n (i + length bs) cs
placed_over n i [] cs = let e : i ≡ i + 0 = omega arith in ap (λ (k : ℕ). placed n k cs) e
placed_over n i (b ∷ bs) cs =
    let e : i + 1 + length bs ≡ i + length (b ∷ bs) = omega arith in
    let first : Place × Block = (record { frame = n; index = i }, b) in
    ap (λ (l : List (Place × Block)). first ∷ l) (placed_over n (i + 1) bs cs)
    ∙ ap (λ (k : ℕ). first ∷ (placed n (i + 1) bs ++ placed n k cs)) e

-- ---- none of them touches the page

none_behind : (p : ℕ) (place : Place) (xs ys : List (Place × Block)) → AllByRecursion (λ y. IsOther place y.0) ys
    → last_place (touches p) (xs ++ ys) ≡ Some place
    → list_any (λ y. touches p y.1) ys ≡ false
none_behind p place xs ys others is = elim (cases_Bool (list_any (λ y. touches p y.1) ys)) [
  | inl some ↦ absurd (subst (λ (o : Option Place). IfSome o (IsOther place)) (sym (fold-append (later (touches p)) None xs ys) ∙ is)
      (set_where (IsOther place) (touches p) (last_place (touches p) xs) ys others some) refl)
  | inr none ↦ none
]

-- a frame's blocks up to one of them, and those after
parted : (fs : List Frame) (x : Frame) (xs : List Frame) (bs cs : List Block) → x.blocks ≡ bs ++ cs
    → all_placed (fs ++ x ∷ xs) ≡ (all_placed fs ++ placed x.number 0 bs) ++ (placed x.number (0 + length bs) cs ++ all_placed xs)
parted fs x xs bs cs split =
    let one = placed x.number 0 bs in
    let two = placed x.number (0 + length bs) cs in
    placed_more fs (x ∷ xs)
    ∙ ap (λ (l : List (Place × Block)). all_placed fs ++ (l ++ all_placed xs)) (ap (placed x.number 0) split ∙ placed_over x.number 0 bs cs)
    ∙ ap (λ (l : List (Place × Block)). all_placed fs ++ l) (append_assoc one two (all_placed xs))
    ∙ sym (append_assoc (all_placed fs) one (two ++ all_placed xs))

base_last : (p : ℕ) (was : Option Leaf) (leaf : Leaf) (cs ds : List Block) → leaf.page ≡ p → list_any (touches p) cs ≡ false
    → list_any (touches p) ds ≡ false → fold (after p) (fold (after p) was (Base leaf ∷ cs)) ds ≡ Some leaf
base_last p was leaf cs ds is none none_later =
    same_fold p (fold (after p) was (Base leaf ∷ cs)) ds none_later
    ∙ same_fold p (after p was (Base leaf)) cs none
    ∙ ap (λ (t : Bool). if t then Some leaf else was) (eq-eqb leaf.page p is)

content_over : (p : ℕ) (fs : List Frame) (x : Frame) (xs : List Frame) (bs cs : List Block) → x.blocks ≡ bs ++ cs
    → content p (blocks_of (fs ++ x ∷ xs)) ≡ fold (after p) (fold (after p) (content p (blocks_of fs ++ bs)) cs) (blocks_of xs)
content_over p fs x xs bs cs split =
    ap (content p)
    (blocks_more fs (x ∷ xs) ∙ ap (λ (l : List Block). blocks_of fs ++ (l ++ blocks_of xs)) split ∙ ap (λ (l : List Block). blocks_of fs ++ l)
    (append_assoc bs cs (blocks_of xs)) ∙ sym (append_assoc (blocks_of fs) bs (cs ++ blocks_of xs)))
    ∙ fold-append (after p) None (blocks_of fs ++ bs) (cs ++ blocks_of xs)
    ∙ fold-append (after p) (content p (blocks_of fs ++ bs)) cs (blocks_of xs)

-- the page's last block is this Base, so it is the page
pub base_found : (n : ℕ) (fs : List Frame) (x : Frame) (xs : List Frame) (bs cs : List Block) (leaf : Leaf) → AreFrom n (fs ++ x ∷ xs)
    → x.blocks ≡ bs ++ Base leaf ∷ cs
    → place_of leaf.page (fs ++ x ∷ xs) ≡ Some (record { frame = x.number; index = length bs })
    → content leaf.page (blocks_of (fs ++ x ∷ xs)) ≡ Some leaf
base_found n fs x xs bs cs leaf from split last =
    let p = leaf.page in
    let place : Place = record { frame = x.number; index = length bs } in
    let upto = bs ++ Base leaf ∷ [] in
    let whole : x.blocks ≡ upto ++ cs = split ∙ sym (append_assoc bs (Base leaf ∷ []) cs) in
    let behind = placed x.number (0 + length upto) cs in
    let none : list_any (λ y. touches p y.1) (behind ++ all_placed xs) ≡ false =
    none_behind p place (all_placed fs ++ placed x.number 0 upto) (behind ++ all_placed xs)
    (all_append (λ (y : Place × Block). IsOther place y.0) behind (all_placed xs)
    (other_after place x.number (0 + length upto) cs (omega (arith, length-append bs (Base leaf ∷ []))))
    (other_beyond place xs (beyond_above n fs x xs from)))
    (ap (last_place (touches p)) (sym (parted fs x xs upto cs whole)) ∙ last) in
    let parts = or_parts (list_any (λ (y : Place × Block). touches p y.1) behind) (list_any (λ (y : Place × Block). touches p y.1) (all_placed xs))
    (sym (list_any-append (λ (y : Place × Block). touches p y.1) behind (all_placed xs)) ∙ none) in
    content_over p fs x xs bs (Base leaf ∷ cs) split
    ∙ base_last p (content p (blocks_of fs ++ bs)) leaf cs (blocks_of xs) refl
    (sym (any_placed (touches p) x.number (0 + length upto) cs) ∙ parts.0) (sym (any_all_placed (touches p) xs) ∙ parts.1)
