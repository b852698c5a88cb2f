-- The steps of a walk back over the blocks of a page: where it starts, goes on and ends.

use Rattle.std.proofs.Common.{inl, inr, ◌≡◌, ℕ, ◌+◌, ◌==◌, ◌||◌, true, false, Bool, Option, Some, None, List, [], ◌∷◌, ◌++◌, length, reverse, refl, sym, ap}
use Rattle.std.proofs.Common.{subst, ◌∙◌, append_assoc, append-nil, arith}
use Rattle.std.specs.List.{fold, list_any}
use Rattle.std.proofs.lemmas.List.{reverse-append}
use Rattle.std.proofs.lemmas.Bool.{and_parts, eqb-true}
use Rattle.std.proofs.lemmas.Grind.{fold-append, flat_map-append}
use Rattle.bw_record.specs.Touch.{sets, touches}
use Rattle.bw_record.specs.declared.leaf.Leaf.{Leaf}
use Rattle.bw_record.specs.declared.block.Place.{Place}
use Rattle.bw_record.specs.declared.block.Block.{Block}
use Rattle.bw_record.specs.declared.block.Frame.{Frame}
use Rattle.bw_leaf.specs.Forwards.{after, content, blocks_of}
use Rattle.bw_log.specs.Places.{all_placed, last_place, is_back, bad_link, first_number, AreLinked, place_of}
use Rattle.bw_log.specs.Segments.{AreFrom}
use Rattle.bw_log.specs.Walking.{first_back, bodies, IsWalk}
use Rattle.bw_log.proofs.Walk.{same_fold, none_after, forgets_after}
use Rattle.bw_log.proofs.Links.{bad_link-append, neither, frame_link}
use Rattle.bw_log.proofs.Placing.{IsEarlier, is_earlier, LastOf, HasLast, last_of, bodies_more, bodies_all}

-- ---- frames and their blocks

pub blocks_more : (xs ys : List Frame) → blocks_of (xs ++ ys) ≡ blocks_of xs ++ blocks_of ys
blocks_more xs ys = flat_map-append (λ (f : Frame). f.blocks) xs ys

pub content_more : (p : ℕ) (xs ys : List Frame) → content p (blocks_of (xs ++ ys)) ≡ fold (after p) (content p (blocks_of xs)) (blocks_of ys)
content_more p xs ys = ap (content p) (blocks_more xs ys) ∙ fold-append (after p) None (blocks_of xs) (blocks_of ys)

-- one frame more
pub content_push : (p : ℕ) (xs : List Frame) (f : Frame) → content p (blocks_of (xs ++ f ∷ [])) ≡ fold (after p) (content p (blocks_of xs)) f.blocks
content_push p xs f = content_more p xs (f ∷ []) ∙ ap (fold (after p) (content p (blocks_of xs))) (append-nil f.blocks)

-- frames beyond that do not touch the page
pub content_same : (p : ℕ) (xs ys : List Frame) → list_any (touches p) (blocks_of ys) ≡ false → content p (blocks_of (xs ++ ys)) ≡ content p (blocks_of xs)
content_same p xs ys none = content_more p xs ys ∙ same_fold p (content p (blocks_of xs)) (blocks_of ys) none

pub push_then : {A : Type 0} (xs : List A) (x : A) (ys : List A) → (xs ++ x ∷ []) ++ ys ≡ xs ++ x ∷ ys
push_then xs x ys = append_assoc xs (x ∷ []) ys

pub some_leaf : (o : Option Leaf) → (o ≡ None → ⊥) → (leaf : Leaf) × (o ≡ Some leaf)
some_leaf None is = absurd (is refl)
some_leaf (Some leaf) is = (leaf, refl)

pub none_some : {A : Type 0} (o : Option A) (x : A) → o ≡ None → o ≡ Some x → ⊥
none_some o x a b = cc

pub from_front : (n : ℕ) (xs ys : List Frame) → AreFrom n (xs ++ ys) → AreFrom n xs
from_front n [] ys are = tt
from_front n (x ∷ xs) ys are = (are.0, from_front (n + 1) xs ys are.1)

-- two splits at one index
pub same_before : {A : Type 0} (xs ys : List A) (x y : A) (xs' ys' : List A) → xs ++ x ∷ xs' ≡ ys ++ y ∷ ys' → length xs ≡ length ys
    → (xs ≡ ys) × (x ≡ y) × (xs' ≡ ys')
same_before [] [] x y xs' ys' same len = (refl, cc, cc)
same_before [] (b ∷ ys) x y xs' ys' same len = absurd (omega arith)
same_before (a ∷ xs) [] x y xs' ys' same len = absurd (omega arith)
same_before {A} (a ∷ xs) (b ∷ ys) x y xs' ys' same len =
    let heads : a ≡ b = cc in
    let tails : xs ++ x ∷ xs' ≡ ys ++ y ∷ ys' = cc in
    let others = same_before xs ys x y xs' ys' tails (omega arith) in
    (ap (λ (c : A). c ∷ xs) heads ∙ ap (λ (l : List A). b ∷ l) others.0, others.1, others.2)

-- ---- one block

pub content_one : (p : ℕ) (bs : List Block) (b : Block) → content p (bs ++ b ∷ []) ≡ after p (content p bs) b
content_one p bs b = fold-append (after p) None bs (b ∷ [])

-- what is read once the walk's block is read too
pub reads_one : {p : ℕ} {all : List (Place × Block)} {at : Place} {newer : List Block} (w : IsWalk p all at newer)
    → content p (bodies all) ≡ fold (after p) (content p (bodies w.stands.before)) (w.block ∷ reverse newer)
reads_one {p} {all} {at} {newer} w =
    w.reads ∙ ap (λ (o : Option Leaf). fold (after p) o (reverse newer)) (content_one p (bodies w.stands.before) w.block)

pub newest_last : (newer : List Block) (b : Block) → reverse (newer ++ b ∷ []) ≡ b ∷ reverse newer
newest_last newer b = reverse-append newer (b ∷ [])

-- a block that sets the page ends the walk
pub walk_ends : {p : ℕ} {all : List (Place × Block)} {at : Place} {newer : List Block} (w : IsWalk p all at newer) → sets p w.block ≡ true
    → content p (bodies all) ≡ fold (after p) None (reverse (newer ++ w.block ∷ []))
walk_ends {p} {all} {at} {newer} w set =
    reads_one w
    ∙ ap (λ (o : Option Leaf). fold (after p) o (reverse newer)) (forgets_after p (content p (bodies w.stands.before)) None w.block set)
    ∙ ap (fold (after p) None) (sym (newest_last newer w.block))

-- blocks up to the last that touches the page are what all are
older_same : (p : ℕ) (xs : List (Place × Block)) (place : Place) (l : LastOf (touches p) xs place)
    → content p (bodies xs) ≡ content p (bodies l.stands.before ++ l.block ∷ [])
older_same p xs place l =
    let before = bodies l.stands.before in
    let beyond = bodies l.stands.beyond in
    ap (λ (ys : List (Place × Block)). content p (bodies ys)) l.stands.split
    ∙ ap (content p) (bodies_more l.stands.before ((place, l.block) ∷ l.stands.beyond) ∙ sym (append_assoc before (l.block ∷ []) beyond))
    ∙ fold-append (after p) None (before ++ l.block ∷ []) beyond
    ∙ same_fold p (content p (before ++ l.block ∷ [])) beyond l.none

-- where a block's link leads
pub record WalksOn (p : ℕ) (all : List (Place × Block)) (at : Place) (newer : List Block) (block : Block) (result : Option Place) : Type 0 where
  pub back : Place
  pub is : result ≡ Some back
  pub earlier : IsEarlier back at
  pub walk : IsWalk p all back (newer ++ block ∷ [])

same_place : (a b : Place) → a.frame ≡ b.frame → a.index ≡ b.index → a ≡ b
same_place a b frames indices =
    ap (λ (n : ℕ). let x : Place = record { frame = n; index = a.index } in x) frames
    ∙ ap (λ (i : ℕ). let x : Place = record { frame = b.frame; index = i } in x) indices

goes_on_to : (frames : List Frame) {p : ℕ} {at : Place} {newer : List Block} (w : IsWalk p (all_placed frames) at newer) (result : Option Place)
    (back place : Place)
    → result ≡ Some back → place ≡ back → LastOf (touches p) w.stands.before place → AreFrom (first_number frames) frames → sets p w.block ≡ false
    → WalksOn p (all_placed frames) at newer w.block result
goes_on_to frames {p} {at} {newer} w result back place is same l from unset =
    let s = w.stands in
    let older = older_same p s.before place l in
    let whole : after p (content p (bodies s.before)) w.block ≡ Some w.leaf = sym (content_one p (bodies s.before) w.block) ∙ w.set in
    let there = some_leaf (content p (bodies s.before))
    (λ none. none_some (after p (content p (bodies s.before)) w.block) w.leaf
    (ap (λ (o : Option Leaf). after p o w.block) none ∙ none_after p w.block unset) whole) in
    let on : WalksOn p (all_placed frames) at newer w.block (Some place) = record {
      back = place;
      is = refl;
      earlier = is_earlier (first_number frames) frames s.before l.stands.before place l.block l.stands.beyond at w.block s.beyond from s.split l.stands.split;
      walk = record {
        block = l.block;
        stands = record {
          before = l.stands.before;
          beyond = l.stands.beyond ++ (at, w.block) ∷ s.beyond;
          split = s.split ∙ ap (λ (xs : List (Place × Block)). xs ++ (at, w.block) ∷ s.beyond) l.stands.split
              ∙ append_assoc l.stands.before ((place, l.block) ∷ l.stands.beyond) ((at, w.block) ∷ s.beyond);
        };
        touched = l.passes;
        leaf = there.0;
        set = sym older ∙ there.1;
        reads = reads_one w
            ∙ ap (λ (o : Option Leaf). fold (after p) o (w.block ∷ reverse newer)) older
            ∙ ap (fold (after p) (content p (bodies l.stands.before ++ l.block ∷ []))) (sym (newest_last newer w.block));
      };
    } in
    subst (WalksOn p (all_placed frames) at newer w.block) (ap (λ (x : Place). Some x) same ∙ sym is) on

goes_on_by : (frames : List Frame) {p : ℕ} {at : Place} {newer : List Block} (w : IsWalk p (all_placed frames) at newer) (result : Option Place) (back : Place)
    → result ≡ Some back → is_back (first_number frames) (last_place (touches p) w.stands.before) back ≡ true
    → AreFrom (first_number frames) frames → sets p w.block ≡ false
    → HasLast (touches p) None w.stands.before (last_place (touches p) w.stands.before) → WalksOn p (all_placed frames) at newer w.block result
goes_on_by frames {p} {at} {newer} w result back is lawful from unset (inl nowhere) =
    let none : content p (bodies w.stands.before ++ w.block ∷ []) ≡ None =
    content_one p (bodies w.stands.before) w.block ∙ ap (λ (o : Option Leaf). after p o w.block) (same_fold p None (bodies w.stands.before) nowhere.0)
    ∙ none_after p w.block unset in
    absurd (none_some (content p (bodies w.stands.before ++ w.block ∷ [])) w.leaf none w.set)
goes_on_by frames {p} {at} {newer} w result back is lawful from unset (inr found) =
    let same = subst (λ (o : Option Place). is_back (first_number frames) o back ≡ true) found.1 lawful in
    let both = and_parts (found.0.frame == back.frame) (found.0.index == back.index) same in
    goes_on_to frames w result back found.0 is
    (same_place found.0 back (eqb-true found.0.frame back.frame both.0) (eqb-true found.0.index back.index both.1)) found.2 from unset

-- a block that does not set the page links back to the block before it
pub walk_on : (frames : List Frame) {p : ℕ} {at : Place} {newer : List Block} (w : IsWalk p (all_placed frames) at newer)
    → AreFrom (first_number frames) frames → AreLinked frames → sets p w.block ≡ false
    → WalksOn p (all_placed frames) at newer w.block (first_back p (w.block ∷ []))
walk_on frames {p} {at} {newer} w from linked unset =
    let s = w.stands in
    let first = first_number frames in
    let x : Place × Block = (at, w.block) in
    let two = neither (bad_link first [] s.before) (bad_link first s.before (x ∷ s.beyond))
    (sym (bad_link-append first [] s.before (x ∷ s.beyond)) ∙ ap (bad_link first []) (sym s.split) ∙ linked) in
    let one = neither (bad_link first s.before (x ∷ [])) (bad_link first (s.before ++ x ∷ []) s.beyond)
    (sym (bad_link-append first s.before (x ∷ []) s.beyond) ∙ two.1) in
    let link = frame_link p first at.frame at.index s.before (w.block ∷ []) one.0
    (ap (λ (t : Bool). t || false) w.touched) (ap (λ (t : Bool). t || false) unset) in
    goes_on_by frames w (first_back p (w.block ∷ [])) link.0 link.1 link.2 from unset (last_of (touches p) None s.before)

-- ---- where a walk starts

starts_by : (p : ℕ) (frames : List Frame) (leaf : Leaf) (result : Option Place) → content p (bodies (all_placed frames)) ≡ Some leaf
    → HasLast (touches p) None (all_placed frames) result → (place : Place) × (result ≡ Some place) × IsWalk p (all_placed frames) place []
starts_by p frames leaf result set (inl nowhere) =
    absurd (none_some (content p (bodies (all_placed frames))) leaf (same_fold p None (bodies (all_placed frames)) nowhere.0) set)
starts_by p frames leaf result set (inr found) =
    let l = found.2 in
    let older = older_same p (all_placed frames) found.0 l in (
      found.0,
      found.1,
      record { block = l.block; stands = l.stands; touched = l.passes; leaf = leaf; set = sym older ∙ set; reads = older },
    )

-- at the last block that touches the page
pub walk_starts : (p : ℕ) (frames : List Frame) (leaf : Leaf) → content p (blocks_of frames) ≡ Some leaf
    → (place : Place) × (place_of p frames ≡ Some place) × IsWalk p (all_placed frames) place []
walk_starts p frames leaf set =
    starts_by p frames leaf (place_of p frames) (ap (content p) (bodies_all frames) ∙ set) (last_of (touches p) None (all_placed frames))
