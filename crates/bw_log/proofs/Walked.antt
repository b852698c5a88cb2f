-- A walk and the table of places, on a log.

use Rattle.std.proofs.Common.{inl, inr, ◌≡◌, ℕ, zero, suc, ◌+◌, ◌*◌, ◌-◌, ◌<◌, ◌≤◌, ◌==◌, Bool, true, false, if◌then◌else◌, Option, Some, None}
use Rattle.std.proofs.Common.{Result, Ok, Err, IsErrAnd, List, []}
use Rattle.std.proofs.Common.{◌∷◌, ◌++◌, length, get_or, slice_get, reverse, refl, sym, ap, subst, ◌∙◌, arith, length-append}
use Rattle.std.specs.List.{fold, list_any}
use Rattle.std.proofs.lemmas.Bool.{eqb-true, or_left, or_right}
use Rattle.bw_record.specs.Touch.{sets, touches}
use Rattle.bw_record.specs.declared.leaf.Leaf.{Leaf}
use Rattle.bw_record.specs.declared.block.Place.{Place}
use Rattle.bw_record.specs.declared.block.Block.{Block}
use Rattle.bw_record.specs.declared.block.Frame.{Frame}
use Rattle.bw_page.specs.Leaves.{leaf_at}
use Rattle.bw_leaf.specs.Forwards.{after, content, blocks_of}
use Rattle.bw_log.specs.Places.{all_placed, first_number}
use Rattle.bw_log.specs.Contents.{Contents, image, counted, entry_place, place_in, IsSound, IsStanding}
use Rattle.bw_log.specs.Walking.{first_back, PlacedAt, IsPlace, IsWalk}
use Rattle.bw_log.specs.Reads.{IsLineIn, HoldsPage, StopsAt, ReadStops}
use Rattle.bw_log.specs.BlockBytes.{BlockAt}
use Rattle.bw_log.specs.declared.fault.LogFault.{LogFault}
use Rattle.bw_log.specs.declared.fault.LogFault.TheVariants.{NoPage}
use Rattle.bw_log.specs.declared.places.FrameAt.{FrameAt}
use Rattle.bw_log.specs.declared.places.PageAt.{PageAt}
use Rattle.bw_log.proofs.Entries.{listed_length}
use Rattle.bw_log.proofs.Fetched.{boxed_line, stops_since}
use Rattle.bw_log.proofs.Placing.{InFrames, in_frames, IsEarlier, bodies_all}
use Rattle.bw_log.proofs.Walks.{WalksOn, walk_on, walk_ends, walk_starts}
use Rattle.bw_log.proofs.Asked.{page_there}

-- ---- the first line

front_number : (all before beyond : List Frame) (frame : Frame) → all ≡ before ++ frame ∷ beyond → length before ≡ 0 → first_number all ≡ frame.number
front_number all [] beyond frame split none = ap first_number split
front_number all (x ∷ before) beyond frame split none = absurd (omega arith)

-- the first line has the first number
pub first_is : (c : Contents) (line : FrameAt) → IsSound c → 0 < length c.frames → line ≡ get_or c.frames 0 line → line.number ≡ first_number (counted c)
first_is c line sound some is =
    let l = boxed_line c 0 line sound some is in
    l.numbered ∙ sym (front_number (counted c) l.stands.before l.stands.beyond l.frame l.stands.split l.stands.index)

-- ---- the walk

-- the frame in which a block of the counted ones stands
pub in_counted : {c : Contents} {place : Place} {b : Block} → IsSound c → PlacedAt (all_placed (counted c)) place b
    → InFrames (first_number (counted c)) (counted c) place b
in_counted {c} {place} {b} sound s = in_frames (first_number (counted c)) (counted c) s.before place b s.beyond sound.holds.numbered s.split

-- the frame in which a block stands, by the index of its line
pub record Numbered (c : Contents) (first : ℕ) (place : Place) (b : Block) : Type 0 where
  pub from_first : first ≤ place.frame
  pub inside : place.frame - first < length c.frames
  pub stands : BlockAt (counted c) (place.frame - first) place.index b

pub numbered_by : {c : Contents} {place : Place} {b : Block} (first : ℕ) → first ≡ first_number (counted c) → IsSound c
    → PlacedAt (all_placed (counted c)) place b → Numbered c first place b
numbered_by {c} {place} {b} first is sound s =
    let i = in_counted sound s in
    let number = i.at.number in
    let own : Numbered c (first_number (counted c)) place b = record {
      from_first = omega arith;
      inside = omega (
        arith,
        listed_length (image c) sound.holds,
        ap (λ (l : List Frame). length l) i.at.split,
        length-append i.at.older (i.at.frame ∷ i.at.newer),
      );
      stands = record {
        frame = i.at.frame;
        stands = record { before = i.at.older; beyond = i.at.newer; split = i.at.split; index = omega arith };
        front = i.front;
        back = i.back;
        split = i.blocks;
        many = sym i.index;
      };
    } in
    subst (λ (n : ℕ). Numbered c n place b) (sym is) own

pub some_frames : {c : Contents} {place : Place} → IsSound c → IsPlace (all_placed (counted c)) place → 0 < length c.frames
some_frames {c} {place} sound s =
    let n = numbered_by (first_number (counted c)) refl sound s.1 in
    let inside = n.inside in
    omega arith

-- the frame in which a block stands, numbered from the first line
pub numbered_at : {c : Contents} {place : Place} {b : Block} (first : FrameAt) → IsSound c → PlacedAt (all_placed (counted c)) place b
    → first ≡ get_or c.frames 0 first → Numbered c first.number place b
numbered_at {c} {place} {b} first sound s is = numbered_by first.number (first_is c first sound (some_frames sound (b, s)) is) sound s

pub walk_place : {p : ℕ} {all : List (Place × Block)} {at : Place} {newer : List Block} → IsWalk p all at newer → IsPlace all at
walk_place w = (w.block, w.stands)

-- ---- the table

some_by : (place : Place) (t : Bool) (there : Place) → (if t then None else Some place) ≡ Some there → place ≡ there
some_by place true there e = absurd cc
some_by place false there e = cc

-- what a line of the table says of its page
line_says : (field : PageAt → Place) (pages : List PageAt) (p : ℕ) (e : PageAt) (there : Place) → slice_get pages (p - 1) ≡ Some e
    → place_in field pages p ≡ Some there → field e ≡ there
line_says field pages p e there at says =
    some_by (field e) ((field e).frame == 0) there (ap (entry_place field) (sym at) ∙ says)

page_leaf : (n : ℕ) (leaves : List Leaf) → n < length leaves → (leaf : Leaf) × (slice_get leaves n ≡ Some leaf)
page_leaf n [] inside = absurd (omega arith)
page_leaf zero (l ∷ ls) inside = (l, refl)
page_leaf (suc n) (l ∷ ls) inside = page_leaf n ls (omega arith)

pub leaf_there : (p : ℕ) (leaves : List Leaf) → 1 ≤ p → p ≤ length leaves → (leaf : Leaf) × (leaf_at p leaves ≡ Some leaf)
leaf_there zero leaves some inside = absurd (omega arith)
leaf_there (suc n) leaves some inside = page_leaf n leaves (omega arith)

-- each page of the table is set
pub set_by : (m : ℕ) (frames : List Frame) (pages p : ℕ) → IsStanding m frames pages → 1 ≤ p → p ≤ pages
    → (leaf : Leaf) × (content p (blocks_of frames) ≡ Some leaf)
set_by m frames pages p (inl none) some inside = let zero_pages = none.1 in absurd (omega arith)
set_by m frames pages p (inr stands) some inside =
    let len = stands.2 in
    let leaf = leaf_there p stands.0 some (omega arith) in
    (leaf.0, stands.1.each p some (omega arith) ∙ leaf.1)

pub page_set : (c : Contents) (p : ℕ) → IsSound c → 1 ≤ p → p ≤ length c.pages → (leaf : Leaf) × (content p (blocks_of (counted c)) ≡ Some leaf)
page_set c p sound some inside = set_by c.m (counted c) (length c.pages) p sound.holds.stands some inside

-- where the walk of a page starts
pub page_starts : (c : Contents) (p : ℕ) (e : PageAt) → IsSound c → Some e ≡ (if p == 0 then None else slice_get c.pages (p - 1))
    → IsWalk p (all_placed (counted c)) e.place []
page_starts c p e sound is =
    let there = page_there p c.pages e is in
    let set = page_set c p sound there.0 there.1 in
    let start = walk_starts p (counted c) set.0 set.1 in
    let at : slice_get c.pages (p - 1) ≡ Some e = line_at_page p c.pages e is in
    let same : e.place ≡ start.0 = line_says (λ x. x.place) c.pages p e start.0 at (sound.holds.table.places p there.0 ∙ start.1) in
    subst (λ (place : Place). IsWalk p (all_placed (counted c)) place []) (sym same) start.2
  where
    line_by : (p : ℕ) (pages : List PageAt) (e : PageAt) (t : Bool) → Some e ≡ (if t then None else slice_get pages (p - 1)) → slice_get pages (p - 1) ≡ Some e
    line_by p pages e true is = absurd cc
    line_by p pages e false is = sym is

    line_at_page : (p : ℕ) (pages : List PageAt) (e : PageAt) → Some e ≡ (if p == 0 then None else slice_get pages (p - 1)) → slice_get pages (p - 1) ≡ Some e
    line_at_page p pages e is = line_by p pages e (p == 0) is

-- what was replayed is the page
pub page_is : (o : Option Leaf) (c : Contents) (p : ℕ) (replayed : Option Leaf) → o ≡ replayed → content p (blocks_of (counted c)) ≡ replayed
    → content p (blocks_of (counted c)) ≡ o
page_is o c p replayed a b = b ∙ sym a

pub not_none : (c : Contents) (p : ℕ) (replayed : Option Leaf) → IsSound c → 1 ≤ p → p ≤ length c.pages → None ≡ replayed
    → content p (blocks_of (counted c)) ≡ replayed → ⊥
not_none c p replayed sound some inside a b = let set = page_set c p sound some inside in (let e : None ≡ Some set.0 = a ∙ sym b ∙ set.1 in cc)

-- ---- one step of the loop that walks

-- the block that was read at a place of a log that is as it was when the walk began
abbrev pub Reads : Contents → Contents → ℕ → Place → List Block → Block → Type 0
Reads old now p at newer block =
    (now ≡ old) × IsSound old × IsWalk p (all_placed (counted old)) at newer
    × ((b : Block) → PlacedAt (all_placed (counted now)) at b → block ≡ b)

pub read_is : {old now : Contents} {p : ℕ} {at : Place} {newer : List Block} {block : Block} (r : Reads old now p at newer block) → block ≡ r.2.block
read_is {old} {now} {p} {at} {newer} {block} r =
    subst (λ (c : Contents). (b : Block) → PlacedAt (all_placed (counted c)) at b → block ≡ b) r.0 r.3 r.2.block r.2.stands

pub record Step (old : Contents) (p : ℕ) (at : Place) (newer : List Block) (block : Block) (place : Place) : Type 0 where
  pub earlier : IsEarlier place at
  pub walk : IsWalk p (all_placed (counted old)) place (newer ++ block ∷ [])

on_by : {old : Contents} {p : ℕ} {at : Place} {newer : List Block} {block : Block} (place : Place) (link : Option Place)
    → WalksOn p (all_placed (counted old)) at newer block link → Some place ≡ link → Step old p at newer block place
on_by {old} {p} {at} {newer} {block} place link on is =
    let same : on.back ≡ place = (let e : Some on.back ≡ Some place = sym on.is ∙ sym is in cc) in
    subst (λ (x : Place). Step old p at newer block x) same (record { earlier = on.earlier; walk = on.walk })

walks_on : {old now : Contents} {p : ℕ} {at : Place} {newer : List Block} {block : Block} → Reads old now p at newer block → false ≡ sets p block
    → WalksOn p (all_placed (counted old)) at newer block (first_back p (block ∷ []))
walks_on {old} {now} {p} {at} {newer} {block} r unset =
    let same = read_is r in
    subst (λ (b : Block). WalksOn p (all_placed (counted old)) at newer b (first_back p (b ∷ []))) (sym same)
    (walk_on (counted old) r.2 r.1.holds.numbered r.1.holds.linked (ap (sets p) (sym same) ∙ sym unset))

pub step_is : {old now : Contents} {p : ℕ} {at : Place} {newer : List Block} {block : Block} (place : Place) → Reads old now p at newer block
    → false ≡ sets p block → Some place ≡ first_back p (block ∷ []) → Step old p at newer block place
step_is {old} {now} {p} {at} {newer} {block} place r unset link = on_by place (first_back p (block ∷ [])) (walks_on r unset) link

pub some_link : {old now : Contents} {p : ℕ} {at : Place} {newer : List Block} {block : Block} → Reads old now p at newer block → false ≡ sets p block
    → None ≡ first_back p (block ∷ []) → ⊥
some_link r unset none = let on = walks_on r unset in (let e : None ≡ Some on.back = none ∙ on.is in cc)

-- the step from a block of the walk that says where to go on
pub step_from : {old : Contents} {p : ℕ} {at : Place} {newer : List Block} (place : Place) → IsSound old → (w : IsWalk p (all_placed (counted old)) at newer)
    → sets p w.block ≡ false → Some place ≡ first_back p (w.block ∷ []) → Step old p at newer w.block place
step_from {old} {p} {at} {newer} place sound w unset link =
    on_by place (first_back p (w.block ∷ [])) (walk_on (counted old) w sound.holds.numbered sound.holds.linked unset) link

pub some_from : {old : Contents} {p : ℕ} {at : Place} {newer : List Block} → IsSound old → (w : IsWalk p (all_placed (counted old)) at newer)
    → sets p w.block ≡ false → None ≡ first_back p (w.block ∷ []) → ⊥
some_from {old} {p} {at} {newer} sound w unset none =
    let on = walk_on (counted old) w sound.holds.numbered sound.holds.linked unset in
    (let e : None ≡ Some on.back = none ∙ on.is in cc)

pub end_is : {old now : Contents} {p : ℕ} {at : Place} {newer : List Block} {block : Block} (pushed : List Block) → Reads old now p at newer block
    → true ≡ sets p block → pushed ≡ newer ++ block ∷ [] → content p (blocks_of (counted old)) ≡ fold (after p) None (reverse pushed)
end_is {old} {now} {p} {at} {newer} {block} pushed r set push =
    let same = read_is r in
    ap (content p) (sym (bodies_all (counted old)))
    ∙ walk_ends r.2 (ap (sets p) (sym same) ∙ sym set)
    ∙ ap (λ (b : Block). fold (after p) None (reverse (newer ++ b ∷ []))) (sym same)
    ∙ ap (λ (bs : List Block). fold (after p) None (reverse bs)) (sym push)

pub place_now : {c : Contents} {p : ℕ} {at : Place} {newer : List Block} (now : Contents) → now ≡ c → IsWalk p (all_placed (counted c)) at newer
    → IsPlace (all_placed (counted now)) at
place_now {c} {p} {at} {newer} now same walk = subst (λ (x : Contents). IsPlace (all_placed (counted x)) at) (sym same) (walk_place walk)

any_there : (f : Block → Bool) (front : List Block) (b : Block) (back : List Block) → f b ≡ true → list_any f (front ++ b ∷ back) ≡ true
any_there f [] b back e = or_left (f b) (list_any f back) e
any_there f (x ∷ xs) b back e = or_right (f x) (list_any f (xs ++ b ∷ back)) (any_there f xs b back e)

-- which segment has to be read
pub on_page : (c now : Contents) (p : ℕ) (at : Place) {newer : List Block} → now ≡ c → IsSound c → IsWalk p (all_placed (counted c)) at newer → (j : ℕ)
    → IsLineIn now (at.frame - first_number (counted now)) j → HoldsPage c p j
on_page c now p at same sound walk j inside =
    let n = numbered_by (first_number (counted c)) refl sound walk.stands in
    let x = n.stands in
    record {
      index = at.frame - first_number (counted c);
      frame = x.frame;
      stands = x.stands;
      touched = ap (list_any (touches p)) x.split ∙ any_there (touches p) x.front walk.block x.back walk.touched;
      inside = subst (λ (d : Contents). IsLineIn d (at.frame - first_number (counted d)) j) same inside;
    }

-- what a refused read of a block of the page leaves
pub stops_on_page : {A : Type 0} {c now : Contents} {p : ℕ} {at : Place} {newer : List Block} (new : Contents) (result : Result A LogFault) (fault : LogFault)
    → IsErrAnd result (λ y. y ≡ fault) → now ≡ c → IsSound c → IsWalk p (all_placed (counted c)) at newer
    → StopsAt (λ j. IsLineIn now (at.frame - first_number (counted now)) j) now fault new → ReadStops (HoldsPage c p) c result new
stops_on_page new (Ok x) fault is same sound walk stops = absurd is
stops_on_page {A} {c} {now} {p} {at} {newer} new (Err y) fault is same sound walk stops =
    subst (λ (z : LogFault). StopsAt (HoldsPage c p) c z new) (sym is) (stops_since _ _ c now new fault same (on_page c now p at same sound walk) stops)

-- places in their order, as numbers
abbrev pub rank : Place → ℕ
rank a = a.frame * 4294967296 + a.index

pub rank_less : (a b : Place) → IsEarlier a b → a.index < 4294967296 → rank a < rank b
rank_less a b (inl frames) short = omega arith
rank_less a b (inr both) short = let same = both.0 in let less = both.1 in omega arith

-- ---- when a page is not there

no_line_by : (page : ℕ) (pages : List PageAt) (t : Bool) → (page == 0) ≡ t → None ≡ (if t then None else slice_get pages (page - 1))
    → (1 ≤ page) × (page ≤ length pages) → ⊥
no_line_by page pages true is none there = let none_page : page ≡ 0 = eqb-true page 0 is in (let some = there.0 in absurd (omega arith))
no_line_by page pages false is none there =
    let one = page_there_at (page - 1) pages (omega (arith, there)) in
    (let e : None ≡ Some one.0 = none ∙ one.1 in cc)
  where
    page_there_at : (n : ℕ) (pages : List PageAt) → n < length pages → (e : PageAt) × (slice_get pages n ≡ Some e)
    page_there_at n [] inside = absurd (omega arith)
    page_there_at zero (l ∷ ls) inside = (l, refl)
    page_there_at (suc n) (l ∷ ls) inside = page_there_at n ls (omega arith)

pub no_line : (page : ℕ) (pages : List PageAt) → None ≡ (if page == 0 then None else slice_get pages (page - 1)) → (1 ≤ page) × (page ≤ length pages) → ⊥
no_line page pages none = no_line_by page pages (page == 0) refl none

-- an answer that is no refusal of the page, if the page is there
pub page_answer : {A : Type 0} (pages : List PageAt) (page : ℕ) (result : Result A LogFault) → (result ≡ Err NoPage → ⊥) → (1 ≤ page) × (page ≤ length pages)
    → (result ≡ Err NoPage → (1 ≤ page) × (page ≤ length pages) → ⊥) × (((1 ≤ page) × (page ≤ length pages) → ⊥) → result ≡ Err NoPage)
page_answer pages page result other there = (λ e. absurd (other e), λ none. absurd (none there))

-- a refusal that is handed on
pub other_as : {A B : Type 0} (result : Result A LogFault) (x y : LogFault) → result ≡ Err x → x ≡ y → (◌≡◌ {A = Result B LogFault} (Err y) (Err NoPage) → ⊥)
    → result ≡ Err NoPage → ⊥
other_as {A} {B} result x y is same other e =
    let faults : y ≡ NoPage = cc in other (ap (λ (z : LogFault). Err z) faults)
