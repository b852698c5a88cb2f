-- The pages of the oldest segment, and where they stand once they were written again.

use Rattle.std.proofs.Common.{inl, inr, ◌≡◌, ℕ, zero, suc, ◌+◌, ◌-◌, ◌<◌, ◌≤◌, ◌==◌, ◌||◌, Bool, true, false, if◌then◌else◌, Option}
use Rattle.std.proofs.Common.{Some, None, IfSome, List, [], ◌∷◌, ◌++◌, length, map, refl, sym, ap, subst, ◌∙◌, arith}
use Rattle.std.specs.List.{fold, filter, list_any, AllByRecursion}
use Rattle.std.proofs.lemmas.Bool.{eq-eqb, ltb-true, leb-false, false≢true, cases_lt, cases_Bool, or_left, or_right}
use Rattle.std.proofs.lemmas.List.Folds.{list_any-append}
use Rattle.std.proofs.lemmas.Grind.{fold-append}
use Rattle.bw_record.specs.Touch.{sets}
use Rattle.bw_record.specs.declared.block.Place.{Place}
use Rattle.bw_record.specs.declared.block.Block.{Block}
use Rattle.bw_record.specs.declared.block.Block.TheVariants.{Delta, Base, Split}
use Rattle.bw_record.specs.declared.block.Frame.{Frame}
use Rattle.bw_leaf.specs.Forwards.{blocks_of}
use Rattle.bw_device.specs.Holding.{Holding}
use Rattle.bw_log.specs.Places.{placed, all_placed, later, last_place, base_of}
use Rattle.bw_log.specs.Segments.{segment_frames, frames_of, is_before_next}
use Rattle.bw_log.specs.Contents.{Contents, counted, IsSound}
use Rattle.bw_log.specs.Reads.{IsPage}
use Rattle.bw_log.specs.Oldest.{IsAfter, last_number}
use Rattle.bw_log.proofs.Adding.{filter_all}
use Rattle.bw_log.proofs.Entries.{all_append}
use Rattle.bw_log.proofs.GivenUp.{all_pass, all_before, placed_more}
use Rattle.bw_care.specs.Cleaning.{is_old, old_from, pages_upto, oldest_last, IsRewritten, page_of}

-- ---- which pages are old

-- one more page, if it was looked at
pub old_step : (last : ℕ) (frames : List Frame) (i n : ℕ) (t : Bool) → i < n → is_old last (base_of (i + 1) frames) ≡ t
    → old_from last frames (i + 1) (n - i)
    ≡ (if t then (i + 1) ∷ old_from last frames (i + 1 + 1) (n - (i + 1)) else old_from last frames (i + 1 + 1) (n - (i + 1)))
old_step last frames i n t inside is =
    let more : n - i ≡ suc (n - (i + 1)) = omega arith in
    ap (old_from last frames (i + 1)) more
    ∙ ap (λ (b : Bool). if b then (i + 1) ∷ old_from last frames (i + 1 + 1) (n - (i + 1)) else old_from last frames (i + 1 + 1) (n - (i + 1))) is

few_by : (p : ℕ) (ps : List ℕ) (n : ℕ) (t : Bool) → length ps ≤ n → length (if t then p ∷ ps else ps) ≤ suc n
few_by p ps n true le = omega arith
few_by p ps n false le = omega arith

pub few_old : (last : ℕ) (frames : List Frame) (p n : ℕ) → length (old_from last frames p n) ≤ n
few_old last frames p zero = omega arith
few_old last frames p (suc n) = few_by p (old_from last frames (p + 1) n) n (is_old last (base_of p frames)) (few_old last frames (p + 1) n)

-- each of them is a page
within_by : (p n q : ℕ) (ps : List ℕ) (t : Bool) → 1 ≤ p → p ≤ q → AllByRecursion (λ k. (1 ≤ k) × (k ≤ q)) ps
    → AllByRecursion (λ k. (1 ≤ k) × (k ≤ q)) (if t then p ∷ ps else ps)
within_by p n q ps true some le rest = ((some, le), rest)
within_by p n q ps false some le rest = rest

old_within : (last : ℕ) (frames : List Frame) (p n q : ℕ) → 1 ≤ p → p + n ≤ q + 1 → AllByRecursion (λ k. (1 ≤ k) × (k ≤ q)) (old_from last frames p n)
old_within last frames p zero q some le = tt
old_within last frames p (suc n) q some le =
    within_by p n q (old_from last frames (p + 1) n) (is_old last (base_of p frames)) some (omega arith)
    (old_within last frames (p + 1) n q (omega arith) (omega arith))

pub old_are_pages : (last : ℕ) (c : Contents) → AllByRecursion (IsPage c) (pages_upto last c)
old_are_pages last c = old_within last (counted c) 1 (length c.pages) (length c.pages) (omega arith) (omega arith)

-- an old page is among them
is_among : (p : ℕ) → List ℕ → Bool
is_among p ps = list_any (λ k. k == p) ps

among_here : (p : ℕ) (ps : List ℕ) (t : Bool) → t ≡ true → is_among p (if t then p ∷ ps else ps) ≡ true
unfolding is_among
among_here p ps true is = or_left (p == p) (list_any (λ k. k == p) ps) (eq-eqb p p refl)
among_here p ps false is = absurd (false≢true is)

among_there : (p q : ℕ) (ps : List ℕ) (t : Bool) → is_among p ps ≡ true → is_among p (if t then q ∷ ps else ps) ≡ true
unfolding is_among
among_there p q ps true is = or_right (q == p) (list_any (λ k. k == p) ps) is
among_there p q ps false is = is

among_at : (last : ℕ) (frames : List Frame) (q n p : ℕ) → q ≡ p → is_old last (base_of p frames) ≡ true → is_among p (old_from last frames q (suc n)) ≡ true
among_at last frames q n p same old =
    subst (λ (k : ℕ). is_among p (old_from last frames k (suc n)) ≡ true) (sym same)
    (among_here p (old_from last frames (p + 1) n) (is_old last (base_of p frames)) old)

among_old : (last : ℕ) (frames : List Frame) (q n p : ℕ) → q ≤ p → p < q + n → is_old last (base_of p frames) ≡ true
    → is_among p (old_from last frames q n) ≡ true
among_old last frames q zero p low high old = absurd (omega arith)
among_old last frames q (suc n) p low high old =
    elim (cases_lt q p) [
      | inl less ↦ among_there p q (old_from last frames (q + 1) n) (is_old last (base_of q frames))
          (among_old last frames (q + 1) n p (omega arith) (omega arith) old)
      | inr same ↦ among_at last frames q n p (omega arith) old
    ]

-- ---- a block of such a page sets it

set_by_one : (p : ℕ) (was : List Block) (b : Block) → IsRewritten was b → sets p b ≡ (page_of b == p)
set_by_one p was (Delta page back ops) is = absurd is
set_by_one p was (Base leaf) is = refl
set_by_one p was (Split page back upper) is = absurd is

set_among : (p : ℕ) (was bs : List Block) → AllByRecursion (IsRewritten was) bs → list_any (sets p) bs ≡ is_among p (map page_of bs)
unfolding is_among
set_among p was [] are = refl
set_among p was (b ∷ bs) are = let one = set_by_one p was b are.0 in let rest = set_among p was bs are.1 in cc

-- ---- places after a frame

placed_after : (last n i : ℕ) (bs : List Block) → last < n → AllByRecursion (λ x. last < x.0.frame) (placed n i bs)
placed_after last n i [] less = tt
placed_after last n i (b ∷ bs) less = (less, placed_after last n (i + 1) bs less)

pub all_after : (last : ℕ) (fs : List Frame) → AllByRecursion (λ f. last < f.number) fs → AllByRecursion (λ x. last < x.0.frame) (all_placed fs)
all_after last [] are = tt
all_after last (f ∷ fs) are =
    all_append (λ (x : Place × Block). last < x.0.frame) (placed f.number 0 f.blocks) (all_placed fs) (placed_after last f.number 0 f.blocks are.0)
    (all_after last fs are.1)

one_where : (Q : Place → Type 0) (acc : Option Place) (place : Place) (t : Bool) → IfSome acc Q → Q place → IfSome (if t then Some place else acc) Q
one_where Q acc place true was here = here
one_where Q acc place false was here = was

-- it holds of the last place, if it did before
stays_where : (Q : Place → Type 0) (test : Block → Bool) (acc : Option Place) (xs : List (Place × Block)) → AllByRecursion (λ x. Q x.0) xs → IfSome acc Q
    → IfSome (fold (later test) acc xs) Q
stays_where Q test acc [] are was = was
stays_where Q test acc (x ∷ xs) are was = stays_where Q test (later test acc x) xs are.1 (one_where Q acc x.0 (test x.1) was are.0)

-- it holds of the last place, if one of these blocks passes
set_where_by : (Q : Place → Type 0) (test : Block → Bool) (acc : Option Place) (x : Place × Block) (xs : List (Place × Block)) (t : Bool) → Q x.0
    → AllByRecursion (λ x. Q x.0) xs
    → ((v : Option Place) → list_any (λ y. test y.1) xs ≡ true → IfSome (fold (later test) v xs) Q)
    → (t || list_any (λ y. test y.1) xs) ≡ true → IfSome (fold (later test) (if t then Some x.0 else acc) xs) Q
set_where_by Q test acc x xs true here are others is = stays_where Q test (Some x.0) xs are here
set_where_by Q test acc x xs false here are others is = others acc is

pub set_where : (Q : Place → Type 0) (test : Block → Bool) (acc : Option Place) (xs : List (Place × Block)) → AllByRecursion (λ x. Q x.0) xs
    → list_any (λ y. test y.1) xs ≡ true → IfSome (fold (later test) acc xs) Q
set_where Q test acc [] are is = absurd cc
set_where Q test acc (x ∷ xs) are is = set_where_by Q test acc x xs (test x.1) are.0 are.1 (λ v. set_where Q test v xs are.1) is

is_after : (last : ℕ) (o : Option Place) → IfSome o (λ q. last < q.frame) → IsAfter last o
is_after last None is = tt
is_after last (Some place) is = is

pub any_placed : (test : Block → Bool) (n i : ℕ) (bs : List Block) → list_any (λ y. test y.1) (placed n i bs) ≡ list_any test bs
any_placed test n i [] = refl
any_placed test n i (b ∷ bs) = ap (λ (t : Bool). test b || t) (any_placed test n (i + 1) bs)

pub any_all_placed : (test : Block → Bool) (fs : List Frame) → list_any (λ y. test y.1) (all_placed fs) ≡ list_any test (blocks_of fs)
any_all_placed test [] = refl
any_all_placed test (f ∷ fs) =
    list_any-append (λ (y : Place × Block). test y.1) (placed f.number 0 f.blocks) (all_placed fs)
    ∙ ap (λ (t : Bool). t || list_any (λ (y : Place × Block). test y.1) (all_placed fs)) (any_placed test f.number 0 f.blocks)
    ∙ ap (λ (t : Bool). list_any test f.blocks || t) (any_all_placed test fs)
    ∙ sym (list_any-append test f.blocks (blocks_of fs))

-- ---- the last setting blocks after a cleaning

base_over : (p : ℕ) (fs xs : List Frame) → base_of p (fs ++ xs) ≡ fold (later (sets p)) (base_of p fs) (all_placed xs)
base_over p fs xs = ap (last_place (sets p)) (placed_more fs xs) ∙ fold-append (later (sets p)) None (all_placed fs) (all_placed xs)

not_old : (last : ℕ) (o : Option Place) → is_old last o ≡ false → IfSome o (λ q. last < q.frame)
not_old last None is = tt
not_old last (Some place) is = leb-false place.frame last is

pub base_moved : (last : ℕ) (fs xs : List Frame) (p n : ℕ) → AllByRecursion (IsRewritten (blocks_of fs)) (blocks_of xs)
    → map page_of (blocks_of xs) ≡ old_from last fs 1 n
    → AllByRecursion (λ f. last < f.number) xs → 1 ≤ p → p ≤ n → IsAfter last (base_of p (fs ++ xs))
base_moved last fs xs p n are pages after some inside =
    let Q : Place → Type 0 = λ q. last < q.frame in
    subst (IsAfter last) (sym (base_over p fs xs))
    (is_after last (fold (later (sets p)) (base_of p fs) (all_placed xs)) (elim (cases_Bool (is_old last (base_of p fs))) [
      | inl old ↦ set_where Q (sets p) (base_of p fs) (all_placed xs) (all_after last xs after)
          (any_all_placed (sets p) xs ∙ set_among p (blocks_of fs) (blocks_of xs) are ∙ ap (is_among p) pages ∙ among_old last fs 1 n p some (omega arith) old)
      | inr new ↦ stays_where Q (sets p) (base_of p fs) (all_placed xs) (all_after last xs after) (not_old last (base_of p fs) new)
    ]))

-- ---- the last number of the oldest segment

passing_by : (next : Option ℕ) (x : Frame) (xs : List Frame) (t : Bool) → is_before_next next x.number ≡ t
    → AllByRecursion (λ f. is_before_next next f.number ≡ true) xs
    → AllByRecursion (λ f. is_before_next next f.number ≡ true) (if t then x ∷ xs else xs)
passing_by next x xs true is rest = (is, rest)
passing_by next x xs false is rest = rest

passing : (next : Option ℕ) (fs : List Frame) → AllByRecursion (λ f. is_before_next next f.number ≡ true) (filter (λ f. is_before_next next f.number) fs)
passing next [] = tt
passing next (f ∷ fs) = passing_by next f (filter (λ f. is_before_next next f.number) fs) (is_before_next next f.number) refl (passing next fs)

last_below : (next w : ℕ) (fs : List Frame) → AllByRecursion (λ f. is_before_next (Some next) f.number ≡ true) fs → w < next
    → fold (λ was f. f.number) w fs < next
last_below next w [] are less = less
last_below next w (f ∷ fs) are less = last_below next f.number fs are.1 (ltb-true f.number next are.0)

pub oldest_by : (c : Contents) (live : List Holding) (n : ℕ) → c.next ≡ Some n → 1 ≤ n → oldest_last c live < n
oldest_by c [] n is some = omega arith
oldest_by c (h ∷ hs) n is some =
    let fs = segment_frames h.bytes in
    subst (λ (next : Option ℕ). fold (λ was f. f.number) 0 (filter (λ f. is_before_next next f.number) fs) < n) (sym is)
    (last_below n 0 (filter (λ f. is_before_next (Some n) f.number) fs) (passing (Some n) fs) (omega arith))

-- each further frame stands after the oldest segment
pub oldest_below : (c : Contents) (n : ℕ) → c.next ≡ Some n → 1 ≤ n → oldest_last c c.live < n
oldest_below c n is some = oldest_by c c.live n is some

pub plain_by : (c : Contents) (h : Holding) (hs : List Holding) → IsSound c → c.live ≡ h ∷ hs → c.is_failed ≡ false
    → last_number c h ≡ fold (λ was f. f.number) 0 (segment_frames h.bytes)
plain_by c h hs sound live works =
    let test : Frame → Bool = λ f. is_before_next c.next f.number in
    let all : AllByRecursion (λ f. test f ≡ true) (segment_frames h.bytes ++ frames_of (map (λ (k : Holding). k.bytes) hs)) =
    subst (λ (l : List Holding). AllByRecursion (λ f. test f ≡ true) (frames_of (map (λ (k : Holding). k.bytes) l))) live
    (all_pass test (frames_of (map (λ (k : Holding). k.bytes) c.live)) (sound.holds.every works)) in
    ap (fold (λ was (f : Frame). f.number) 0)
    (filter_all test (segment_frames h.bytes)
    (all_before (λ (f : Frame). test f ≡ true) (segment_frames h.bytes) (frames_of (map (λ (k : Holding). k.bytes) hs)) all))

-- it stays where the oldest segment does
pub same_last : (old now : Contents) (h : Holding) (hs ks : List Holding) → IsSound old → IsSound now → old.live ≡ h ∷ hs → now.live ≡ h ∷ ks
    → old.is_failed ≡ false → now.is_failed ≡ false
    → last_number now h ≡ last_number old h
same_last old now h hs ks a b live still works goes = plain_by now h ks b still goes ∙ sym (plain_by old h hs a live works)
