-- A page that was last set in the oldest segment stands there.

use Rattle.std.proofs.Common.{inl, inr, ◌≡◌, ◌⊎◌, ℕ, zero, suc, ◌+◌, ◌<◌, ◌≤◌, ◌||◌, Bool, true, false, if◌then◌else◌, Option, Some, None}
use Rattle.std.proofs.Common.{List, [], ◌∷◌, ◌++◌, length, map, get_or, slice_get, refl, sym, ap, subst, ◌∙◌, append_assoc, arith}
use Rattle.std.specs.List.{fold, list_any, AllByRecursion}
use Rattle.std.proofs.lemmas.Bool.{leb-true, true≢false, or_left, or_right, cases_Bool}
use Rattle.std.proofs.lemmas.List.{map-append}
use Rattle.std.proofs.lemmas.List.Folds.{list_any-append}
use Rattle.bw_codec.specs.Grammar.{frame_bytes_in}
use Rattle.bw_codec.specs.Reading.{version_in}
use Rattle.bw_record.specs.Touch.{sets, touches}
use Rattle.bw_record.specs.declared.block.Block.{Block}
use Rattle.bw_record.specs.declared.block.Frame.{Frame}
use Rattle.bw_record.specs.declared.block.Place.{Place}
use Rattle.bw_device.specs.Holding.{Holding}
use Rattle.bw_leaf.specs.Forwards.{blocks_of}
use Rattle.bw_log.specs.Contents.{Contents, counted, IsSound}
use Rattle.bw_log.specs.Oldest.{last_number}
use Rattle.bw_log.specs.Places.{or_else, later, base_of, all_placed, first_number}
use Rattle.bw_log.specs.Reads.{HoldsPage}
use Rattle.bw_log.specs.Segments.{AreFrom, entries, entries_from, frames_of, is_before_next, segment_frames}
use Rattle.bw_log.specs.declared.places.FrameAt.{FrameAt}
use Rattle.bw_log.proofs.Adding.{filter_all}
use Rattle.bw_log.proofs.Entries.{frames_of_entries, each_counted}
use Rattle.bw_log.proofs.GivenUp.{all_pass, last_over_frames, place_within}
use Rattle.bw_log.proofs.Walk.{sets_touches}
use Rattle.bw_care.specs.Cleaning.{is_old, old_from, oldest_last, old_pages}
use Rattle.bw_care.specs.Moving.{HoldsSome}
use Rattle.bw_care.proofs.OldPages.{any_all_placed, plain_by}

-- ---- a page among others

pub holds_at : (c : Contents) (pages : List ℕ) (i d at : ℕ) → i < length pages → HoldsPage c (get_or pages i d) at → HoldsSome c pages at
holds_at c [] i d at inside holds = absurd (omega arith)
holds_at c (p ∷ ps) zero d at inside holds = inl holds
holds_at c (p ∷ ps) (suc i) d at inside holds = inr (holds_at c ps i d at (omega arith) holds)

-- ---- the frame whose block it is

unset_by : (test : Block → Bool) (acc : Option Place) (z : Place × Block) (zs : List (Place × Block)) (t : Bool)
    → ((v : Option Place) → list_any (λ y. test y.1) zs ≡ false → fold (later test) v zs ≡ v)
    → (t || list_any (λ y. test y.1) zs) ≡ false → fold (later test) (if t then Some z.0 else acc) zs ≡ acc
unset_by test acc z zs true others none = absurd (true≢false none)
unset_by test acc z zs false others none = others acc none

unset : (test : Block → Bool) (acc : Option Place) (zs : List (Place × Block)) → list_any (λ y. test y.1) zs ≡ false → fold (later test) acc zs ≡ acc
unset test acc [] none = refl
unset test acc (z ∷ zs) none = unset_by test acc z zs (test z.1) (λ v. unset test v zs) none

-- a place has a block
set_in : (p : ℕ) (xs : List Frame) (place : Place) → base_of p xs ≡ Some place → list_any (sets p) (blocks_of xs) ≡ true
set_in p xs place is = elim (cases_Bool (list_any (sets p) (blocks_of xs))) [
  | inl some ↦ some
  | inr none ↦ absurd (let e = sym is ∙ unset (sets p) None (all_placed xs) (any_all_placed (sets p) xs ∙ none) in cc)
]

record Among (test : Block → Bool) (xs : List Frame) : Type 0 where
  before : List Frame
  frame : Frame
  beyond : List Frame
  split : xs ≡ before ++ frame ∷ beyond
  passes : list_any test frame.blocks ≡ true

among_by : (test : Block → Bool) (x : Frame) (xs : List Frame) (t : Bool) → list_any test x.blocks ≡ t
    → (list_any test (blocks_of xs) ≡ true → Among test xs) → (t || list_any test (blocks_of xs)) ≡ true → Among test (x ∷ xs)
among_by test x xs true here others is = record { before = []; frame = x; beyond = xs; split = refl; passes = here }
among_by test x xs false here others is =
    let more = others is in
    record { before = x ∷ more.before; frame = more.frame; beyond = more.beyond; split = ap (λ (l : List Frame). x ∷ l) more.split; passes = more.passes }

among : (test : Block → Bool) (xs : List Frame) → list_any test (blocks_of xs) ≡ true → Among test xs
among test [] is = absurd cc
among test (x ∷ xs) is =
    among_by test x xs (list_any test x.blocks) refl (among test xs) (sym (list_any-append test x.blocks (blocks_of xs)) ∙ is)

touched_by : (p : ℕ) (b : Block) (t : Bool) → touches p b ≡ t → sets p b ≡ true → touches p b ≡ true
touched_by p b true is set = is
touched_by p b false is set = absurd (true≢false (sym set ∙ sets_touches p b is))

any_touched_by : (p : ℕ) (b : Block) (bs : List Block) (t : Bool) → sets p b ≡ t → (list_any (sets p) bs ≡ true → list_any (touches p) bs ≡ true)
    → (t || list_any (sets p) bs) ≡ true → (touches p b || list_any (touches p) bs) ≡ true
any_touched_by p b bs true here others is = or_left (touches p b) (list_any (touches p) bs) (touched_by p b (touches p b) refl here)
any_touched_by p b bs false here others is = or_right (touches p b) (list_any (touches p) bs) (others is)

any_touched : (p : ℕ) (bs : List Block) → list_any (sets p) bs ≡ true → list_any (touches p) bs ≡ true
any_touched p [] is = absurd cc
any_touched p (b ∷ bs) is = any_touched_by p b bs (sets p b) refl (any_touched p bs) is

-- ---- numbers

from_behind : (n : ℕ) (xs ys : List Frame) → AreFrom n (xs ++ ys) → AreFrom (n + length xs) ys
from_behind n [] ys are = let e : n + length {A = Frame} [] ≡ n = omega arith in subst (λ (k : ℕ). AreFrom k ys) (sym e) are
from_behind n (x ∷ xs) ys are =
    let e : n + 1 + length xs ≡ n + length (x ∷ xs) = omega arith in
    subst (λ (k : ℕ). AreFrom k ys) e (from_behind (n + 1) xs ys are.1)

last_below : (n w : ℕ) (xs ys : List Frame) → AreFrom n (xs ++ ys) → w < n → fold (λ was f. f.number) w xs < n + length xs
last_below n w [] ys are less = omega arith
last_below n w (x ∷ xs) ys are less = (let number = are.0 in let rest = last_below (n + 1) x.number xs ys are.1 (omega arith) in omega arith)

-- it stands in the first frames, if its number is not above the last of them
first_by : (p n : ℕ) (xs ys : List Frame) (o : Option Place) → AreFrom n (xs ++ ys) → 1 ≤ n → base_of p ys ≡ o
    → is_old (fold (λ was f. f.number) 0 xs) (or_else o (base_of p xs)) ≡ true → list_any (sets p) (blocks_of xs) ≡ true
first_by p n xs ys (Some place) are one is old =
    let within = place_within (sets p) (n + length xs) ys place (from_behind n xs ys are) is in
    let last = last_below n 0 xs ys are (omega arith) in
    let upto = leb-true place.frame (fold (λ was (f : Frame). f.number) 0 xs) old in
    let from = within.0 in
    absurd (omega arith)
first_by p n xs ys None are one is old = in_first p xs (fold (λ was (f : Frame). f.number) 0 xs) (base_of p xs) refl old
  where
    in_first : (p : ℕ) (xs : List Frame) (last : ℕ) (o : Option Place) → base_of p xs ≡ o → is_old last o ≡ true → list_any (sets p) (blocks_of xs) ≡ true
    in_first p xs last None is old = absurd (true≢false (sym old))
    in_first p xs last (Some place) is old = set_in p xs place is

one_by : (fs : List Frame) → AllByRecursion (λ f. 1 ≤ f.number) fs → (1 ≤ first_number fs) ⊎ (fs ≡ [])
one_by [] are = inr refl
one_by (f ∷ fs) are = inl are.0

-- ---- the line of a frame of the oldest segment

unmapped : {A B : Type 0} (g : A → B) (P : B → Type 0) (xs : List A) → AllByRecursion P (map g xs) → AllByRecursion (λ x. P (g x)) xs
unmapped g P [] are = tt
unmapped g P (x ∷ xs) are = (are.0, unmapped g P xs are.1)

record IsLineOn (segment : ℕ) (lines : List FrameAt) (i : ℕ) : Type 0 where
  line : FrameAt
  told : slice_get lines i ≡ Some line
  own : line.segment ≡ segment

line_on : (v segment at : ℕ) (before : List Frame) (f : Frame) (beyond : List Frame) (others : List FrameAt)
    → IsLineOn segment (map (λ e. e.0) (entries_from v segment at (before ++ f ∷ beyond)) ++ others) (length before)
line_on v segment at [] f beyond others = record { line = _; told = refl; own = refl }
line_on v segment at (x ∷ xs) f beyond others =
    let more = line_on v segment (at + length (frame_bytes_in v x)) xs f beyond others in
    record { line = more.line; told = more.told; own = more.own }

-- the lines of all segments are those of the counted frames, unless an append failed
lines_all : (c : Contents) → IsSound c → c.is_failed ≡ false → c.frames ≡ map (λ e. e.0) (entries c.number (map (λ h. h.bytes) c.live))
lines_all c sound works =
    let test : Frame → Bool = λ f. is_before_next c.next f.number in
    let bytes = map (λ (h : Holding). h.bytes) c.live in
    let pass : AllByRecursion (λ f. test f ≡ true) (frames_of bytes) = all_pass test (frames_of bytes) (sound.holds.every works) in
    let each = unmapped (λ (e : FrameAt × Frame). e.1) (λ (f : Frame). test f ≡ true) (entries c.number bytes)
    (subst (AllByRecursion (λ (f : Frame). test f ≡ true)) (sym (frames_of_entries c.number bytes)) pass) in
    sound.holds.listed
    ∙ ap (map (λ (e : FrameAt × Frame). e.0)) (filter_all (λ (e : FrameAt × Frame). test e.1) (entries c.number bytes) each)

-- ---- so an old page stands in the oldest segment

holds_by : (c : Contents) (p : ℕ) (h : Holding) (hs : List Holding) → IsSound c → c.is_failed ≡ false → c.live ≡ h ∷ hs
    → Among (sets p) (segment_frames h.bytes) → HoldsPage c p 0
holds_by c p h hs sound works live a =
    let bytes : Holding → List ℕ = λ k. k.bytes in
    let v = version_in h.bytes in
    let xs = segment_frames h.bytes in
    let ys = frames_of (map bytes hs) in
    let others = map (λ (e : FrameAt × Frame). e.0) (entries (c.number + 1) (map bytes hs)) in
    let all : counted c ≡ xs ++ ys = sound.holds.every works ∙ ap (λ (l : List Holding). frames_of (map bytes l)) live in
    let split : counted c ≡ a.before ++ a.frame ∷ (a.beyond ++ ys) =
    all ∙ ap (λ (l : List Frame). l ++ ys) a.split ∙ append_assoc a.before (a.frame ∷ a.beyond) ys in
    let lines : c.frames ≡ map (λ (e : FrameAt × Frame). e.0) (entries_from v c.number 24 (a.before ++ a.frame ∷ a.beyond)) ++ others =
    lines_all c sound works ∙ ap (λ (l : List Holding). map (λ (e : FrameAt × Frame). e.0) (entries c.number (map bytes l))) live
    ∙ map-append (λ (e : FrameAt × Frame). e.0) (entries_from v c.number 24 xs) (entries (c.number + 1) (map bytes hs))
    ∙ ap (λ (l : List Frame). map (λ (e : FrameAt × Frame). e.0) (entries_from v c.number 24 l) ++ others) a.split in
    let own = subst (λ (l : List FrameAt). IsLineOn c.number l (length a.before)) (sym lines) (line_on v c.number 24 a.before a.frame a.beyond others) in
    record {
      index = length a.before;
      frame = a.frame;
      stands = record { before = a.before; beyond = a.beyond ++ ys; split = split; index = refl };
      touched = any_touched p a.frame.blocks a.passes;
      inside = record { line = own.line; told = own.told; inside = own.own ∙ (omega arith) };
    }

old_holds_by : (c : Contents) (p : ℕ) (live : List Holding) → IsSound c → c.is_failed ≡ false → c.live ≡ live → 0 < length live
    → is_old (oldest_last c live) (base_of p (counted c)) ≡ true → HoldsPage c p 0
old_holds_by c p [] sound works is some old = absurd (omega arith)
old_holds_by c p (h ∷ hs) sound works is some old =
    let xs = segment_frames h.bytes in
    let ys = frames_of (map (λ (k : Holding). k.bytes) hs) in
    let all : counted c ≡ xs ++ ys = sound.holds.every works ∙ ap (λ (l : List Holding). frames_of (map (λ (k : Holding). k.bytes) l)) is in
    let last : last_number c h ≡ fold (λ was (f : Frame). f.number) 0 xs = plain_by c h hs sound is works in
    let from : AreFrom (first_number (counted c)) (xs ++ ys) = subst (AreFrom (first_number (counted c))) all sound.holds.numbered in
    let old_in : is_old (fold (λ was (f : Frame). f.number) 0 xs) (or_else (base_of p ys) (base_of p xs)) ≡ true =
    ap (is_old (fold (λ was (f : Frame). f.number) 0 xs)) (sym (last_over_frames (sets p) xs ys))
    ∙ ap (λ (n : ℕ). is_old n (base_of p (xs ++ ys))) (sym last)
    ∙ ap (λ (fs : List Frame). is_old (last_number c h) (base_of p fs)) (sym all) ∙ old in
    let set : list_any (sets p) (blocks_of xs) ≡ true =
    elim (one_by (counted c) (each_counted (λ f. 1 ≤ f.number) (λ v m f x lawful. lawful.head.numbered.0) c sound)) [
      | inl one ↦ first_by p (first_number (counted c)) xs ys (base_of p ys) from one refl old_in
      | inr none ↦ absurd (true≢false (sym old ∙ ap (λ (fs : List Frame). is_old (last_number c h) (base_of p fs)) none))
    ] in
    holds_by c p h hs sound works is (among (sets p) xs set)

first_old : (last : ℕ) (frames : List Frame) (p n : ℕ) → AllByRecursion (λ k. is_old last (base_of k frames) ≡ true) (old_from last frames p n)
first_old last frames p zero = tt
first_old last frames p (suc n) =
    each_by p (old_from last frames (p + 1) n) (is_old last (base_of p frames)) refl (first_old last frames (p + 1) n)
  where
    each_by : (p : ℕ) (ps : List ℕ) (t : Bool) → is_old last (base_of p frames) ≡ t → AllByRecursion (λ k. is_old last (base_of k frames) ≡ true) ps
        → AllByRecursion (λ k. is_old last (base_of k frames) ≡ true) (if t then p ∷ ps else ps)
    each_by p ps true is rest = (is, rest)
    each_by p ps false is rest = rest

some_holds_by : (c : Contents) (pages : List ℕ) → IsSound c → c.is_failed ≡ false → 0 < length c.live
    → AllByRecursion (λ k. is_old (oldest_last c c.live) (base_of k (counted c)) ≡ true) pages → 0 < length pages → HoldsSome c pages 0
some_holds_by c [] sound works live are some = absurd (omega arith)
some_holds_by c (p ∷ ps) sound works live are some = inl (old_holds_by c p c.live sound works refl live are.0)

-- the oldest segment is read only if one of the pages stands there
pub oldest_holds : (c : Contents) (pages : List ℕ) → IsSound c → c.is_failed ≡ false → 0 < length c.live → pages ≡ old_pages c → 0 < length pages
    → (at : ℕ) → at ≡ 0 → HoldsSome c pages at
oldest_holds c pages sound works live are some at first =
    subst (HoldsSome c pages) (sym first)
    (some_holds_by c pages sound works live
    (subst (AllByRecursion (λ k. is_old (oldest_last c c.live) (base_of k (counted c)) ≡ true)) (sym are)
    (first_old (oldest_last c c.live) (counted c) 1 (length c.pages))) some)
