-- What stands after the segments of version 1 once their pages were written again.

use Rattle.std.proofs.Common.{inl, inr, ◌≡◌, ℕ, zero, suc, ◌+◌, ◌-◌, ◌<◌, ◌≤◌, ◌==◌, ◌||◌, max, Bool, true, false, if◌then◌else◌, Option, Some, None, IfSome}
use Rattle.std.proofs.Common.{List, [], ◌∷◌, ◌++◌, length, map, take, drop, slice_get, refl, sym, ap, subst, ◌∙◌, arith}
use Rattle.std.specs.List.{fold, filter, list_any, AllByRecursion}
use Rattle.std.specs.Prelude.{nat_le}
use Rattle.std.proofs.lemmas.Bool.{cases_lt, cases_Bool, or_parts, le-leb, leb-true, leb-false}
use Rattle.std.proofs.lemmas.List.{length-map}
use Rattle.bw_codec.specs.Reading.{version_in}
use Rattle.bw_record.specs.Touch.{sets}
use Rattle.bw_record.specs.declared.leaf.Leaf.{Leaf}
use Rattle.bw_record.specs.declared.block.Place.{Place}
use Rattle.bw_record.specs.declared.block.Block.{Block}
use Rattle.bw_record.specs.declared.block.Frame.{Frame}
use Rattle.bw_device.specs.Holding.{Holding}
use Rattle.bw_page.specs.Leaves.{leaf_at}
use Rattle.bw_leaf.specs.Forwards.{content, blocks_of}
use Rattle.bw_page.specs.Standing.{Stand}
use Rattle.bw_log.specs.Adopting.{old_in}
use Rattle.bw_record.specs.Version.{latest}
use Rattle.bw_log.specs.Contents.{Contents, counted, image, limits_of, roster, IsStanding, IsSound}
use Rattle.bw_log.specs.Oldest.{IsAfter, last_number}
use Rattle.bw_log.specs.Places.{placed, all_placed, later, base_of, first_number}
use Rattle.bw_log.specs.Segments.{Limits, segment_frames, frames_of, is_before_next, AreFrom, AreLive, IsCleanLast}
use Rattle.bw_log.proofs.Adding.{filter_all}
use Rattle.bw_log.proofs.Entries.{all_append}
use Rattle.bw_log.proofs.GivenUp.{all_pass, all_before, all_behind}
use Rattle.bw_log.proofs.Reread.{clean_is_new, live_version, new_version}
use Rattle.bw_log.proofs.Walk.{none_fold}
use Rattle.bw_care.specs.Cleaning.{is_old, old_from, pages_upto, page_of}
use Rattle.bw_care.specs.Moving.{IsNextBehind, MovedBehind, StoppedBehind, Refused}
use Rattle.bw_care.specs.Upgrading.{old_segments, last_among, last_of_old, pages_of_old, GivenInTurn, GivenUp, IsUpgraded, RefusesUpgrade}
use Rattle.bw_care.specs.declared.upgrader.Upgraded.{Upgraded}
use Rattle.bw_care.specs.declared.fault.CleanFault.TheVariants.{Log}
use Rattle.bw_care.proofs.BoxesGrown.{same_roster}
use Rattle.bw_log.specs.declared.fault.LogFault.{LogFault}
use Rattle.bw_log.specs.declared.fault.LogFault.TheVariants.{NoMemory, BadConfig, NoSegment, Device, Failed, Spent, NoPage}
use Rattle.bw_care.proofs.BasesLeave.{next_range}
use Rattle.bw_care.proofs.OldPages.{any_all_placed, base_moved, oldest_by}
use Rattle.bw_care.proofs.UpgradeSteps.{AreBehind, old_within}

abbrev number_last : ℕ → List Frame → ℕ
number_last w fs = fold (λ was (f : Frame). f.number) w fs

-- ---- the last counted frame of a segment is its last

plain_from : (next : Option ℕ) (hs : List Holding) (i : ℕ) (h : Holding)
    → AllByRecursion (λ f. is_before_next next f.number ≡ true) (frames_of (map (λ x. x.bytes) hs)) → slice_get hs i ≡ Some h
    → number_last 0 (filter (λ f. is_before_next next f.number) (segment_frames h.bytes)) ≡ number_last 0 (segment_frames h.bytes)
plain_from next [] i h all is = absurd cc
plain_from next (x ∷ xs) zero h all is =
    let same : x ≡ h = cc in
    let test : Frame → Bool = λ f. is_before_next next f.number in
    subst (λ (y : Holding). number_last 0 (filter test (segment_frames y.bytes)) ≡ number_last 0 (segment_frames y.bytes)) same
    (ap (number_last 0) (filter_all test (segment_frames x.bytes)
    (all_before (λ (f : Frame). test f ≡ true) (segment_frames x.bytes) (frames_of (map (λ (y : Holding). y.bytes) xs)) all)))
plain_from next (x ∷ xs) (suc i) h all is =
    plain_from next xs i h
    (all_behind (λ (f : Frame). is_before_next next f.number ≡ true) (segment_frames x.bytes) (frames_of (map (λ (y : Holding). y.bytes) xs)) all) is

plain_at : (c : Contents) (i : ℕ) (h : Holding) → IsSound c → c.is_failed ≡ false → slice_get c.live i ≡ Some h
    → last_number c h ≡ number_last 0 (segment_frames h.bytes)
plain_at c i h sound works is =
    plain_from c.next c.live i h
    (all_pass (λ (f : Frame). is_before_next c.next f.number) (frames_of (map (λ (x : Holding). x.bytes) c.live)) (sound.holds.every works)) is

-- ---- the greatest of them

fold_from : (c : Contents) (hs : List Holding) (w : ℕ) → w ≤ fold (λ last h. max last (last_number c h)) w hs
fold_from c [] w = omega arith
fold_from c (h ∷ hs) w = (let more = fold_from c hs (max w (last_number c h)) in omega arith)

among_at : (c : Contents) (hs : List Holding) (k i w : ℕ) (h : Holding) → i < k → slice_get hs i ≡ Some h
    → last_number c h ≤ fold (λ last x. max last (last_number c x)) w (take k hs)
among_at c [] k i w h less is = absurd cc
among_at c (x ∷ hs) zero i w h less is = absurd (omega arith)
among_at c (x ∷ hs) (suc k) zero w h less is =
    let same : x ≡ h = cc in
    subst (λ (y : Holding). last_number c y ≤ fold (λ last z. max last (last_number c z)) w (x ∷ take k hs)) same
    (let more = fold_from c (take k hs) (max w (last_number c x)) in omega arith)
among_at c (x ∷ hs) (suc k) (suc i) w h less is = among_at c hs k i (max w (last_number c x)) h (omega arith) is

-- ---- frames up to it

from_front : (n : ℕ) (xs ys : List Frame) → AreFrom n (xs ++ ys) → AreFrom n xs
from_front n [] ys are = tt
from_front n (x ∷ xs) ys are = (are.0, from_front (n + 1) xs ys are.1)

from_back : (n : ℕ) (xs ys : List Frame) → AreFrom n (xs ++ ys) → (k : ℕ) × AreFrom k ys
from_back n [] ys are = (n, are)
from_back n (x ∷ xs) ys are = from_back (n + 1) xs ys are.1

rises : (w : ℕ) (fs : List Frame) → AreFrom (w + 1) fs → w ≤ number_last w fs
rises w [] are = omega arith
rises w (f ∷ fs) are =
    (let is = are.0 in
    let more = rises f.number fs (subst (λ (n : ℕ). AreFrom (n + 1) fs) (sym is) are.1) in
    omega arith)

upto_last : (w : ℕ) (fs : List Frame) → AreFrom (w + 1) fs → AllByRecursion (λ f. f.number ≤ number_last w fs) fs
upto_last w [] are = tt
upto_last w (f ∷ fs) are =
    (let next = subst (λ (n : ℕ). AreFrom (n + 1) fs) (sym are.0) are.1 in (rises f.number fs next, upto_last f.number fs next))

segment_upto : (n : ℕ) (fs : List Frame) → AreFrom n fs → AllByRecursion (λ f. f.number ≤ number_last 0 fs) fs
segment_upto n [] are = tt
segment_upto n (f ∷ fs) are =
    (let next = subst (λ (k : ℕ). AreFrom (k + 1) fs) (sym are.0) are.1 in (rises f.number fs next, upto_last f.number fs next))

weaker : (a b : ℕ) (fs : List Frame) → a ≤ b → AllByRecursion (λ f. f.number ≤ a) fs → AllByRecursion (λ f. f.number ≤ b) fs
weaker a b [] le all = tt
weaker a b (f ∷ fs) le all = (let one = all.0 in omega arith, weaker a b fs le all.1)

frames_upto : (c : Contents) (hs : List Holding) (n w : ℕ) → AreFrom n (frames_of (map (λ x. x.bytes) hs))
    → ((i : ℕ) (h : Holding) → slice_get hs i ≡ Some h → last_number c h ≡ number_last 0 (segment_frames h.bytes))
    → AllByRecursion (λ f. f.number ≤ fold (λ last x. max last (last_number c x)) w hs) (frames_of (map (λ x. x.bytes) hs))
frames_upto c [] n w are plain = tt
frames_upto c (h ∷ hs) n w are plain =
    let first = segment_frames h.bytes in
    let rest = frames_of (map (λ (x : Holding). x.bytes) hs) in
    let all = fold (λ last (x : Holding). max last (last_number c x)) (max w (last_number c h)) hs in
    let high = fold_from c hs (max w (last_number c h)) in
    let back = from_back n first rest are in
    let here = plain 0 h refl in
    all_append (λ (f : Frame). f.number ≤ all) first rest
    (weaker (number_last 0 first) all first (omega arith) (segment_upto n first (from_front n first rest are)))
    (frames_upto c hs back.0 (max w (last_number c h)) back.1 (λ i x is. plain (suc i) x is))

-- ---- the last of some blocks

same_acc : (test : Block → Bool) (acc : Option Place) (xs : List (Place × Block)) → list_any (λ y. test y.1) xs ≡ false → fold (later test) acc xs ≡ acc
same_acc test acc [] e = refl
same_acc test acc (x ∷ xs) e =
    let two = or_parts (test x.1) (list_any (λ (y : Place × Block). test y.1) xs) e in
    ap (λ (t : Bool). fold (later test) (if t then Some x.0 else acc) xs) two.0 ∙ same_acc test acc xs two.1

or_first : (a b : Bool) → (a || b) ≡ true → b ≡ false → a ≡ true
or_first true b e off = refl
or_first false b e off = absurd (let f = sym off ∙ e in cc)

some_last : (Q : Place → Type 0) (test : Block → Bool) (acc : Option Place) (xs : List (Place × Block)) → AllByRecursion (λ x. Q x.0) xs
    → list_any (λ y. test y.1) xs ≡ true → (place : Place) × (fold (later test) acc xs ≡ Some place) × Q place
some_last Q test acc [] are e = absurd cc
some_last Q test acc (x ∷ xs) are e = elim (cases_Bool (list_any (λ (y : Place × Block). test y.1) xs)) [
  | inl more ↦ some_last Q test (later test acc x) xs are.1 more
  | inr none ↦ (
    x.0,
    same_acc test (later test acc x) xs none
        ∙ ap (λ (t : Bool). if t then Some x.0 else acc) (or_first (test x.1) (list_any (λ (y : Place × Block). test y.1) xs) e none),
    are.0,
  )
]

-- ---- the newest segment, if all have version 1

step_less : (v n len : ℕ) (t : Bool) → n < len → (if t then suc n else 0) < suc len
step_less v n len true less = omega arith
step_less v n len false less = omega arith

-- not all of them have it where the newest takes frames
open_newer : (m f n : ℕ) (bs : List (List ℕ)) → IsCleanLast m f n bs → old_in (map version_in bs) < length bs
open_newer m f n [] clean = absurd clean
open_newer m f n (b ∷ []) clean =
    (let new : version_in b ≡ 2 = new_version m f n b (clean_is_new m f n b clean) in
    let none : old_in (version_in b ∷ []) ≡ 0 = ap (λ (v : ℕ). old_in (v ∷ [])) new in
    omega (arith, none))
open_newer m f n (b ∷ d ∷ bs) clean =
    step_less (version_in b) (old_in (map version_in (d ∷ bs))) (length (d ∷ bs)) (version_in b == 1) (open_newer m f (n + 1) (d ∷ bs) clean)

same_versions : (hs : List Holding) → map version_in (map (λ h. h.bytes) hs) ≡ map (λ h. version_in h.bytes) hs
same_versions [] = refl
same_versions (h ∷ hs) = ap (λ (vs : List ℕ). version_in h.bytes ∷ vs) (same_versions hs)

shut_by : (c : Contents) (t : Bool) → IsSound c → c.is_failed ≡ false → c.is_open ≡ t → length c.live ≤ old_segments c → t ≡ false
shut_by c false sound works is all = refl
shut_by c true sound works is all =
    let newer = open_newer c.m c.f c.number (map (λ (h : Holding). h.bytes) c.live) (sound.holds.ends is works) in
    let same = ap old_in (same_versions c.live) in
    absurd (omega (arith, newer, same, all, length-map c.live (λ (h : Holding). h.bytes)))

pub all_old_is_shut : (c : Contents) → IsSound c → c.is_failed ≡ false → length c.live ≤ old_segments c → c.is_open ≡ false
all_old_is_shut c sound works all = (let off = shut_by c c.is_open sound works refl all in off)

pub few_old : (c : Contents) → old_segments c ≤ length c.live
few_old c = (let few = old_within (map (λ (h : Holding). version_in h.bytes) c.live) in omega
    (arith, few, length-map c.live (λ (h : Holding). version_in h.bytes)))

-- ---- the first segments stay

pub kept_at : (old now : Contents) (ps rs : List ℕ) (last n : ℕ) → IsSound old → old.is_failed ≡ false → MovedBehind last old now ps rs n
    → (i : ℕ) → i < old_segments old → slice_get now.live i ≡ slice_get old.live i
kept_at old now ps rs last n sound works x i less = elim (cases_lt (i + 1) (length old.live)) [
  | inl inner ↦ x.older.same i inner
  | inr newest ↦ (
      let few = few_old old in
      x.newest.all (all_old_is_shut old sound works (omega arith)) i (omega arith)
      )
]

take_same : (k : ℕ) (hs ks : List Holding) → k ≤ length hs → k ≤ length ks → ((i : ℕ) → i < k → slice_get ks i ≡ slice_get hs i) → take k ks ≡ take k hs
take_same zero hs ks a b same = refl
take_same (suc k) [] ks a b same = absurd (omega arith)
take_same (suc k) (h ∷ hs) [] a b same = absurd (omega arith)
take_same (suc k) (h ∷ hs) (x ∷ ks) a b same =
    let first : Some x ≡ Some h = same 0 (omega arith) in
    let e : x ≡ h = cc in
    ap (λ (y : Holding). y ∷ take k ks) e
    ∙ ap (λ (l : List Holding). h ∷ l) (take_same k hs ks (omega arith) (omega arith) (λ i less. same (suc i) (omega arith)))

pub kept_row : (old now : Contents) (ps rs : List ℕ) (last n : ℕ) → IsSound old → old.is_failed ≡ false → MovedBehind last old now ps rs n
    → take (old_segments old) now.live ≡ take (old_segments old) old.live
kept_row old now ps rs last n sound works x =
    let few = few_old old in
    let many = x.older.many in
    take_same (old_segments old) old.live now.live few (omega arith) (kept_at old now ps rs last n sound works x)

-- ---- their pages stand after them

weak_after : (a b : ℕ) (o : Option Place) → a ≤ b → IsAfter b o → IsAfter a o
weak_after a b None le is = tt
weak_after a b (Some place) le is = omega arith

get_there : (hs : List Holding) (i : ℕ) → i < length hs → (h : Holding) × (slice_get hs i ≡ Some h)
get_there [] i inside = absurd (omega arith)
get_there (h ∷ hs) zero inside = (h, refl)
get_there (h ∷ hs) (suc i) inside = get_there hs i (omega arith)

pub are_behind : (old now : Contents) (n : ℕ) → IsSound old → IsSound now → old.is_failed ≡ false
    → MovedBehind (last_of_old old) old now (pages_of_old old) [] n → AreBehind (old_segments old) now
are_behind old now n a b works x i page less there =
    let last = last_of_old old in
    let few = few_old old in
    let at = get_there old.live i (omega arith) in
    let h = at.0 in
    let is : slice_get now.live i ≡ Some h = kept_at old now (pages_of_old old) [] last n a works x i less ∙ at.1 in
    let table = x.table in
    let high = there.1 in
    let base : IsAfter last (base_of page (counted now)) =
    subst (λ (fs : List Frame). IsAfter last (base_of page fs)) (sym x.counts)
    (base_moved last (counted old) x.written page (length old.pages) x.holds.bases x.holds.told x.later there.0 (omega arith)) in
    let same : last_number now h ≡ last_number old h = plain_at now i h b x.works is ∙ sym (plain_at old i h a works at.1) in
    let most = among_at old old.live (old_segments old) i 0 h less at.1 in
    subst (λ (o : Option Holding). IfSome o (λ y. IsAfter (last_number now y) (base_of page (counted now)))) (sym is)
    (weak_after (last_number now h) last (base_of page (counted now)) (omega arith) base)

-- ---- and a segment stands after them

none_stands : (p : ℕ) (bs : List Block) (leaf : Leaf) → content p bs ≡ Some leaf → list_any (sets p) bs ≡ true
none_stands p bs leaf is = elim (cases_Bool (list_any (sets p) bs)) [
  | inl some ↦ some
  | inr none ↦ absurd (let e = sym (none_fold p bs none) ∙ is in cc)
]

first_leaf : (leaves : List Leaf) (n : ℕ) → length leaves ≡ n → 1 ≤ n → (leaf : Leaf) × (leaf_at 1 leaves ≡ Some leaf)
first_leaf [] n is some = absurd (omega arith)
first_leaf (l ∷ ls) n is some = (l, refl)

placed_upto : (last n i : ℕ) (bs : List Block) → n ≤ last → AllByRecursion (λ x. x.0.frame ≤ last) (placed n i bs)
placed_upto last n i [] le = tt
placed_upto last n i (b ∷ bs) le = (le, placed_upto last n (i + 1) bs le)

all_upto : (last : ℕ) (fs : List Frame) → AllByRecursion (λ f. f.number ≤ last) fs → AllByRecursion (λ x. x.0.frame ≤ last) (all_placed fs)
all_upto last [] are = tt
all_upto last (f ∷ fs) are =
    all_append (λ (x : Place × Block). x.0.frame ≤ last) (placed f.number 0 f.blocks) (all_placed fs) (placed_upto last f.number 0 f.blocks are.0)
    (all_upto last fs are.1)

take_whole : (k : ℕ) (hs : List Holding) → length hs ≤ k → take k hs ≡ hs
take_whole zero [] long = refl
take_whole (suc k) [] long = refl
take_whole zero (h ∷ hs) long = absurd (omega arith)
take_whole (suc k) (h ∷ hs) long = ap (λ (l : List Holding). h ∷ l) (take_whole k hs (omega arith))

-- if all segments have version 1, each counted frame stands in one of them
counted_upto : (c : Contents) → IsSound c → c.is_failed ≡ false → length c.live ≤ old_segments c → AllByRecursion (λ f. f.number ≤ last_of_old c) (counted c)
counted_upto c sound works all =
    let every = sound.holds.every works in
    let last : last_of_old c ≡ last_among c c.live = ap (last_among c) (take_whole (old_segments c) c.live all) in
    let numbered : AreFrom (first_number (counted c)) (frames_of (map (λ (h : Holding). h.bytes) c.live)) =
    subst (AreFrom (first_number (counted c))) every sound.holds.numbered in
    subst (λ (fs : List Frame). AllByRecursion (λ (f : Frame). f.number ≤ last_of_old c) fs) (sym every)
    (subst (λ (n : ℕ). AllByRecursion (λ (f : Frame). f.number ≤ n) (frames_of (map (λ (h : Holding). h.bytes) c.live))) (sym last)
    (frames_upto c c.live (first_number (counted c)) 0 numbered (λ i h is. plain_at c i h sound works is)))

-- so page 1 is old
first_old : (c : Contents) (leaves : List Leaf) → Stand c.m (counted c) leaves → AllByRecursion (λ f. f.number ≤ last_of_old c) (counted c) → 1 ≤ length leaves
    → is_old (last_of_old c) (base_of 1 (counted c)) ≡ true
first_old c leaves stand are some =
    let leaf = first_leaf leaves (length leaves) refl some in
    let there = none_stands 1 (blocks_of (counted c)) leaf.0 (stand.each 1 (omega arith) some ∙ leaf.1) in
    let place = some_last (λ q. q.frame ≤ last_of_old c) (sets 1) None (all_placed (counted c)) (all_upto (last_of_old c) (counted c) are)
    (any_all_placed (sets 1) (counted c) ∙ there) in
    ap (is_old (last_of_old c)) place.1 ∙ le-leb place.0.frame (last_of_old c) place.2

some_old : (last : ℕ) (frames : List Frame) (n : ℕ) → 1 ≤ n → is_old last (base_of 1 frames) ≡ true → old_from last frames 1 n ≡ [] → ⊥
some_old last frames zero some old none = absurd (omega arith)
some_old last frames (suc n) some old none =
    (let more : 1 ∷ old_from last frames 2 n ≡ [] =
    sym (ap (λ (t : Bool). if t then 1 ∷ old_from last frames 2 n else old_from last frames 2 n) old) ∙ none in absurd cc)

no_frames : (fs : List Frame) → length fs ≡ 0 → fs ≡ []
no_frames [] e = refl
no_frames (f ∷ fs) e = absurd (omega arith)

leaves_some : (m : ℕ) (frames : List Frame) (leaves : List Leaf) → Stand m frames leaves → 1 ≤ length leaves
leaves_some m frames [] stand = absurd stand.lawful.first
leaves_some m frames (l ∷ ls) stand = omega arith

-- after the pages were written a segment stands after those of version 1
pub more_left : (old now : Contents) (n : ℕ) → IsSound old → old.is_failed ≡ false → 1 ≤ length (counted old)
    → MovedBehind (last_of_old old) old now (pages_of_old old) [] n → old_segments old < length now.live
more_left old now n sound works some x = elim (cases_lt (old_segments old) (length old.live)) [
  | inl less ↦ (let many = x.older.many in omega arith)
  | inr all ↦ (
      let shut = all_old_is_shut old sound works all in
      elim (cases_lt 0 n) [
        | inl frames ↦ (let long = x.newest.begun shut frames in let few = few_old old in omega arith)
        | inr none ↦ (
            let stands = stands_some old.m (length old.pages) (counted old) some sound.holds.stands in
            let leaves = leaves_some old.m (counted old) stands.0 stands.1 in
            let written : x.written ≡ [] = no_frames x.written (let count = x.count in omega arith) in
            let pages : pages_of_old old ≡ [] = sym x.holds.told ∙ ap (λ (fs : List Frame). map page_of (blocks_of fs)) written in
            let many = stands.2 in
            absurd (some_old (last_of_old old) (counted old) (length old.pages) (omega arith)
            (first_old old stands.0 stands.1 (counted_upto old sound works all) leaves) pages)
            )
      ]
      )
] where
  stands_some : (m pages : ℕ) (fs : List Frame) → 1 ≤ length fs → IsStanding m fs pages
      → (leaves : List Leaf) × Stand m fs leaves × (length leaves ≡ pages)
  stands_some m pages fs some (inl none) = absurd (let e = ap (λ (l : List Frame). length l) none.0 in omega (arith, e, some))
  stands_some m pages fs some (inr stands) = stands

-- ---- as the function hands it on

among_below : (c : Contents) (hs : List Holding) (n w : ℕ) → c.next ≡ Some n → 1 ≤ n → w < n → fold (λ last x. max last (last_number c x)) w hs < n
among_below c [] n w is some less = less
among_below c (h ∷ hs) n w is some less = (let one = oldest_by c (h ∷ []) n is some in among_below c hs n (max w (last_number c h)) is some (omega arith))

pub old_behind : (c : Contents) → IsSound c → IsNextBehind (last_of_old c) c
old_behind c sound = λ n is. (let some = (next_range c n sound is).0 in among_below c (take (old_segments c) c.live) n 0 is some (omega arith))

pub some_count : (n k : ℕ) → n ≡ k → (n ≡ 0 → ⊥) → 1 ≤ k
some_count zero k same none = absurd (none refl)
some_count (suc n) k same none = omega arith

-- the pages that are written again are those of the segments of version 1
pub pages_are : (c : Contents) (slice items : List ℕ) (last count : ℕ) → slice ≡ items → items ≡ pages_upto last c → last ≡ last_among c (take count c.live)
    → count ≡ old_segments c → slice ≡ pages_of_old c
pages_are c slice items last count a b d e =
    a ∙ b ∙ ap (λ (n : ℕ). pages_upto n c) (d ∙ ap (λ (k : ℕ). last_among c (take k c.live)) e)

-- what was moved, or where it stopped, said of them
pub moved_old : {slice items : List ℕ} {last count frames : ℕ} (c now : Contents) → IsSound c → slice ≡ items → items ≡ pages_upto last c
    → last ≡ last_among c (take count c.live) → count ≡ old_segments c
    → ((k : ℕ) → IsNextBehind k c → MovedBehind k c now slice [] frames) → MovedBehind (last_of_old c) c now (pages_of_old c) [] frames
moved_old {slice} {items} {last} {count} {frames} c now sound a b d e moved =
    subst (λ (ps : List ℕ). MovedBehind (last_of_old c) c now ps [] frames) (pages_are c slice items last count a b d e)
    (moved (last_of_old c) (old_behind c sound))

pub stopped_old : {slice items : List ℕ} {last count : ℕ} {fault : LogFault} (c now : Contents) → IsSound c → slice ≡ items → items ≡ pages_upto last c
    → last ≡ last_among c (take count c.live) → count ≡ old_segments c
    → ((k : ℕ) → IsNextBehind k c → StoppedBehind k c slice fault now) → StoppedBehind (last_of_old c) c (pages_of_old c) fault now
stopped_old {slice} {items} {last} {count} {fault} c now sound a b d e stopped =
    subst (λ (ps : List ℕ). StoppedBehind (last_of_old c) c ps fault now) (pages_are c slice items last count a b d e)
    (stopped (last_of_old c) (old_behind c sound))

pub never_failed : (last : ℕ) (old new : Contents) (pages : List ℕ) (fault : LogFault) → StoppedBehind last old pages fault new → fault ≡ Failed → ⊥
never_failed last old new pages fault s is = subst (λ (f : LogFault). Refused f s.then_log new) is s.refused

pub halts : (old new : Contents) (fault : LogFault) → 1 ≤ old_segments old → old.is_failed ≡ false
    → StoppedBehind (last_of_old old) old (pages_of_old old) fault new → RefusesUpgrade (Log fault) old new
halts old new NoMemory some works s = record { some = some; worked = works; stopped = s }
halts old new BadConfig some works s = absurd s.refused
halts old new NoSegment some works s = record { some = some; worked = works; stopped = s }
halts old new (Device lease) some works s = record { some = some; worked = works; stopped = s }
halts old new Failed some works s = absurd s.refused
halts old new Spent some works s = record { some = some; worked = works; stopped = s }
halts old new NoPage some works s = absurd s.refused

-- ---- the leases of those that are given up come first in the row

leases_dropped : (k : ℕ) (hs ss : List Holding) → k ≤ length hs
    → map (λ (h : Holding). h.lease) (drop k hs ++ ss) ≡ drop k (map (λ (h : Holding). h.lease) (hs ++ ss))
leases_dropped zero hs ss le = refl
leases_dropped (suc k) [] ss le = absurd (omega arith)
leases_dropped (suc k) (h ∷ hs) ss le = leases_dropped k hs ss (omega arith)

roster_dropped : (k : ℕ) (old now new : Contents) → k ≤ length now.live → roster now ≡ roster old → GivenUp k now new
    → roster new ≡ drop k (roster old)
roster_dropped k old now new few same x =
    ap roster x.given_up ∙ leases_dropped k now.live now.spares few ∙ ap (drop k) same

-- ---- and none of version 1 is left

old_by : (l : Limits) (n : ℕ) (hs : List Holding) → AreLive l n (map (λ h. h.bytes) hs) → l.old_to < n + length hs
    → old_in (map (λ h. version_in h.bytes) hs) ≡ l.old_to + 1 - n
old_by l n [] are news = omega arith
old_by l n (h ∷ hs) are news =
    (elim (nat_le n l.old_to) as (λ t. nat_le n l.old_to ≡ t → version_in h.bytes ≡ (if t then 1 else latest)
    → (if version_in h.bytes == 1 then suc (old_in (map (λ h. version_in h.bytes) hs)) else 0) ≡ l.old_to + 1 - n) [
      | true ↦ λ e v. rw v (let rest = old_by l (n + 1) hs are.1 (omega arith) in let le = leb-true n l.old_to e in omega arith)
      | false ↦ λ e v. rw v (let gt = leb-false n l.old_to e in omega arith)
    ] refl (live_version l n h.bytes are.0))

-- the last number of version 1 says how many there are
pub old_are : (c : Contents) → IsSound c → old_segments c ≡ c.old_to + 1 - c.number
old_are c sound =
    let many = length-map c.live (λ (h : Holding). h.bytes) in
    let news = sound.holds.news in
    old_by (limits_of (image c) sound.holds.live.0) c.number c.live sound.holds.live.1 (omega arith)

pub none_left : (old new : Contents) (upgraded : Upgraded) → IsSound old → IsSound new → IsUpgraded old upgraded new → old_segments new ≡ 0
none_left old new upgraded a b x =
    let to = ap (λ (c : Contents). c.old_to) x.given_up.given_up ∙ x.moved.old_to in
    let number = ap (λ (c : Contents). c.number) x.given_up.given_up in
    let began = x.moved.number in
    let one = old_are old a in
    let two = old_are new b in
    omega arith

pub all_upgraded : (old now new : Contents) (segments pages : ℕ) (frames : ℕ) → IsSound old → IsSound now → 1 ≤ old_segments old → old.is_failed ≡ false
    → segments ≡ old_segments old → MovedBehind (last_of_old old) old now (pages_of_old old) [] frames → GivenUp segments now new
    → GivenInTurn segments now → pages ≡ length (pages_of_old old) → IsUpgraded old (record { segments = segments; pages = pages; frames = frames }) new
all_upgraded old now new segments pages frames a b some works same x given turn many = record {
  some = some;
  worked = works;
  then_log = now;
  moved = x;
  sound = b;
  given_up = subst (λ (k : ℕ). GivenUp k now new) same given;
  in_turn = subst (λ (k : ℕ). GivenInTurn k now) same turn;
  kept = kept_row old now (pages_of_old old) [] (last_of_old old) frames a works x;
  segments = same;
  pages = many;
  leases = subst (λ (k : ℕ). roster new ≡ drop k (roster old)) same
      (roster_dropped segments old now new (let few = few_old old in let more = x.older.many in omega arith) (same_roster old now x.boxes_grew) given);
}
