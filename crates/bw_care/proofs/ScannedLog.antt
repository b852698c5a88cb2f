-- A log over segments that a scan has read is sound.

use Rattle.std.proofs.Common.{inl, inr, ◌≡◌, ℕ, suc, ◌+◌, ◌^◌, ◌<◌, ◌≤◌, nat_lt, Bool, true, false, if◌then◌else◌, Option, Some, None, List, []}
use Rattle.std.proofs.Common.{◌∷◌, length, map, refl, sym, ap, subst, ◌∙◌, arith}
use Rattle.std.specs.List.{fold, filter, AllByRecursion}
use Rattle.std.proofs.lemmas.Bool.{lt-ltb}
use Rattle.bw_record.specs.declared.block.Frame.{Frame}
use Rattle.bw_record.specs.declared.leaf.Leaf.{Leaf}
use Rattle.bw_page.specs.Standing.{Stand}
use Rattle.bw_log.specs.Places.{first_number, AreLinked}
use Rattle.bw_log.specs.Segments.{frames_of, entries, AreLive, IsCleanLast, AreFrom, following, is_before_next, next_of}
use Rattle.bw_log.specs.Contents.{Image, IsImage, limits_of, IsTable, counted_in, counted_at}
use Rattle.bw_log.specs.declared.places.FrameAt.{FrameAt}
use Rattle.bw_log.proofs.Entries.{frames_of_entries}

filter_id : {X : Type 0} (test : X → Bool) (xs : List X) → AllByRecursion (λ x. test x ≡ true) xs → filter test xs ≡ xs
filter_id test [] all = refl
filter_id {X} test (x ∷ xs) all = ap (λ (t : Bool). if t then x ∷ filter test xs else filter test xs) all.0
    ∙ ap (λ (l : List X). x ∷ l) (filter_id test xs all.1)

unmapped : {A B : Type 0} (P : B → Type 0) (g : A → B) (xs : List A) → AllByRecursion P (map g xs) → AllByRecursion (λ x. P (g x)) xs
unmapped P g [] all = tt
unmapped P g (x ∷ xs) all = (all.0, unmapped P g xs all.1)

before_by : (k n : ℕ) (t : Bool) → nat_lt (k + 1) (2 ^ 64) ≡ t → n ≤ k → is_before_next (if t then Some (k + 1) else None) n ≡ true
before_by k n true is within = lt-ltb n (k + 1) (omega arith)
before_by k n false is within = refl

before : (k n : ℕ) → n ≤ k → is_before_next (following k) n ≡ true
before k n within = before_by k n (nat_lt (k + 1) (2 ^ 64)) refl within

all_before : (k n : ℕ) (fs : List Frame) → AreFrom n fs → n + length fs ≤ k + 1 → AllByRecursion (λ f. is_before_next (following k) f.number ≡ true) fs
all_before k n [] from within = tt
all_before k n (f ∷ fs) from within = (let number = from.0 in before k f.number (omega arith), all_before k (n + 1) fs from.1 (omega arith))

next_from : (was : Option ℕ) (n : ℕ) (f : Frame) (fs : List Frame) → AreFrom n (f ∷ fs)
    → fold (λ o x. following x.number) was (f ∷ fs) ≡ following (n + length fs)
next_from was n f [] from = (let same : f.number ≡ n + 0 = (let number = from.0 in omega arith) in ap following same)
next_from was n f (g ∷ fs) from = (let same : n + 1 + length fs ≡ n + suc (length fs) = omega arith in next_from (following f.number) (n + 1) g fs from.1
    ∙ ap following same)

counted_all : (n : ℕ) (fs : List Frame) → AreFrom n fs → 1 ≤ length fs → AllByRecursion (λ f. is_before_next (next_of fs) f.number ≡ true) fs
counted_all n [] from some = absurd (omega arith)
counted_all n (f ∷ fs) from some =
    subst (λ (o : Option ℕ). AllByRecursion (λ x. is_before_next o x.number ≡ true) (f ∷ fs)) (sym (next_from (Some 1) n f fs from))
    (all_before (n + length fs) n (f ∷ fs) from (omega arith))

-- what a scan has seen of the segments, as a log has it
pub record IsScanned (i : Image) (leaves : List Leaf) : Type 0 where
  pub limits : (4 ≤ i.m) × (i.m ≤ 32) × (65536 ≤ i.f) × (i.f ≤ 262144)
  pub numbers : 1 ≤ i.number
  pub live : (old_f : ℕ) × AreLive (limits_of i old_f) i.number i.bytes
  pub news : i.old_to < i.number + length i.bytes
  pub ends : i.is_open ≡ true → IsCleanLast i.m i.f i.number i.bytes
  pub some : 1 ≤ length (frames_of i.bytes)
  pub numbered : AreFrom (first_number (frames_of i.bytes)) (frames_of i.bytes)
  pub follows : i.next ≡ next_of (frames_of i.bytes)
  pub lines : i.frames ≡ map (λ e. e.0) (entries i.number i.bytes)
  pub linked : AreLinked (frames_of i.bytes)
  pub stands : Stand i.m (frames_of i.bytes) leaves
  pub count : length leaves ≡ length i.pages
  pub few : length i.pages < 2 ^ 32
  pub table : IsTable i.pages (frames_of i.bytes)

pub counts_all : (i : Image) (leaves : List Leaf) → IsScanned i leaves → counted_in i ≡ frames_of i.bytes
counts_all i leaves s =
    let fs = frames_of i.bytes in
    ap (λ (o : Option ℕ). filter (λ (f : Frame). is_before_next o f.number) fs) s.follows
    ∙ filter_id (λ (f : Frame). is_before_next (next_of fs) f.number) fs (counted_all (first_number fs) fs s.numbered s.some)

lines_all : (i : Image) (leaves : List Leaf) → IsScanned i leaves → counted_at i ≡ map (λ e. e.0) (entries i.number i.bytes)
lines_all i leaves s =
    let fs = frames_of i.bytes in
    let es = entries i.number i.bytes in
    let all : AllByRecursion (λ (e : FrameAt × Frame). is_before_next (next_of fs) e.1.number ≡ true) es =
    unmapped (λ (f : Frame). is_before_next (next_of fs) f.number ≡ true) (λ (e : FrameAt × Frame). e.1) es
    (subst (AllByRecursion (λ (f : Frame). is_before_next (next_of fs) f.number ≡ true)) (sym (frames_of_entries i.number i.bytes))
    (counted_all (first_number fs) fs s.numbered s.some)) in
    ap (λ (o : Option ℕ). map (λ (e : FrameAt × Frame). e.0) (filter (λ (e : FrameAt × Frame). is_before_next o e.1.number) es)) s.follows
    ∙ ap (map (λ (e : FrameAt × Frame). e.0)) (filter_id (λ (e : FrameAt × Frame). is_before_next (next_of fs) e.1.number) es all)

pub scanned_image : (i : Image) (leaves : List Leaf) → IsScanned i leaves → IsImage i
scanned_image i leaves s =
    let all = counts_all i leaves s in
    record {
      limits = s.limits;
      numbers = s.numbers;
      live = s.live;
      news = s.news;
      ends = λ opened works. s.ends opened;
      every = λ works. all;
      left = λ failed. inl (sym all);
      numbered = subst (λ (fs : List Frame). AreFrom (first_number fs) fs) (sym all) s.numbered;
      follows = s.follows ∙ ap next_of (sym all);
      listed = s.lines ∙ sym (lines_all i leaves s);
      count = s.few;
      linked = subst AreLinked (sym all) s.linked;
      stands = inr (leaves, subst (λ (fs : List Frame). Stand i.m fs leaves) (sym all) s.stands, s.count);
      table = subst (IsTable i.pages) (sym all) s.table;
    }
