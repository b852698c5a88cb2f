-- A frame more at the end of the newest segment.

use Rattle.std.proofs.Common.{◌≡◌, ℕ, ◌+◌, ◌^◌, ◌<◌, ◌≤◌, inr, Bool, true, false, if◌then◌else◌, nat_lt, Option, Some, None, List, [], ◌∷◌, ◌++◌, length, map}
use Rattle.std.proofs.Common.{refl, sym, ap, subst, ◌∙◌, append_assoc, append-nil, arith, length-append}
use Rattle.std.proofs.lemmas.List.{map-append}
use Rattle.std.proofs.lemmas.Bool.{lt-ltb}
use Rattle.std.proofs.lemmas.Grind.{flat_map-append}
use Rattle.std.specs.List.{flat_map, filter, fold, AllByRecursion}
use Rattle.bw_record.specs.Version.{latest}
use Rattle.bw_codec.specs.Grammar.{frame_bytes, frame_bytes_in, IsFrame}
use Rattle.bw_codec.specs.Reading.{version_in}
use Rattle.bw_record.specs.declared.leaf.Leaf.{Leaf}
use Rattle.bw_record.specs.declared.block.Frame.{Frame}
use Rattle.bw_codec.proofs.Format.{held, found}
use Rattle.bw_page.specs.Standing.{Stand}
use Rattle.bw_log.specs.Places.{first_number, AreLinked}
use Rattle.bw_log.specs.Segments.{segment_frames, frames_of, Limits, header_with, header_in, IsLive, AreLive, IsClean, IsCleanLast, entry_of}
use Rattle.bw_log.specs.Segments.{entries_from, entries, following, next_of}
use Rattle.bw_log.specs.Segments.{is_before_next, AreFrom}
use Rattle.bw_log.specs.Contents.{Image, limits_of, IsImage, IsTable, counted_in, counted_at}
use Rattle.bw_log.specs.declared.places.FrameAt.{FrameAt}
use Rattle.bw_log.specs.declared.places.PageAt.{PageAt}
use Rattle.bw_log.proofs.Reread.{all-push, clean_more, clean_len, clean_is_new, clean_header, new_is_live, new_version, IsNew}

-- ---- lists

pub filter_all : {X : Type 0} (test : X → Bool) (xs : List X) → AllByRecursion (λ x. test x ≡ true) xs → filter test xs ≡ xs
filter_all test [] all = refl
filter_all {X} test (x ∷ xs) all = rw (all.0) (ap (λ (l : List X). x ∷ l) (filter_all test xs all.1))

pub all-more : {X : Type 0} (P Q : X → Type 0) (xs : List X) → ((x : X) → P x → Q x) → AllByRecursion P xs → AllByRecursion Q xs
all-more P Q [] more all = tt
all-more P Q (x ∷ xs) more all = (more x all.0, all-more P Q xs more all.1)

all-of_map : {X Y : Type 0} (P : Y → Type 0) (g : X → Y) (xs : List X) → AllByRecursion P (map g xs) → AllByRecursion (λ x. P (g x)) xs
all-of_map P g [] all = tt
all-of_map P g (x ∷ xs) all = (all.0, all-of_map P g xs all.1)

fold-push : {X Y : Type 0} (step : Y → X → Y) (acc : Y) (xs : List X) (x : X) → fold step acc (xs ++ x ∷ []) ≡ step (fold step acc xs) x
fold-push step acc [] x = refl
fold-push step acc (y ∷ ys) x = fold-push step (step acc y) ys x

-- ---- numbers

pub following_is : (n k : ℕ) → following n ≡ Some k → k ≡ n + 1
following_is n k e = let h = held (nat_lt (n + 1) (2 ^ 64)) (Some (n + 1)) k e in sym (found h.1)

next_from : (acc : Option ℕ) (n : ℕ) (f : Frame) (fs : List Frame) → AreFrom n (f ∷ fs)
    → fold (λ was g. following g.number) acc (f ∷ fs) ≡ following (n + length fs)
next_from acc n f [] from = ap following (from.0 ∙ omega arith)
next_from acc n f (g ∷ gs) from = next_from (following f.number) (n + 1) g gs from.1 ∙ ap following (omega arith)

-- numbers that go on without a gap
pub next_is : (n : ℕ) (f : Frame) (fs : List Frame) (k : ℕ) → AreFrom n (f ∷ fs) → next_of (f ∷ fs) ≡ Some k → k ≡ n + length (f ∷ fs)
next_is n f fs k from next = let e = following_is (n + length fs) k (sym (next_from (Some 1) n f fs from) ∙ next) in omega arith

all_below : (n k : ℕ) (fs : List Frame) → AreFrom n fs → n + length fs ≤ k → AllByRecursion (λ f. f.number < k) fs
all_below n k [] from few = tt
all_below n k (f ∷ fs) from few = (let e = from.0 in omega arith, all_below (n + 1) k fs from.1 (omega arith))

pub before_next : (fs : List Frame) (k : ℕ) → AreFrom (first_number fs) fs → next_of fs ≡ Some k → AllByRecursion (λ f. f.number < k) fs
before_next [] k from next = tt
before_next (f ∷ fs) k from next = let e = next_is f.number f fs k from next in all_below f.number k (f ∷ fs) from (omega arith)

pub from_more : (n : ℕ) (fs : List Frame) (x : Frame) → AreFrom n fs → x.number ≡ n + length fs → AreFrom n (fs ++ x ∷ [])
from_more n [] x from e = (e ∙ omega arith, tt)
from_more n (f ∷ fs) x from e = (from.0, from_more (n + 1) fs x from.1 (omega arith))

pub numbered_more : (fs : List Frame) (x : Frame) → AreFrom (first_number fs) fs → next_of fs ≡ Some x.number
    → AreFrom (first_number (fs ++ x ∷ [])) (fs ++ x ∷ [])
numbered_more [] x from next = (refl, tt)
numbered_more (f ∷ fs) x from next = from_more f.number (f ∷ fs) x from (next_is f.number f fs x.number from next)

-- numbers up to this one stand before the next
passes : (n k : ℕ) → k ≤ n → is_before_next (following n) k ≡ true
passes n k h =
    elim (nat_lt (n + 1) (2 ^ 64)) as (λ t. is_before_next (if t then Some (n + 1) else None) k ≡ true) [ true ↦ lt-ltb k (n + 1) (omega arith) | false ↦ refl ]

passes_some : (n k : ℕ) → k < n → is_before_next (Some n) k ≡ true
passes_some n k h = lt-ltb k n h

-- ---- segments and entries

pub frames_last : (older : List (List ℕ)) (b : List ℕ) → frames_of (older ++ b ∷ []) ≡ frames_of older ++ segment_frames b
frames_last older b = flat_map-append segment_frames older (b ∷ []) ∙ ap (λ (l : List Frame). frames_of older ++ l) (append-nil (segment_frames b))

pub entries_last : (n : ℕ) (older : List (List ℕ)) (b : List ℕ)
    → entries n (older ++ b ∷ []) ≡ entries n older ++ entries_from (version_in b) (n + length older) 24 (segment_frames b)
entries_last n [] b =
    append-nil (entries_from (version_in b) n 24 (segment_frames b)) ∙ ap (λ (k : ℕ). entries_from (version_in b) k 24 (segment_frames b)) (omega arith)
entries_last n (o ∷ os) b =
    ap (λ (l : List (FrameAt × Frame)). entries_from (version_in o) n 24 (segment_frames o) ++ l)
    (entries_last (n + 1) os b ∙ ap (λ (k : ℕ). entries (n + 1) os ++ entries_from (version_in b) k 24 (segment_frames b)) (omega arith))
    ∙ sym (append_assoc (entries_from (version_in o) n 24 (segment_frames o)) (entries (n + 1) os)
    (entries_from (version_in b) (n + length (o ∷ os)) 24 (segment_frames b)))

pub entries_more : (v s at : ℕ) (fs : List Frame) (x : Frame)
    → entries_from v s at (fs ++ x ∷ []) ≡ entries_from v s at fs ++ (entry_of v s (at + length (flat_map (frame_bytes_in v) fs)) x, x) ∷ []
entries_more v s at [] x = ap (λ (k : ℕ). (entry_of v s k x, x) ∷ []) (omega arith)
entries_more v s at (f ∷ fs) x =
    ap (λ (l : List (FrameAt × Frame)). (entry_of v s at f, f) ∷ l)
    (entries_more v s (at + length (frame_bytes_in v f)) fs x
    ∙ ap (λ (k : ℕ). entries_from v s (at + length (frame_bytes_in v f)) fs ++ (entry_of v s k x, x) ∷ [])
    (omega (arith, length-append (frame_bytes_in v f) (flat_map (frame_bytes_in v) fs))))

from_frames : (v s at : ℕ) (fs : List Frame) → map (λ (e : FrameAt × Frame). e.1) (entries_from v s at fs) ≡ fs
from_frames v s at [] = refl
from_frames v s at (f ∷ fs) = ap (λ (l : List Frame). f ∷ l) (from_frames v s (at + length (frame_bytes_in v f)) fs)

-- the entries' frames are the frames
pub entries_frames : (n : ℕ) (bs : List (List ℕ)) → map (λ (e : FrameAt × Frame). e.1) (entries n bs) ≡ frames_of bs
entries_frames n [] = refl
entries_frames n (b ∷ bs) =
    map-append (λ (e : FrameAt × Frame). e.1) (entries_from (version_in b) n 24 (segment_frames b)) (entries (n + 1) bs)
    ∙ ap (λ (l : List Frame). l ++ map (λ (e : FrameAt × Frame). e.1) (entries (n + 1) bs)) (from_frames (version_in b) n 24 (segment_frames b))
    ∙ ap (λ (l : List Frame). segment_frames b ++ l) (entries_frames (n + 1) bs)

-- ---- live segments

pub live_last : (l : Limits) (n : ℕ) (older : List (List ℕ)) (b : List ℕ) → AreLive l n older → IsLive l (n + length older) b → AreLive l n (older ++ b ∷ [])
live_last l n [] b live last = (subst (λ (k : ℕ). IsLive l k b) (omega arith) last, tt)
live_last l n (o ∷ os) b live last = (live.0, live_last l (n + 1) os b live.1 (subst (λ (k : ℕ). IsLive l k b) (omega arith) last))

pub live_older : (l : Limits) (n : ℕ) (older : List (List ℕ)) (b : List ℕ) → AreLive l n (older ++ b ∷ []) → AreLive l n older
live_older l n [] b live = tt
live_older l n (o ∷ os) b live = (live.0, live_older l (n + 1) os b live.1)

pub live_newest : (l : Limits) (n : ℕ) (older : List (List ℕ)) (b : List ℕ) → AreLive l n (older ++ b ∷ []) → IsLive l (n + length older) b
live_newest l n [] b live = subst (λ (k : ℕ). IsLive l k b) (omega arith) live.0
live_newest l n (o ∷ os) b live = subst (λ (k : ℕ). IsLive l k b) (omega arith) (live_newest l (n + 1) os b live.1)

pub clean_of_last : (m f n : ℕ) (older : List (List ℕ)) (b : List ℕ) → IsCleanLast m f n (older ++ b ∷ []) → IsClean m f (n + length older) b
clean_of_last m f n [] b last = subst (λ (k : ℕ). IsClean m f k b) (omega arith) last
clean_of_last m f n (o ∷ []) b last = subst (λ (k : ℕ). IsClean m f k b) (omega arith) last
clean_of_last m f n (o ∷ p ∷ os) b last = subst (λ (k : ℕ). IsClean m f k b) (omega arith) (clean_of_last m f (n + 1) (p ∷ os) b last)

pub clean_last : (m f n : ℕ) (older : List (List ℕ)) (b : List ℕ) → IsClean m f (n + length older) b → IsCleanLast m f n (older ++ b ∷ [])
clean_last m f n [] b clean = subst (λ (k : ℕ). IsClean m f k b) (omega arith) clean
clean_last m f n (o ∷ []) b clean = subst (λ (k : ℕ). IsClean m f k b) (omega arith) clean
clean_last m f n (o ∷ p ∷ os) b clean = clean_last m f (n + 1) (p ∷ os) b (subst (λ (k : ℕ). IsClean m f k b) (omega arith) clean)

-- ---- the image with a frame more

abbrev pub added : Image → List (List ℕ) → List ℕ → Frame → List PageAt → Image
added i older b x pages = record i {
  next = following x.number;
  bytes = older ++ (b ++ frame_bytes x) ∷ [];
  frames = i.frames ++ entry_of latest (i.number + length older) (length b) x ∷ [];
  pages = pages;
}

-- an image that takes a frame
pub record Takes (i : Image) (older : List (List ℕ)) (b : List ℕ) (x : Frame) : Type 0 where
  pub holds : IsImage i
  pub takes : i.is_open ≡ true
  pub works : i.is_failed ≡ false
  pub ends : i.bytes ≡ older ++ b ∷ []
  pub lawful : IsFrame i.m i.f x
  pub number : i.next ≡ Some x.number

pub takes_clean : (i : Image) (older : List (List ℕ)) (b : List ℕ) (x : Frame) → Takes i older b x → IsClean i.m i.f (i.number + length older) b
takes_clean i older b x t = clean_of_last i.m i.f i.number older b (subst (IsCleanLast i.m i.f i.number) t.ends (t.holds.ends t.takes t.works))

-- the segment that takes it has a header of version 2
pub takes_header : (i : Image) (older : List (List ℕ)) (b : List ℕ) (x : Frame) (t : Takes i older b x)
    → header_in (limits_of i t.holds.live.0) (i.number + length older) ≡ header_with (i.number + length older) i.m i.f
takes_header i older b x t =
    let l = limits_of i t.holds.live.0 in
    clean_header l (i.number + length older) b
    (live_newest l i.number older b (subst (AreLive l i.number) t.ends t.holds.live.1)) (takes_clean i older b x t)

-- the segments once its bytes are these
pub takes_live : (i : Image) (older : List (List ℕ)) (b c : List ℕ) (x : Frame) (t : Takes i older b x) → IsNew i.m i.f (i.number + length older) c
    → AreLive (limits_of i t.holds.live.0) i.number (older ++ c ∷ [])
takes_live i older b c x t new =
    let l = limits_of i t.holds.live.0 in
    live_last l i.number older c (live_older l i.number older b (subst (AreLive l i.number) t.ends t.holds.live.1))
    (new_is_live l (i.number + length older) c (takes_header i older b x t) new)

pub takes_news : (i : Image) (older : List (List ℕ)) (b c : List ℕ) (x : Frame) → Takes i older b x → i.old_to < i.number + length (older ++ c ∷ [])
takes_news i older b c x t =
    (let n = t.holds.news in let same = ap (λ (l : List (List ℕ)). length l) t.ends in
    omega (arith, same, length-append older (b ∷ []), length-append older (c ∷ [])))

-- all frames are counted, and stand before the new one
takes_before : (i : Image) (older : List (List ℕ)) (b : List ℕ) (x : Frame) → Takes i older b x → AllByRecursion (λ f. f.number < x.number) (frames_of i.bytes)
takes_before i older b x t =
    subst (λ (fs : List Frame). AllByRecursion (λ f. f.number < x.number) fs) (t.holds.every t.works)
    (before_next (counted_in i) x.number t.holds.numbered (sym t.holds.follows ∙ t.number))

pub frames_with : (i : Image) (older : List (List ℕ)) (b : List ℕ) (x : Frame) → Takes i older b x
    → frames_of (older ++ (b ++ frame_bytes x) ∷ []) ≡ frames_of i.bytes ++ x ∷ []
frames_with i older b x t =
    let more = clean_more i.m i.f (i.number + length older) b x (takes_clean i older b x t) t.lawful in
    frames_last older (b ++ frame_bytes x) ∙ ap (λ (l : List Frame). frames_of older ++ l) more.0
    ∙ sym (append_assoc (frames_of older) (segment_frames b) (x ∷ []))
    ∙ ap (λ (l : List Frame). l ++ x ∷ []) (sym (frames_last older b) ∙ ap frames_of (sym t.ends))

-- the counted frames are one more
pub counts_more : (i : Image) (older : List (List ℕ)) (b : List ℕ) (x : Frame) (pages : List PageAt) → Takes i older b x
    → counted_in (added i older b x pages) ≡ counted_in i ++ x ∷ []
counts_more i older b x pages t =
    let test = λ (f : Frame). is_before_next (following x.number) f.number in
    let all : AllByRecursion (λ f. test f ≡ true) (frames_of i.bytes ++ x ∷ []) =
    all-push (λ (f : Frame). test f ≡ true) (frames_of i.bytes) x
    (all-more (λ (f : Frame). f.number < x.number) (λ (f : Frame). test f ≡ true) (frames_of i.bytes) (λ f h. passes x.number f.number (omega arith))
    (takes_before i older b x t)) (passes x.number x.number (omega arith)) in
    ap (filter test) (frames_with i older b x t) ∙ filter_all test (frames_of i.bytes ++ x ∷ []) all
    ∙ ap (λ (l : List Frame). l ++ x ∷ []) (sym (t.holds.every t.works))

-- the table of frames has a line more
listed_more : (i : Image) (older : List (List ℕ)) (b : List ℕ) (x : Frame) (pages : List PageAt) → Takes i older b x
    → (added i older b x pages).frames ≡ counted_at (added i older b x pages)
listed_more i older b x pages t =
    let clean = takes_clean i older b x t in
    let more = clean_more i.m i.f (i.number + length older) b x clean t.lawful in
    let line = entry_of latest (i.number + length older) (length b) x in
    let old_version = new_version i.m i.f (i.number + length older) b (clean_is_new i.m i.f (i.number + length older) b clean) in
    let new_one = new_version i.m i.f (i.number + length older) (b ++ frame_bytes x)
    (clean_is_new i.m i.f (i.number + length older) (b ++ frame_bytes x) more.1) in
    let test = λ (e : FrameAt × Frame). is_before_next (following x.number) e.1.number in
    let old_test = λ (e : FrameAt × Frame). is_before_next i.next e.1.number in
    let old = entries i.number i.bytes in
    let there : entries i.number (older ++ (b ++ frame_bytes x) ∷ []) ≡ old ++ (line, x) ∷ [] =
    entries_last i.number older (b ++ frame_bytes x)
    ∙ ap (λ (v : ℕ). entries i.number older ++ entries_from v (i.number + length older) 24 (segment_frames (b ++ frame_bytes x))) new_one
    ∙ ap (λ (fs : List Frame). entries i.number older ++ entries_from latest (i.number + length older) 24 fs) more.0
    ∙ ap (λ (l : List (FrameAt × Frame)). entries i.number older ++ l)
    (entries_more latest (i.number + length older) 24 (segment_frames b) x
    ∙ ap (λ (k : ℕ). entries_from latest (i.number + length older) 24 (segment_frames b) ++ (entry_of latest (i.number + length older) k x, x) ∷ [])
    (sym (clean_len i.m i.f (i.number + length older) b clean)))
    ∙ sym (append_assoc (entries i.number older) (entries_from latest (i.number + length older) 24 (segment_frames b)) ((line, x) ∷ []))
    ∙ ap (λ (v : ℕ). (entries i.number older ++ entries_from v (i.number + length older) 24 (segment_frames b)) ++ (line, x) ∷ []) (sym old_version)
    ∙ ap (λ (l : List (FrameAt × Frame)). l ++ (line, x) ∷ []) (sym (entries_last i.number older b) ∙ ap (entries i.number) (sym t.ends)) in
    let below : AllByRecursion (λ (e : FrameAt × Frame). e.1.number < x.number) old =
    all-of_map (λ (f : Frame). f.number < x.number) (λ (e : FrameAt × Frame). e.1) old
    (subst (λ (fs : List Frame). AllByRecursion (λ f. f.number < x.number) fs) (sym (entries_frames i.number i.bytes)) (takes_before i older b x t)) in
    let all_new : AllByRecursion (λ e. test e ≡ true) (old ++ (line, x) ∷ []) =
    all-push (λ (e : FrameAt × Frame). test e ≡ true) old (line, x)
    (all-more (λ (e : FrameAt × Frame). e.1.number < x.number) (λ (e : FrameAt × Frame). test e ≡ true) old
    (λ e h. passes x.number e.1.number (omega arith)) below) (passes x.number x.number (omega arith)) in
    let all_old : AllByRecursion (λ e. old_test e ≡ true) old =
    subst (λ (o : Option ℕ). AllByRecursion (λ (e : FrameAt × Frame). is_before_next o e.1.number ≡ true) old) (sym t.number)
    (all-more (λ (e : FrameAt × Frame). e.1.number < x.number) (λ (e : FrameAt × Frame). is_before_next (Some x.number) e.1.number ≡ true) old
    (λ e h. passes_some x.number e.1.number h) below) in
    let was : i.frames ≡ map (λ (e : FrameAt × Frame). e.0) old =
    t.holds.listed ∙ ap (λ (l : List (FrameAt × Frame)). map (λ (e : FrameAt × Frame). e.0) l) (filter_all old_test old all_old) in
    ap (λ (l : List FrameAt). l ++ line ∷ []) was
    ∙ sym (map-append (λ (e : FrameAt × Frame). e.0) old ((line, x) ∷ []))
    ∙ ap (λ (l : List (FrameAt × Frame)). map (λ (e : FrameAt × Frame). e.0) l) (sym (ap (filter test) there ∙ filter_all test (old ++ (line, x) ∷ []) all_new))

-- the whole invariant of an image with a frame more
pub sound_more : (i : Image) (older : List (List ℕ)) (b : List ℕ) (x : Frame) (pages : List PageAt) (leaves : List Leaf) → Takes i older b x
    → AreLinked (counted_in i ++ x ∷ []) → Stand i.m (counted_in i ++ x ∷ []) leaves → IsTable pages (counted_in i ++ x ∷ []) → length leaves ≡ length pages
    → length pages < 2 ^ 32
    → IsImage (added i older b x pages)
sound_more i older b x pages leaves t linked stands table same few =
    let clean = takes_clean i older b x t in
    let more = clean_more i.m i.f (i.number + length older) b x clean t.lawful in
    let counts = sym (counts_more i older b x pages t) in
    record {
      limits = t.holds.limits;
      numbers = t.holds.numbers;
      live = (
        t.holds.live.0,
        takes_live i older b (b ++ frame_bytes x) x t (clean_is_new i.m i.f (i.number + length older) (b ++ frame_bytes x) more.1),
      );
      news = takes_news i older b (b ++ frame_bytes x) x t;
      ends = λ _ _. clean_last i.m i.f i.number older (b ++ frame_bytes x) more.1;
      every = λ _. counts_more i older b x pages t ∙ ap (λ (l : List Frame). l ++ x ∷ []) (t.holds.every t.works) ∙ sym (frames_with i older b x t);
      left = λ failed. (let no : true ≡ false = sym failed ∙ t.works in absurd cc);
      numbered = subst (λ (fs : List Frame). AreFrom (first_number fs) fs) counts
          (numbered_more (counted_in i) x t.holds.numbered (sym t.holds.follows ∙ t.number));
      follows = sym (fold-push (λ (was : Option ℕ) (f : Frame). following f.number) (Some 1) (counted_in i) x) ∙ ap next_of counts;
      listed = listed_more i older b x pages t;
      count = few;
      linked = subst AreLinked counts linked;
      stands = inr (leaves, subst (λ (fs : List Frame). Stand i.m fs leaves) counts stands, same);
      table = subst (IsTable pages) counts table;
    }
