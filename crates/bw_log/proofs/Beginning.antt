-- A segment begun, and a frame torn at the end of the newest one.

use Rattle.std.proofs.Common.{◌≡◌, ℕ, ◌+◌, ◌^◌, ◌<◌, ◌⊎◌, inl, inr, Bool, true, false, if◌then◌else◌, Option, Some, List, [], ◌∷◌, ◌++◌, length, take, map}
use Rattle.std.proofs.Common.{refl, sym, ap, subst, ◌∙◌, append_assoc, append-nil, arith, length-append}
use Rattle.std.proofs.lemmas.Bool.{le-ltb}
use Rattle.std.specs.List.{filter, flat_map}
use Rattle.bw_record.specs.Version.{latest}
use Rattle.bw_codec.specs.Grammar.{frame_bytes, header_bytes, IsHeader}
use Rattle.bw_codec.specs.Reading.{version_in}
use Rattle.bw_record.specs.declared.block.Frame.{Frame}
use Rattle.bw_codec.specs.declared.head.Header.{Header}
use Rattle.bw_log.specs.Segments.{segment_frames, frames_of, header_with, entry_of, entries_from, entries, is_before_next, next_of, AreFrom}
use Rattle.bw_log.specs.Places.{first_number, AreLinked}
use Rattle.bw_page.specs.Standing.{Stand}
use Rattle.bw_log.specs.Contents.{Image, limits_of, IsImage, IsStanding, IsTable, CouldFollow, IsLeft, counted_in, counted_at}
use Rattle.bw_log.specs.declared.places.FrameAt.{FrameAt}
use Rattle.bw_log.proofs.Reread.{header_is_clean, clean_torn, clean_is_new, clean_more, header_new, new_is_live, new_version}
use Rattle.bw_log.proofs.Adding.{Takes, takes_clean, takes_live, takes_news, frames_with, frames_last, entries_last, entries_more, live_last, clean_last}

-- ---- what a failed append left, in another image

could_same : (i j : Image) (x : Frame) → j.next ≡ i.next → j.m ≡ i.m → counted_in j ≡ counted_in i → CouldFollow i x → CouldFollow j x
could_same i j x next m counts f = record {
  number = next ∙ f.number;
  links = subst (λ (fs : List Frame). AreLinked (fs ++ x ∷ [])) (sym counts) f.links;
  leaves = f.leaves;
  stands = subst (λ (n : ℕ). Stand n (counted_in j ++ x ∷ []) f.leaves) (sym m)
      (subst (λ (fs : List Frame). Stand i.m (fs ++ x ∷ []) f.leaves) (sym counts) f.stands);
}

left_same : (i j : Image) → j.next ≡ i.next → j.m ≡ i.m → counted_in j ≡ counted_in i → frames_of j.bytes ≡ frames_of i.bytes → IsLeft i → IsLeft j
left_same i j next m counts frames (inl none) = inl (frames ∙ none ∙ sym counts)
left_same i j next m counts frames (inr one) =
    inr (one.0, frames ∙ one.1 ∙ ap (λ (fs : List Frame). fs ++ one.0 ∷ []) (sym counts), could_same i j one.0 next m counts one.2)

-- ---- a new current segment

abbrev pub header_in : Image → Header
header_in i = header_with (i.number + length i.bytes) i.m i.f

-- the image with a segment of only a header
abbrev pub with_segment : Image → Image
with_segment i = record i { bytes = i.bytes ++ header_bytes (header_in i) ∷ []; is_open = true }

lawful_header : (i : Image) → IsImage i → i.number + length i.bytes < 2 ^ 64 → IsHeader (header_in i)
lawful_header i h fits = let n = h.numbers in let l = h.limits in record { version = inr refl; number = (omega arith, fits); m = (l.0, l.1); f = (l.2, l.3) }

pub frames_begun : (i : Image) → IsImage i → i.number + length i.bytes < 2 ^ 64 → frames_of (with_segment i).bytes ≡ frames_of i.bytes
frames_begun i h fits =
    let clean = header_is_clean i.m i.f (i.number + length i.bytes) (lawful_header i h fits) in
    frames_last i.bytes (header_bytes (header_in i)) ∙ ap (λ (l : List Frame). frames_of i.bytes ++ l) clean.0 ∙ append-nil (frames_of i.bytes)

entries_begun : (i : Image) → IsImage i → i.number + length i.bytes < 2 ^ 64 → entries i.number (with_segment i).bytes ≡ entries i.number i.bytes
entries_begun i h fits =
    let clean = header_is_clean i.m i.f (i.number + length i.bytes) (lawful_header i h fits) in
    entries_last i.number i.bytes (header_bytes (header_in i))
    ∙ ap (λ (fs : List Frame). entries i.number i.bytes ++ entries_from (version_in (header_bytes (header_in i))) (i.number + length i.bytes) 24 fs) clean.0
    ∙ append-nil (entries i.number i.bytes)

pub counted_begun : (i : Image) → IsImage i → i.number + length i.bytes < 2 ^ 64 → counted_in (with_segment i) ≡ counted_in i
counted_begun i h fits = ap (filter (λ (f : Frame). is_before_next i.next f.number)) (frames_begun i h fits)

pub sound_begun : (i : Image) → IsImage i → i.number + length i.bytes < 2 ^ 64 → IsImage (with_segment i)
sound_begun i h fits =
    let clean = header_is_clean i.m i.f (i.number + length i.bytes) (lawful_header i h fits) in
    let counts = sym (counted_begun i h fits) in
    record {
      limits = h.limits;
      numbers = h.numbers;
      live = (
        h.live.0,
        (let l = limits_of i h.live.0 in let n = i.number + length i.bytes in
            live_last l i.number i.bytes (header_bytes (header_in i)) h.live.1
            (new_is_live l n (header_bytes (header_in i)) (header_new l n h.news) (clean_is_new i.m i.f n (header_bytes (header_in i)) clean.1))),
      );
      news = (let n = h.news in omega (arith, length-append i.bytes (header_bytes (header_in i) ∷ [])));
      ends = λ _ _. clean_last i.m i.f i.number i.bytes (header_bytes (header_in i)) clean.1;
      every = λ works. counted_begun i h fits ∙ h.every works ∙ sym (frames_begun i h fits);
      left = λ failed. left_same i (with_segment i) refl refl (counted_begun i h fits) (frames_begun i h fits) (h.left failed);
      numbered = subst (λ (fs : List Frame). AreFrom (first_number fs) fs) counts h.numbered;
      follows = h.follows ∙ ap next_of counts;
      listed = h.listed ∙ ap (λ (l : List (FrameAt × Frame)). map (λ (e : FrameAt × Frame). e.0)
          (filter (λ (e : FrameAt × Frame). is_before_next i.next e.1.number) l)) (sym (entries_begun i h fits));
      count = h.count;
      linked = subst AreLinked counts h.linked;
      stands = subst (λ (fs : List Frame). IsStanding i.m fs (length i.pages)) counts h.stands;
      table = subst (IsTable i.pages) counts h.table;
    }

-- ---- a frame torn

filter_without : {X : Type 0} (test : X → Bool) (xs : List X) (y : X) → test y ≡ false → filter test (xs ++ y ∷ []) ≡ filter test xs
filter_without test [] y none = rw none refl
filter_without {X} test (x ∷ xs) y none =
    elim (test x) as (λ t. (if t then x ∷ filter test (xs ++ y ∷ []) else filter test (xs ++ y ∷ [])) ≡ (if t then x ∷ filter test xs else filter test xs)) [
      | true ↦ ap (λ (l : List X). x ∷ l) (filter_without test xs y none)
      | false ↦ filter_without test xs y none
    ]

-- the image with the first n bytes of a frame at its end, after the append failed
abbrev pub torn_image : Image → List (List ℕ) → List ℕ → Frame → ℕ → Image
torn_image i older b x n = record i { bytes = older ++ (b ++ take n (frame_bytes x)) ∷ []; is_failed = true }

not_before : (x : Frame) → is_before_next (Some x.number) x.number ≡ false
not_before x = le-ltb x.number x.number (omega arith)

-- the frames that a torn append leaves: those before, or one more that no next number lets count
torn_frames : (i : Image) (older : List (List ℕ)) (b : List ℕ) (x : Frame) (n : ℕ) → Takes i older b x
    → (frames_of (older ++ (b ++ take n (frame_bytes x)) ∷ []) ≡ frames_of i.bytes) ⊎ (b ++ take n (frame_bytes x) ≡ b ++ frame_bytes x)
torn_frames i older b x n t =
    let clean = takes_clean i older b x t in
    elim (clean_torn i.m i.f (i.number + length older) b x n clean t.lawful).1 [
      | inl same ↦ inl (frames_last older (b ++ take n (frame_bytes x)) ∙ ap (λ (l : List Frame). frames_of older ++ l) same ∙ sym (frames_last older b)
          ∙ ap frames_of (sym t.ends))
      | inr whole ↦ inr whole
    ]

pub counted_torn : (i : Image) (older : List (List ℕ)) (b : List ℕ) (x : Frame) (n : ℕ) → Takes i older b x
    → counted_in (torn_image i older b x n) ≡ counted_in i
counted_torn i older b x n t =
    let test = λ (f : Frame). is_before_next i.next f.number in
    let none : test x ≡ false = ap (λ (o : Option ℕ). is_before_next o x.number) t.number ∙ not_before x in
    elim (torn_frames i older b x n t) [
      | inl same ↦ ap (filter test) same
      | inr whole ↦ ap (λ (c : List ℕ). filter test (frames_of (older ++ c ∷ []))) whole ∙ ap (filter test) (frames_with i older b x t)
          ∙ filter_without test (frames_of i.bytes) x none
    ]

entries_torn : (i : Image) (older : List (List ℕ)) (b : List ℕ) (x : Frame) (n : ℕ) → Takes i older b x → counted_at (torn_image i older b x n) ≡ counted_at i
entries_torn i older b x n t =
    let clean = takes_clean i older b x t in
    let test = λ (e : FrameAt × Frame). is_before_next i.next e.1.number in
    let number = i.number + length older in
    let now = b ++ take n (frame_bytes x) in
    let torn = clean_torn i.m i.f number b x n clean t.lawful in
    let old_version = new_version i.m i.f number b (clean_is_new i.m i.f number b clean) in
    let now_version = new_version i.m i.f number now torn.0 in
    let was : entries i.number i.bytes ≡ entries i.number older ++ entries_from latest number 24 (segment_frames b) =
    ap (entries i.number) t.ends ∙ entries_last i.number older b
    ∙ ap (λ (v : ℕ). entries i.number older ++ entries_from v number 24 (segment_frames b)) old_version in
    let is : entries i.number (older ++ now ∷ []) ≡ entries i.number older ++ entries_from latest number 24 (segment_frames now) =
    entries_last i.number older now ∙ ap (λ (v : ℕ). entries i.number older ++ entries_from v number 24 (segment_frames now)) now_version in
    elim torn.1 [
      | inl same ↦ ap (λ (l : List (FrameAt × Frame)). map (λ (e : FrameAt × Frame). e.0) (filter test l))
          (is ∙ ap (λ (fs : List Frame). entries i.number older ++ entries_from latest number 24 fs) same ∙ sym was)
      | inr whole ↦ (
          let more = clean_more i.m i.f number b x clean t.lawful in
          let line : FrameAt × Frame = (entry_of latest number (24 + length (flat_map frame_bytes (segment_frames b))) x, x) in
          let none : test line ≡ false = ap (λ (o : Option ℕ). is_before_next o x.number) t.number ∙ not_before x in
          let there : entries i.number (older ++ now ∷ []) ≡ entries i.number i.bytes ++ line ∷ [] =
          is
          ∙ ap (λ (c : List ℕ). entries i.number older ++ entries_from latest number 24 (segment_frames c)) whole
          ∙ ap (λ (fs : List Frame). entries i.number older ++ entries_from latest number 24 fs) more.0
          ∙ ap (λ (l : List (FrameAt × Frame)). entries i.number older ++ l) (entries_more latest number 24 (segment_frames b) x)
          ∙ sym (append_assoc (entries i.number older) (entries_from latest number 24 (segment_frames b)) (line ∷ []))
          ∙ ap (λ (l : List (FrameAt × Frame)). l ++ line ∷ []) (sym was) in
          ap (λ (l : List (FrameAt × Frame)). map (λ (e : FrameAt × Frame). e.0) (filter test l)) there
          ∙ ap (λ (l : List (FrameAt × Frame)). map (λ (e : FrameAt × Frame). e.0) l) (filter_without test (entries i.number i.bytes) line none))
    ]

-- the whole frames are the counted ones, or these and the one that was appended
pub torn_left : (i : Image) (older : List (List ℕ)) (b : List ℕ) (x : Frame) (n : ℕ) → Takes i older b x
    → (frames_of (torn_image i older b x n).bytes ≡ counted_in i) ⊎ (frames_of (torn_image i older b x n).bytes ≡ counted_in i ++ x ∷ [])
torn_left i older b x n t =
    let all = sym (t.holds.every t.works) in
    elim (torn_frames i older b x n t) [
      | inl same ↦ inl (same ∙ all)
      | inr whole ↦ inr (ap (λ (c : List ℕ). frames_of (older ++ c ∷ [])) whole ∙ frames_with i older b x t ∙ ap (λ (fs : List Frame). fs ++ x ∷ []) all)
    ]

is_left : (i j : Image) (x : Frame) → j.next ≡ i.next → j.m ≡ i.m → counted_in j ≡ counted_in i → CouldFollow i x
    → (frames_of j.bytes ≡ counted_in i) ⊎ (frames_of j.bytes ≡ counted_in i ++ x ∷ []) → IsLeft j
is_left i j x next m counts f (inl none) = inl (none ∙ sym counts)
is_left i j x next m counts f (inr one) = inr (x, one ∙ ap (λ (fs : List Frame). fs ++ x ∷ []) (sym counts), could_same i j x next m counts f)

pub sound_torn : (i : Image) (older : List (List ℕ)) (b : List ℕ) (x : Frame) (n : ℕ) → Takes i older b x → CouldFollow i x → IsImage (torn_image i older b x n)
sound_torn i older b x n t f =
    let h = t.holds in
    let clean = takes_clean i older b x t in
    let torn = clean_torn i.m i.f (i.number + length older) b x n clean t.lawful in
    let counts = sym (counted_torn i older b x n t) in
    record {
      limits = h.limits;
      numbers = h.numbers;
      live = (h.live.0, takes_live i older b (b ++ take n (frame_bytes x)) x t torn.0);
      news = takes_news i older b (b ++ take n (frame_bytes x)) x t;
      ends = λ _ works. absurd cc;
      every = λ works. absurd cc;
      left = λ _. is_left i (torn_image i older b x n) x refl refl (counted_torn i older b x n t) f (torn_left i older b x n t);
      numbered = subst (λ (fs : List Frame). AreFrom (first_number fs) fs) counts h.numbered;
      follows = h.follows ∙ ap next_of counts;
      listed = h.listed ∙ sym (entries_torn i older b x n t);
      count = h.count;
      linked = subst AreLinked counts h.linked;
      stands = subst (λ (fs : List Frame). IsStanding i.m fs (length i.pages)) counts h.stands;
      table = subst (IsTable i.pages) counts h.table;
    }

-- a log that failed without a byte of a live segment changed: a header was torn on a spare
abbrev pub failed_image : Image → Image
failed_image i = record i { is_failed = true }

pub sound_failed : (i : Image) → IsImage i → i.is_failed ≡ false → IsImage (failed_image i)
sound_failed i h works = record {
  limits = h.limits;
  numbers = h.numbers;
  live = h.live;
  news = h.news;
  ends = λ _ works. absurd cc;
  every = λ works. absurd cc;
  left = λ _. inl (sym (h.every works));
  numbered = h.numbered;
  follows = h.follows;
  listed = h.listed;
  count = h.count;
  linked = h.linked;
  stands = h.stands;
  table = h.table;
}
