-- The boxes of a log after a newest segment that is shortened, and after an append that failed.

use Rattle.std.proofs.Common.{inl, inr, ◌≡◌, ◌⊎◌, ℕ, zero, suc, ◌+◌, ◌<◌, ◌≤◌, ◌==◌, nat_lt, Bool, true, false, if◌then◌else◌, Err, List, [], ◌∷◌, ◌++◌}
use Rattle.std.proofs.Common.{length, map, take, drop, refl, sym, ap, ◌∙◌, subst, arith, append_assoc, append-nil, length-append, take_all, take-append-drop}
use Rattle.std.specs.Prelude.{IfSome}
use Rattle.std.specs.List.{flat_map, AllByRecursion}
use Rattle.std.proofs.lemmas.Bool.{cases_lt, lt-ltb, true≢false}
use Rattle.std.proofs.lemmas.List.{length-map, map-append}
use Rattle.byteorder.specs.Endian.{little_number}
use Rattle.bw_codec.specs.Bytes.{number_bytes}
use Rattle.bw_codec.specs.Grammar.{agrees, segment_word, frame_bytes_in, header_bytes, is_header, IsHeader}
use Rattle.bw_codec.specs.Reading.{version_in, header_in, heading_of}
use Rattle.bw_record.specs.declared.leaf.Leaf.{Leaf}
use Rattle.bw_record.specs.declared.block.Frame.{Frame}
use Rattle.bw_codec.specs.declared.head.Header.{Header}
use Rattle.bw_codec.specs.declared.head.HeaderRead.TheVariants as heading
use Rattle.bw_codec.proofs.FrontFormat.{agrees_shortened}
use Rattle.bw_codec.proofs.Heading.{length-header}
use Rattle.bw_device.specs.Holding.{Holding}
use Rattle.bw_page.specs.Standing.{Stand}
use Rattle.bw_log.specs.Appends.{last_of}
use Rattle.bw_log.specs.Contents.{Contents, Image, limits_of, IsBounded, IsRoomy, IsLeft, AreTorn, IsImage, IsSound, boxes, image, counted, counted_in}
use Rattle.bw_log.specs.Places.{all_placed, bad_link, first_number, AreLinked}
use Rattle.bw_log.specs.Segments.{Limits, version_at, header_with, segment_frames, frames_of, AreFrom, AreLive, IsLive}
use Rattle.bw_log.specs.Segments as log
use Rattle.bw_log.proofs.Adding.{frames_last, live_last, numbered_more}
use Rattle.bw_log.proofs.Shortened.{live_shortened}
use Rattle.bw_log.proofs.GivenUp.{placed_more}
use Rattle.bw_log.proofs.Links.{bad_link-append, neither}
use Rattle.bw_log.proofs.Reread.{clean_is_new, header_is_clean, header_new, new_is_live}
use Rattle.bw_care.specs.Laws.{AreSorted, IsFound, IsLoose, OwnShortenedFound, OwnStopFound, shorten_newest, frames_held, sorted_finding}
use Rattle.bw_care.specs.Recovery.{frames_in, last_number, recovery}
use Rattle.bw_lines.specs.declared.cause.RecoverCause.TheVariants.{Empty}
use Rattle.bw_care.proofs.OwnFound.{all_bounded, empty_boxes, frames_sorted, sorted_boxes, spares_loose}
use Rattle.bw_log.proofs.Entries.{all_append}

-- boxes that are segments and boxes without one, with these frames
pub record SortsOut (z : Limits) (hs : List Holding) (frames : List Frame) : Type 0 where
  pub number : ℕ
  pub live : List Holding
  pub loose : List Holding
  pub is : hs ≡ live ++ loose
  pub sorted : AreSorted z number live loose
  pub holds : frames_held live ≡ frames

pub sorted_found : (z : Limits) (hs : List Holding) (frames : List Frame) (leaves : List Leaf) → SortsOut z hs frames
    → AreFrom (first_number frames) frames → AreLinked frames → Stand z.m frames leaves → IsFound hs frames leaves
sorted_found z hs frames leaves x numbered linked stand =
    let same = sym x.holds in
    record {
      finding = sorted_finding x.live x.loose leaves;
      found = ap recovery x.is ∙ sorted_boxes z x.number x.live x.loose leaves x.sorted
          (subst (λ (fs : List Frame). AreFrom (first_number fs) fs) same numbered) (subst AreLinked same linked)
          (subst (λ (fs : List Frame). Stand z.m fs leaves) same stand);
      leaves_are = refl;
      last = ap last_number x.holds;
    }

pub sorted_empty : (z : Limits) (hs : List Holding) (frames : List Frame) → SortsOut z hs frames → frames ≡ []
    → (recovery hs ≡ Err Empty) × (frames_in hs ≡ [])
sorted_empty z hs frames x none = (
  ap recovery x.is ∙ empty_boxes z x.number x.live x.loose x.sorted (x.holds ∙ none),
  ap frames_in x.is ∙ frames_sorted z x.number x.live x.loose x.sorted ∙ x.holds ∙ none,
)

-- ---- a part of a header

take_length : {A : Type 0} (n : ℕ) (xs : List A) → n ≤ length xs → length (take n xs) ≡ n
take_length zero xs le = refl
take_length (suc n) [] le = absurd (omega arith)
take_length (suc n) (x ∷ xs) le = ap suc (take_length n xs (omega arith))

part_by : (a b c d e : Bool) (x : Header) → a ≡ true → b ≡ true → c ≡ true
    → (if a then (if b then (if c then heading.Part else heading.Bad) else if d then (if e then heading.Whole x else heading.Bad) else heading.Bad) else
    heading.Bad) ≡ heading.Part
part_by true true true d e x p q r = refl
part_by true true false d e x p q r = absurd cc
part_by true false c d e x p q r = absurd cc
part_by false b c d e x p q r = absurd cc

part_is : (bytes : List ℕ) → agrees bytes (segment_word (version_in bytes)) ≡ true → 1 ≤ length bytes → length bytes < 24 → heading_of bytes ≡ heading.Part
unfolding heading_of
part_is bytes agree some short =
    part_by (agrees bytes (segment_word (version_in bytes))) (nat_lt (length bytes) 24) (nat_lt 0 (length bytes)) (little_number 2 (drop 18 bytes) == 0)
    (is_header (header_in bytes)) (header_in bytes) agree (lt-ltb (length bytes) 24 short) (lt-ltb 0 (length bytes) (omega arith))

-- bytes that agree with a word of the two agree with that of their version
word_by : (bytes : List ℕ) (v : ℕ) (t : Bool) → agrees bytes (segment_word 1) ≡ t → (v ≡ 1) ⊎ (v ≡ 2) → agrees bytes (segment_word v) ≡ true
    → agrees bytes (segment_word (if t then 1 else 2)) ≡ true
word_by bytes v true is version agree = is
word_by bytes v false is (inl old) agree =
    absurd (true≢false (sym (ap (λ (k : ℕ). agrees bytes (segment_word k)) (sym old) ∙ agree) ∙ is))
word_by bytes v false is (inr new) agree = ap (λ (k : ℕ). agrees bytes (segment_word k)) (sym new) ∙ agree

part_of : (h : Header) (bytes rest : List ℕ) (n : ℕ) → (h.version ≡ 1) ⊎ (h.version ≡ 2) → bytes ≡ header_bytes h ++ rest → 1 ≤ n → n < 24
    → heading_of (take n bytes) ≡ heading.Part
part_of h bytes rest n version parts some short =
    let word = segment_word h.version in
    let size = ap (λ (b : List ℕ). length b) parts in
    let long : n ≤ length bytes = omega (arith, size, length-header h, length-append (header_bytes h) rest) in
    let len = take_length n bytes long in
    let after = number_bytes 8 h.number ++ (number_bytes 2 h.m ++ (number_bytes 2 0 ++ number_bytes 4 h.f)) in
    let agree : agrees (take n bytes) word ≡ true =
    ap (λ (b : List ℕ). agrees (take n b) word) (parts ∙ append_assoc word after rest) ∙ agrees_shortened word (after ++ rest) n in
    part_is (take n bytes) (word_by (take n bytes) h.version (agrees (take n bytes) (segment_word 1)) refl version agree) (omega arith) (omega arith)

no_frames_by : (bytes : List ℕ) → heading_of bytes ≡ heading.Part → segment_frames bytes ≡ []
unfolding segment_frames
no_frames_by bytes is = rw (segment_frames, is) refl

no_bytes_no_frames : segment_frames [] ≡ []
unfolding segment_frames heading_of
no_bytes_no_frames = refl

-- ---- a beginning of frames

from_taken : (k n : ℕ) (fs : List Frame) → AreFrom n fs → AreFrom n (take k fs)
from_taken zero n fs are = tt
from_taken (suc k) n [] are = tt
from_taken (suc k) n (x ∷ xs) are = (are.0, from_taken k (n + 1) xs are.1)

pub numbered_taken : (k : ℕ) (fs : List Frame) → AreFrom (first_number fs) fs → AreFrom (first_number (take k fs)) (take k fs)
numbered_taken zero fs are = tt
numbered_taken (suc k) [] are = tt
numbered_taken (suc k) (x ∷ xs) are = (refl, from_taken k (x.number + 1) xs are.1)

linked_taken : (k : ℕ) (fs : List Frame) → AreLinked fs → AreLinked (take k fs)
linked_taken zero fs linked = refl
linked_taken (suc k) [] linked = refl
linked_taken (suc k) (x ∷ xs) linked =
    let ys = x ∷ take k xs in
    let zs = drop k xs in
    let whole : ys ++ zs ≡ x ∷ xs = ap (λ (l : List Frame). x ∷ l) (take-append-drop k xs) in
    let parts : all_placed (x ∷ xs) ≡ all_placed ys ++ all_placed zs = ap all_placed (sym whole) ∙ placed_more ys zs in
    (neither (bad_link x.number [] (all_placed ys)) (bad_link x.number (all_placed ys) (all_placed zs))
    (sym (bad_link-append x.number [] (all_placed ys) (all_placed zs)) ∙ ap (bad_link x.number []) (sym parts) ∙ linked)).0

-- ---- the newest segment is shortened

record Parted (z : Limits) (number n : ℕ) (hs : List Holding) : Type 0 where
  live : List Holding
  loose : List Holding
  is : shorten_newest n hs ≡ live ++ loose
  segments : AreLive z number (map (λ h. h.bytes) live)
  others : AllByRecursion (IsLoose z.f) loose
  holds : frames_held live ≡ frames_held (shorten_newest n hs)

loose_by : (z : Limits) (number n : ℕ) (h : Holding) → IsLive z number h.bytes → (n ≡ 0 → IsRoomy z.f h) → n < 24
    → IsLoose z.f (record h { bytes = take n h.bytes }) × (segment_frames (take n h.bytes) ≡ [])
loose_by z number zero h live roomy short = (inl (refl, (roomy refl).0), no_bytes_no_frames)
loose_by z number (suc n) h live roomy short =
    let part = part_of (log.header_in z number) h.bytes
    (flat_map (frame_bytes_in (version_at z.old_to number)) (segment_frames h.bytes) ++ live.torn) (suc n) live.whole.lawful.version live.whole.parts
    (omega arith) short in
    (inr part, no_frames_by (take (suc n) h.bytes) part)

short_frames : (z : Limits) (number n : ℕ) (h : Holding) → IsLive z number h.bytes → n < 24 → segment_frames (take n h.bytes) ≡ []
short_frames z number zero h live short = no_bytes_no_frames
short_frames z number (suc n) h live short =
    no_frames_by (take (suc n) h.bytes) (part_of (log.header_in z number) h.bytes
    (flat_map (frame_bytes_in (version_at z.old_to number)) (segment_frames h.bytes) ++ live.torn) (suc n) live.whole.lawful.version live.whole.parts
    (omega arith) short)

-- the frames of one segment are those of the row of only it
one_segment : (h : Holding) → frames_held (h ∷ []) ≡ segment_frames h.bytes
one_segment h = append-nil (segment_frames h.bytes)

take_joined : (xs ys : List Frame) (k : ℕ) → take (length xs + k) (xs ++ ys) ≡ xs ++ take k ys
take_joined [] ys k = (let none : length {A = Frame} [] + k ≡ k = omega arith in ap (λ (n : ℕ). take n ys) none)
take_joined (x ∷ xs) ys k =
    let one : length (x ∷ xs) + k ≡ suc (length xs + k) = omega arith in
    ap (λ (n : ℕ). take n (x ∷ (xs ++ ys))) one ∙ ap (λ (l : List Frame). x ∷ l) (take_joined xs ys k)

parted_by : (z : Limits) (number n : ℕ) (hs : List Holding) → AreLive z number (map (λ h. h.bytes) hs) → (n ≡ 0 → IfSome (last_of hs) (IsRoomy z.f))
    → Parted z number n hs
parted_by z number n [] live roomy =
    record { live = []; loose = []; is = refl; segments = tt; others = tt; holds = refl }
parted_by z number n (h ∷ []) live roomy =
    let shorter : Holding = record h { bytes = take n h.bytes } in
    elim (cases_lt n 24) [
      | inl short ↦ (
          let x = loose_by z number n h live.0 roomy short in
          let none : frames_held (shorter ∷ []) ≡ [] = one_segment shorter ∙ x.1 in
          record { live = []; loose = shorter ∷ []; is = refl; segments = tt; others = (x.0, tt); holds = sym none })
      | inr more ↦ (
          let x = live_shortened z number h.bytes n live.0 more in
          record {
            live = shorter ∷ [];
            loose = [];
            is = refl;
            segments = (x.2, tt);
            others = tt;
            holds = refl;
          })
    ]
parted_by z number n (h ∷ k ∷ hs) live roomy =
    let x = parted_by z (number + 1) n (k ∷ hs) live.1 roomy in
    record {
      live = h ∷ x.live;
      loose = x.loose;
      is = ap (λ (l : List Holding). h ∷ l) x.is;
      segments = (live.0, x.segments);
      others = x.others;
      holds = ap (λ (fs : List Frame). segment_frames h.bytes ++ fs) x.holds;
    }

-- shortening changes no room and no number of boxes
shortened_bounded : (n : ℕ) (hs : List Holding) → AllByRecursion IsBounded hs → AllByRecursion IsBounded (shorten_newest n hs)
shortened_bounded n [] all = tt
shortened_bounded n (h ∷ []) all = (all.0, tt)
shortened_bounded n (h ∷ k ∷ hs) all = (all.0, shortened_bounded n (k ∷ hs) all.1)

shortened_long : (n : ℕ) (hs : List Holding) → length (shorten_newest n hs) ≡ length hs
shortened_long n [] = refl
shortened_long n (h ∷ []) = refl
shortened_long n (h ∷ k ∷ hs) = ap suc (shortened_long n (k ∷ hs))

shortened_sorts : (c : Contents) (n : ℕ) (sound : IsSound c) → c.is_failed ≡ false → (n ≡ 0 → IfSome (last_of c.live) (IsRoomy c.f))
    → SortsOut (limits_of (image c) sound.holds.live.0) (shorten_newest n c.live ++ c.spares) (frames_held (shorten_newest n c.live))
shortened_sorts c n sound works roomy =
    let x = parted_by (limits_of (image c) sound.holds.live.0) c.number n c.live sound.holds.live.1 roomy in
    let is : shorten_newest n c.live ++ c.spares ≡ x.live ++ (x.loose ++ c.spares) =
    ap (λ (l : List Holding). l ++ c.spares) x.is ∙ append_assoc x.live x.loose c.spares in
    let few = sound.few in
    let long = ap (λ (l : List Holding). length l) x.is in
    record {
      number = c.number;
      live = x.live;
      loose = x.loose ++ c.spares;
      is = is;
      sorted = record {
        segments = x.segments;
        least = sound.holds.limits.2;
        others = all_append (IsLoose c.f) x.loose c.spares x.others (spares_loose c.f c.spares (sound.empty works));
        few = omega (arith, few, long, shortened_long n c.live, length-append x.live x.loose, length-append x.loose c.spares);
        bounds = subst (AllByRecursion IsBounded) is
            (all_bounded c.f (shorten_newest n c.live) c.spares (shortened_bounded n c.live sound.bounds) sound.rooms);
      };
      holds = x.holds;
    }

held_taken : (n : ℕ) (hs : List Holding) (z : Limits) (number : ℕ) → AreLive z number (map (λ h. h.bytes) hs)
    → (count : ℕ) × (frames_held (shorten_newest n hs) ≡ take count (frames_held hs))
held_taken n [] z number live = (0, refl)
held_taken n (h ∷ []) z number live =
    let shorter : Holding = record h { bytes = take n h.bytes } in
    elim (cases_lt n 24) [
      | inl short ↦ (0, one_segment shorter ∙ short_frames z number n h live.0 short)
      | inr more ↦ (let x = live_shortened z number h.bytes n live.0 more in (x.0, one_segment shorter ∙ x.1 ∙ ap (take x.0) (sym (one_segment h))))
    ]
held_taken n (h ∷ k ∷ hs) z number live =
    let x = held_taken n (k ∷ hs) z (number + 1) live.1 in (
      length (segment_frames h.bytes) + x.0,
      ap (λ (fs : List Frame). segment_frames h.bytes ++ fs) x.1
          ∙ sym (take_joined (segment_frames h.bytes) (frames_held (k ∷ hs)) x.0),
    )

-- what is left of the counted frames
pub shortened_taken : (c : Contents) (n : ℕ) → IsSound c → c.is_failed ≡ false → (count : ℕ) × (frames_held (shorten_newest n c.live) ≡ take count (counted c))
shortened_taken c n sound works =
    (let x = held_taken n c.live (limits_of (image c) sound.holds.live.0) c.number sound.holds.live.1
    in (x.0, x.1 ∙ ap (take x.0) (sym (sound.holds.every works))))

pub shortened_boxes : OwnShortenedFound
shortened_boxes c n sound works roomy =
    let x = shortened_taken c n sound works in
    let sorts = shortened_sorts c n sound works roomy in
    let frames = x.1 in (
      λ leaves stand. sorted_found (limits_of (image c) sound.holds.live.0) (shorten_newest n c.live ++ c.spares) (frames_held (shorten_newest n c.live)) leaves sorts
          (subst (λ (fs : List Frame). AreFrom (first_number fs) fs) (sym frames) (numbered_taken x.0 (counted c) sound.holds.numbered))
          (subst AreLinked (sym frames) (linked_taken x.0 (counted c) sound.holds.linked)) stand,
      λ none. sorted_empty (limits_of (image c) sound.holds.live.0) (shorten_newest n c.live ++ c.spares) (frames_held (shorten_newest n c.live)) sorts none,
    )

-- ---- an append failed

pub left_numbered : (i : Image) (fs : List Frame) → IsImage i → IsLeft i → fs ≡ frames_of i.bytes → AreFrom (first_number fs) fs × AreLinked fs
left_numbered i fs h (inl same) is =
    (subst (λ (gs : List Frame). AreFrom (first_number gs) gs) (sym (is ∙ same)) h.numbered, subst AreLinked (sym (is ∙ same)) h.linked)
left_numbered i fs h (inr more) is = (
  subst (λ (gs : List Frame). AreFrom (first_number gs) gs) (sym (is ∙ more.1))
      (numbered_more (counted_in i) more.0 h.numbered (sym h.follows ∙ more.2.number)),
  subst AreLinked (sym (is ∙ more.1)) more.2.links,
)

-- the live segments are those that stay, and the other boxes have none
pub loose_sorts : (c : Contents) (ss : List Holding) (h : IsImage (image c)) → AllByRecursion (IsLoose c.f) ss → length c.live + length ss ≤ 4096
    → AllByRecursion IsBounded (c.live ++ ss) → SortsOut (limits_of (image c) h.live.0) (c.live ++ ss) (frames_held c.live)
loose_sorts c ss h others few bounds = record {
  number = c.number;
  live = c.live;
  loose = ss;
  is = refl;
  sorted = record { segments = h.live.1; least = h.limits.2; others = others; few = few; bounds = bounds };
  holds = refl;
}

-- the spares, the first of which may have a beginning of the next header, maybe all of it
pub torn_sorts : (c : Contents) (ss : List Holding) (h : IsImage (image c)) → c.spares ≡ ss → AreTorn (c.number + length c.live) c.m c.f ss
    → AllByRecursion (IsRoomy c.f) ss → length c.live + length ss ≤ 4096 → AllByRecursion IsBounded (c.live ++ ss)
    → SortsOut (limits_of (image c) h.live.0) (c.live ++ ss) (frames_held c.live)
torn_sorts c [] h is torn roomy few bounds = loose_sorts c [] h tt few bounds
torn_sorts c (s ∷ ss) h is (inl bare, empty) roomy few bounds = loose_sorts c (s ∷ ss) h (inl (bare, roomy.0.0), spares_loose c.f ss empty) few bounds
torn_sorts c (s ∷ ss) h is (inr (small, kept, begins), empty) roomy few bounds =
    let z = limits_of (image c) h.live.0 in
    let head = header_with (c.number + length c.live) c.m c.f in
    let size = length-header head in
    elim (cases_lt kept 24) [
      | inl short ↦ elim (cases_lt 0 kept) [
        | inl some ↦ (
            let part : heading_of s.bytes ≡ heading.Part =
            ap heading_of begins ∙ part_of head (header_bytes head) [] kept (inr refl) (sym (append-nil (header_bytes head))) some short in
            loose_sorts c (s ∷ ss) h (inr part, spares_loose c.f ss empty) few bounds)
        | inr none ↦ (
            let zero_kept : kept ≡ 0 = omega arith in
            let bare : s.bytes ≡ [] = begins ∙ ap (λ (k : ℕ). take k (header_bytes head)) zero_kept in
            loose_sorts c (s ∷ ss) h (inl (bare, roomy.0.0), spares_loose c.f ss empty) few bounds)
      ]
      | inr all_kept ↦ (
          let whole : s.bytes ≡ header_bytes head = begins ∙ take_all kept (header_bytes head) (omega (arith, size)) in
          let one = h.numbers in
          let limits = h.limits in
          let news = h.news in
          let beyond : c.old_to < c.number + length c.live = omega (arith, news, length-map c.live (λ (x : Holding). x.bytes)) in
          let lawful : IsHeader head = record { version = inr refl; number = (omega arith, small); m = (limits.0, limits.1); f = (limits.2, limits.3) } in
          let alone = header_is_clean c.m c.f (c.number + length c.live) lawful in
          let last : IsLive z (c.number + length (map (λ (h : Holding). h.bytes) c.live)) s.bytes =
          subst (λ (k : ℕ). IsLive z (c.number + k) s.bytes) (sym (length-map c.live (λ (h : Holding). h.bytes)))
          (subst (IsLive z (c.number + length c.live)) (sym whole)
          (new_is_live z (c.number + length c.live) (header_bytes head) (header_new z (c.number + length c.live) beyond)
          (clean_is_new c.m c.f (c.number + length c.live) (header_bytes head) alone.1))) in
          let bytes_are : map (λ (h : Holding). h.bytes) (c.live ++ s ∷ []) ≡ map (λ (h : Holding). h.bytes) c.live ++ s.bytes ∷ [] =
          map-append (λ (h : Holding). h.bytes) c.live (s ∷ []) in
          let joined : c.live ++ s ∷ ss ≡ (c.live ++ s ∷ []) ++ ss = sym (append_assoc c.live (s ∷ []) ss) in
          record {
            number = c.number;
            live = c.live ++ s ∷ [];
            loose = ss;
            is = joined;
            sorted = record {
              segments = subst (AreLive z c.number) (sym bytes_are) (live_last z c.number (map (λ (h : Holding). h.bytes) c.live) s.bytes h.live.1 last);
              least = h.limits.2;
              others = spares_loose c.f ss empty;
              few = omega (arith, few, length-append c.live (s ∷ []));
              bounds = subst (AllByRecursion IsBounded) joined bounds;
            };
            holds = ap frames_of bytes_are ∙ frames_last (map (λ (h : Holding). h.bytes) c.live) s.bytes
                ∙ ap (λ (fs : List Frame). frames_held c.live ++ fs) (ap segment_frames whole ∙ alone.0) ∙ append-nil (frames_held c.live);
          })
    ]

pub stopped_boxes : OwnStopFound
stopped_boxes c sound failed =
    let sorts = torn_sorts c c.spares sound.holds refl (sound.torn failed) sound.rooms sound.few (all_bounded c.f c.live c.spares sound.bounds sound.rooms) in
    let order = left_numbered (image c) (frames_held c.live) sound.holds (sound.holds.left failed) refl in (
      λ leaves stand. sorted_found (limits_of (image c) sound.holds.live.0) (boxes c) (frames_held c.live) leaves sorts order.0 order.1 stand,
      λ none. sorted_empty (limits_of (image c) sound.holds.live.0) (boxes c) (frames_held c.live) sorts none,
    )
