-- Recovery of the boxes of a sound log finds what the log counts.

use Rattle.std.proofs.Common.{inl, ◌≡◌, ℕ, zero, suc, ◌+◌, ◌≤◌, ◌||◌, ◌&&◌, not, nat_lt, Bool, true, false, Option, None, Result, Ok, Err}
use Rattle.std.proofs.Common.{List, [], ◌∷◌, ◌++◌, length, map, refl, sym, ap, ◌∙◌, subst, arith, length-append}
use Rattle.std.specs.List.{fold, list_any, AllByRecursion}
use Rattle.std.proofs.lemmas.Bool.{le-ltb}
use Rattle.bw_codec.specs.Reading.{header_in}
use Rattle.bw_codec.specs.Grammar.{IsFrameIn}
use Rattle.bw_record.specs.declared.block.Frame.{Frame}
use Rattle.bw_codec.specs.declared.head.Header.{Header}
use Rattle.bw_record.specs.declared.leaf.Leaf.{Leaf}
use Rattle.bw_leaf.specs.Forwards.{blocks_of}
use Rattle.bw_page.specs.Standing.{Stand}
use Rattle.bw_device.specs.Holding.{Holding}
use Rattle.bw_log.specs.Contents.{Contents, image, limits_of, IsBounded, IsRoomy, IsSpare, IsSound, counted}
use Rattle.bw_log.specs.PageTable.{top_page}
use Rattle.bw_log.specs.Places.{first_number, or_else, AreLinked}
use Rattle.bw_log.specs.Segments.{Limits, version_at, limit_at, segment_frames, frames_of, AreFrom, AreLive}
use Rattle.bw_lines.specs.Lawful.{HasLawful, is_at_fault, first_such, contents}
use Rattle.bw_care.specs.Laws.{OwnBoxesFound, WholeBoxesFound, SortedBoxesFound, SortedBoxesEmpty, AreSorted, IsLoose, EndWhole, own_finding}
use Rattle.bw_care.specs.Laws.{sorted_finding, frames_held}
use Rattle.bw_care.specs.Recovery.{Finding, first_fault, fault_of_order, fault_of_frames, found_in, answer, when, too_large, bytes_fault, is_mixed, has_gap}
use Rattle.bw_care.specs.Recovery.{is_none, is_small, link_fault, link_fault_by, page_fault, page_fault_by, recovery, follow_on, frames_in}
use Rattle.bw_care.specs.Recovery.{headers_in, pairs_of, pairs_in, limit_of, limit_in, are_mixed}
use Rattle.bw_care.specs.Scanning.{rest_in}
use Rattle.bw_care.specs.Recovery.{live_in, spares_in, parts_in, tails_of, last_number, number_in}
use Rattle.bw_lines.specs.declared.cause.RecoverCause.{RecoverCause}
use Rattle.bw_lines.specs.declared.cause.RecoverCause.TheVariants.{BadConfig, Empty, Gap, Mixed}
use Rattle.bw_lines.proofs.FoundStand.{blocks_lawful}
use Rattle.bw_care.proofs.FrameRow.{frame_lawful}
use Rattle.bw_log.proofs.Entries.{all_mapped}
use Rattle.bw_lines.proofs.OwnPages.{top_is, contents_are}
use Rattle.bw_care.proofs.OwnSegments.{heads, headers_live, heads_unmixed, heads_limit, segments_are, live_are, spares_are, spares_roomy, parts_are}
use Rattle.bw_care.proofs.OwnSegments.{no_parts, bytes_right}
use Rattle.bw_care.proofs.OwnSegments.{segments_follow, frames_follow}
use Rattle.bw_lines.proofs.StandingAgain.{stands_again}

-- ---- what is found

abbrev made : List Frame → List Leaf → ℕ → ℕ → Result Finding RecoverCause
made frames leaves tail dropped = Ok (record { leaves = leaves; first = first_number frames; last = last_number frames; tail = tail; dropped = dropped })

-- ---- rooms

sized : (hs : List Holding) → AllByRecursion IsBounded hs → list_any (λ h. nat_lt 1073741824 h.room) hs ≡ false
sized [] all = refl
sized (h ∷ hs) all =
    ap (λ (t : Bool). t || list_any (λ (x : Holding). nat_lt 1073741824 x.room) hs) (le-ltb 1073741824 h.room all.0) ∙ sized hs all.1

none_small : (least : ℕ) (hs : List Holding) → AllByRecursion (λ h. least ≤ h.room) hs → list_any (λ h. nat_lt h.room least) hs ≡ false
none_small least [] all = refl
none_small least (h ∷ hs) all =
    ap (λ (t : Bool). t || list_any (λ (x : Holding). nat_lt x.room least) hs) (le-ltb h.room least all.0) ∙ none_small least hs all.1

-- ---- frames

frames_lawful : (z : Limits) (n : ℕ) (ls : List (List ℕ)) → AreLive z n ls → AllByRecursion (HasLawful z.m) (frames_of ls)
frames_lawful z n [] live = tt
frames_lawful z n (b ∷ bs) live = joined (segment_frames b) live.0.whole.each (frames_lawful z (n + 1) bs live.1) where
  joined : (xs : List Frame) → AllByRecursion (IsFrameIn (version_at z.old_to n) z.m (limit_at z n)) xs → AllByRecursion (HasLawful z.m) (frames_of bs)
      → AllByRecursion (HasLawful z.m) (xs ++ frames_of bs)
  joined [] a more = more
  joined (x ∷ xs) a more = (frame_lawful (version_at z.old_to n) z.m (limit_at z n) x live.0.whole.lawful.version a.0, joined xs a.1 more)

some_frames : (fs : List Frame) → 1 ≤ length fs → is_none fs ≡ false
some_frames [] some = absurd (omega arith)
some_frames (f ∷ fs) some = refl

none_or : (a b : Option RecoverCause) → a ≡ None → b ≡ None → or_else a b ≡ None
none_or a b an bn = ap (λ (o : Option RecoverCause). or_else o b) an ∙ bn

none_then : (a b c : Option RecoverCause) → a ≡ None → b ≡ c → or_else a b ≡ c
none_then a b c an bc = ap (λ (o : Option RecoverCause). or_else o b) an ∙ bc

when_is : (t u : Bool) (cause : RecoverCause) → t ≡ u → when t cause ≡ when u cause
when_is t u cause is = ap (λ (b : Bool). when b cause) is

-- ---- headers

some_segments : (ls : List Holding) → 1 ≤ length (frames_held ls) → 1 ≤ length ls
some_segments [] some = absurd (omega arith)
some_segments (l ∷ ls) some = omega arith

heads_pairs : (z : Limits) (n k : ℕ) → 1 ≤ k → pairs_of (heads z n k) ≡ z.m
heads_pairs z n zero some = absurd (omega arith)
heads_pairs z n (suc k) some = refl

-- ---- no fault but that no frame is there

module _ (z : Limits) (n : ℕ) (live loose : List Holding) (x : AreSorted z n live loose) where
  abbrev both : List Holding
  both = live ++ loose

  lives : live_in both ≡ live
  lives = live_are z n live loose x.segments x.others

  frames : frames_in both ≡ frames_held live
  frames = ap frames_held lives

  not_large : too_large both ≡ false
  not_large =
      let few = x.few in
      let count : length both ≤ 4096 = omega (arith, length-append live loose) in
      ap (λ (t : Bool). t || list_any (λ (x : Holding). nat_lt 1073741824 x.room) both) (le-ltb 4096 (length both) count) ∙ sized both x.bounds

  headers : headers_in both ≡ heads z n (length live)
  headers = ap (map (λ (h : Holding). header_in h.bytes)) (segments_are z n live loose x.segments x.others) ∙ headers_live z n live x.segments

  not_mixed : is_mixed both ≡ false
  not_mixed = ap are_mixed headers ∙ heads_unmixed z n (length live)

  no_gap : AreFrom (first_number (frames_held live)) (frames_held live) → has_gap both ≡ false
  no_gap numbered =
      let numbers : follow_on (map (λ h. number_in h.bytes) (live_in both)) ≡ true =
      ap (λ (l : List Holding). follow_on (map (λ h. number_in h.bytes) l)) lives ∙ segments_follow z n live x.segments in
      let follow : follow_on (map (λ f. f.number) (frames_in both)) ≡ true =
      ap (λ (fs : List Frame). follow_on (map (λ f. f.number) fs)) frames ∙ frames_follow (first_number (frames_held live)) (frames_held live) numbered in
      ap (λ (t : Bool). not (t && follow_on (map (λ f. f.number) (frames_in both)))) numbers ∙ ap not follow

  -- what stands after the first steps
  abbrev behind : Option RecoverCause
  behind = or_else (when (is_small both) BadConfig) (fault_of_frames (pairs_in both) (frames_in both))

  order_then : (none : Bool) → AreFrom (first_number (frames_held live)) (frames_held live) → is_none (frames_in both) ≡ none
      → first_fault both ≡ or_else (when none Empty) behind
  order_then none numbered is =
      let order : fault_of_order both ≡ when none Empty =
      none_then (when (is_mixed both) Mixed) (or_else (when (has_gap both) Gap) (when (is_none (frames_in both)) Empty)) (when none Empty)
      (when_is (is_mixed both) false Mixed not_mixed)
      (none_then (when (has_gap both) Gap) (when (is_none (frames_in both)) Empty) (when none Empty) (when_is (has_gap both) false Gap (no_gap numbered))
      (when_is (is_none (frames_in both)) none Empty is)) in
      none_then (when (too_large both) BadConfig) (or_else (bytes_fault 0 both) (or_else (fault_of_order both) behind)) (or_else (when none Empty) behind)
      (when_is (too_large both) false BadConfig not_large)
      (none_then (bytes_fault 0 both) (or_else (fault_of_order both) behind) (or_else (when none Empty) behind)
      (bytes_right z n 0 live loose x.segments x.others) (ap (λ (o : Option RecoverCause). or_else o behind) order))

  pub no_frames : frames_held live ≡ [] → recovery both ≡ Err Empty
  no_frames none =
      let numbered : AreFrom (first_number (frames_held live)) (frames_held live) = subst (λ (fs : List Frame). AreFrom (first_number fs) fs) (sym none) tt in
      ap (λ (fault : Option RecoverCause). answer fault (found_in both)) (order_then true numbered (ap is_none (frames ∙ none)))

  pairs_some : 1 ≤ length live → pairs_in both ≡ z.m
  pairs_some some = ap pairs_of headers ∙ heads_pairs z n (length live) some

  module _ (leaves : List Leaf) (numbered : AreFrom (first_number (frames_held live)) (frames_held live)) (linked : AreLinked (frames_held live))
      (stand : Stand z.m (frames_held live) leaves) where
    pairs : pairs_in both ≡ z.m
    pairs = pairs_some (some_segments live stand.some)

    not_small : is_small both ≡ false
    not_small =
        let within : limit_in both ≤ z.f =
        subst (λ (hs : List Header). limit_of hs ≤ z.f) (sym headers) (heads_limit z n (length live) x.least) in
        ap (list_any (λ (h : Holding). nat_lt h.room (24 + limit_in both))) (spares_are z n live loose x.segments)
        ∙ none_small (24 + limit_in both) (spares_in loose)
        (all_mapped (λ (h : Holding). 24 + z.f ≤ h.room) (λ (h : Holding). 24 + limit_in both ≤ h.room) (spares_in loose)
        (λ h wide. omega (arith, within, wide)) (spares_roomy z.f loose x.others))

    right : page_fault z.m (blocks_of (frames_held live)) ≡ None
    right =
        ap (λ (k : ℕ). page_fault_by (first_such (is_at_fault z.m (blocks_of (frames_held live))) 1 k)) (top_is z.m (frames_held live) leaves stand)
        ∙ ap page_fault_by (stands_again z.m (blocks_of (frames_held live)) leaves
        (record { lawful = stand.lawful; each = stand.each; all = stand.all })
        (blocks_lawful z.m (frames_held live) (frames_lawful z n (map (λ h. h.bytes) live) x.segments)))

    no_fault : first_fault both ≡ None
    no_fault =
        let linked_all : link_fault (frames_in both) ≡ None = ap link_fault frames ∙ ap link_fault_by linked in
        let pages : page_fault (pairs_in both) (blocks_of (frames_in both)) ≡ None =
        ap (λ (k : ℕ). page_fault k (blocks_of (frames_in both))) pairs ∙ ap (λ (fs : List Frame). page_fault z.m (blocks_of fs)) frames ∙ right in
        order_then false numbered (ap is_none frames ∙ some_frames (frames_held live) stand.some)
        ∙ none_or (when (is_small both) BadConfig) (fault_of_frames (pairs_in both) (frames_in both)) (when_is (is_small both) false BadConfig not_small)
        (none_or (link_fault (frames_in both)) (page_fault (pairs_in both) (blocks_of (frames_in both))) linked_all pages)

    pub found : recovery both ≡ Ok (sorted_finding live loose leaves)
    found =
        ap (λ (fault : Option RecoverCause). answer fault (found_in both)) no_fault
        ∙ ap (λ (fs : List Frame). made fs (contents (blocks_of fs) 1 (top_page (blocks_of fs))) (tails_of (live_in both)) (length (parts_in both))) frames
        ∙ ap (λ (ls : List Leaf). made (frames_held live) ls (tails_of (live_in both)) (length (parts_in both)))
        (contents_are z.m (frames_held live) leaves stand)
        ∙ ap (λ (l : List Holding). made (frames_held live) leaves (tails_of l) (length (parts_in both))) lives
        ∙ ap (λ (l : List Holding). made (frames_held live) leaves (tails_of live) (length l)) (parts_are z n live loose x.segments)

pub frames_sorted : (z : Limits) (n : ℕ) (live loose : List Holding) → AreSorted z n live loose → frames_in (live ++ loose) ≡ frames_held live
frames_sorted z n live loose x = frames z n live loose x

-- if one has a segment, they have the page limit of all
pub pairs_sorted : (z : Limits) (n : ℕ) (live loose : List Holding) → AreSorted z n live loose → 1 ≤ length (live_in (live ++ loose))
    → pairs_in (live ++ loose) ≡ z.m
pairs_sorted z n live loose x some = pairs_some z n live loose x (subst (λ (l : List Holding). 1 ≤ length l) (lives z n live loose x) some)

pub sorted_boxes : SortedBoxesFound
sorted_boxes z number live loose leaves x numbered linked stand = found z number live loose x leaves numbered linked stand

pub empty_boxes : SortedBoxesEmpty
empty_boxes z number live loose x none = no_frames z number live loose x none

-- ---- the boxes of a log that has not failed

no_bytes : (f : ℕ) (ss : List Holding) → AllByRecursion (IsSpare f) ss → AllByRecursion (λ h. h.bytes ≡ []) ss
no_bytes f [] are = tt
no_bytes f (s ∷ ss) are = (are.0.0, no_bytes f ss are.1)

pub spares_loose : (f : ℕ) (ss : List Holding) → AllByRecursion (IsSpare f) ss → AllByRecursion (IsLoose f) ss
spares_loose f [] are = tt
spares_loose f (s ∷ ss) are = (inl (are.0.0, are.0.1.0), spares_loose f ss are.1)

pub all_bounded : (f : ℕ) (ls ss : List Holding) → AllByRecursion IsBounded ls → AllByRecursion (IsRoomy f) ss → AllByRecursion IsBounded (ls ++ ss)
all_bounded f [] [] live spares = tt
all_bounded f [] (s ∷ ss) live spares = (spares.0.1, all_bounded f [] ss tt spares.1)
all_bounded f (l ∷ ls) ss live spares = (live.0, all_bounded f ls ss live.1 spares)

own : (c : Contents) (sound : IsSound c) → c.is_failed ≡ false → AreSorted (limits_of (image c) sound.holds.live.0) c.number c.live c.spares
own c sound works = record {
  segments = sound.holds.live.1;
  least = sound.holds.limits.2;
  others = spares_loose c.f c.spares (sound.empty works);
  few = sound.few;
  bounds = all_bounded c.f c.live c.spares sound.bounds sound.rooms;
}

pub own_boxes : OwnBoxesFound
own_boxes c leaves sound works stand =
    let frames : frames_held c.live ≡ counted c = sym (sound.holds.every works) in
    sorted_boxes (limits_of (image c) sound.holds.live.0) c.number c.live c.spares leaves (own c sound works)
    (subst (λ (fs : List Frame). AreFrom (first_number fs) fs) (sym frames) sound.holds.numbered)
    (subst AreLinked (sym frames) sound.holds.linked) (subst (λ (fs : List Frame). Stand c.m fs leaves) (sym frames) stand)
    ∙ ap (λ (fs : List Frame). made fs leaves (tails_of c.live) (length (parts_in c.spares))) frames
    ∙ ap (λ (l : List Holding). made (counted c) leaves (tails_of c.live) (length l)) (no_parts c.spares (no_bytes c.f c.spares (sound.empty works)))

no_tails_from : (n : ℕ) (hs : List Holding) → EndWhole hs → fold (λ k h. k + length (rest_in h.bytes)) n hs ≡ n
no_tails_from n [] whole = refl
no_tails_from n (h ∷ hs) whole =
    let none : n + length (rest_in h.bytes) ≡ n = (let len = ap (λ (b : List ℕ). length b) whole.0 in omega arith) in
    ap (λ (k : ℕ). fold (λ k h. k + length (rest_in h.bytes)) k hs) none ∙ no_tails_from n hs whole.1

pub whole_boxes : WholeBoxesFound
whole_boxes c leaves sound works stand whole =
    own_boxes c leaves sound works stand
    ∙ ap (λ (n : ℕ). Ok (own_finding c leaves n)) (no_tails_from 0 c.live whole)
