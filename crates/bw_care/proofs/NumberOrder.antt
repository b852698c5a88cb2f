-- What was read of boxes, in order, is what recovery says of the boxes.

use Rattle.std.proofs.Common.{◌≡◌, ℕ, suc, ◌+◌, ◌==◌, ◌&&◌, ◌||◌, not, nat_lt, Bool, true, false, if◌then◌else◌, Option, Some, None, List, [], ◌∷◌, ◌++◌}
use Rattle.std.proofs.Common.{slice_get, length, map, refl, sym, ap, ◌∙◌, subst, arith}
use Rattle.std.specs.List.{fold, list_any}
use Rattle.std.proofs.lemmas.List.{map-append}
use Rattle.bw_codec.specs.Grammar.{frame_bytes_in}
use Rattle.bw_log.specs.Segments.{entries_from}
use Rattle.bw_log.specs.declared.places.FrameAt.{FrameAt}
use Rattle.bw_care.specs.Behind.{frames_behind}
use Rattle.bw_codec.specs.Reading.{header_in}
use Rattle.bw_record.specs.declared.block.Frame.{Frame}
use Rattle.bw_codec.specs.declared.head.Header.{Header}
use Rattle.bw_device.specs.Holding.{Holding}
use Rattle.bw_log.specs.Segments.{segment_frames, frames_of}
use Rattle.bw_care.specs.Scanning.{has_header, has_header_by, is_bare}
use Rattle.bw_care.specs.Scanned.{IsScan, AreScans}
use Rattle.bw_care.specs.Recovery.{placed_by, number_in, segments_in, live_in, spares_in, frames_in, headers_in, limit_of, are_mixed, is_mixed}
use Rattle.bw_care.specs.Recovery.{follow_on, has_gap, is_small, is_none, when, fault_of_order}
use Rattle.bw_log.specs.Places.{or_else}
use Rattle.bw_lines.specs.declared.cause.RecoverCause.{RecoverCause}
use Rattle.bw_lines.specs.declared.cause.RecoverCause.TheVariants.{BadConfig, Empty, Gap, Mixed}
use Rattle.bw_care.specs.Ordering.{order_fault, lives_from, lives, number_found, sorted, moved_to, lines_found, line_number, has_none}
use Rattle.bw_care.specs.Ordering.{headers_of, any_narrow}
use Rattle.bw_care.specs.Ordering.{follow_from, AreFound}
use Rattle.bw_care.specs.declared.scan.Scan.{Scan}
use Rattle.bw_care.specs.declared.scan.Scan.TheVariants.{Bare, Part, Live}
use Rattle.bw_care.specs.declared.order.Found.{Found}
use Rattle.bw_care.proofs.SortedOut.{header_is, bare_none, not_bare, part_not_bare, keeps, drops, number_at}

-- ---- segments

-- the boxes from a position on are these
abbrev AreBehind : List Holding → ℕ → List Holding → Type 0
AreBehind boxes n hs = (i : ℕ) → slice_get boxes (n + i) ≡ slice_get hs i

behind_next : (boxes : List Holding) (n : ℕ) (h : Holding) (hs : List Holding) → AreBehind boxes n (h ∷ hs) → AreBehind boxes (n + 1) hs
behind_next boxes n h hs there i =
    let next : n + 1 + i ≡ n + suc i = omega arith in
    ap (slice_get boxes) next ∙ there (suc i)

behind_first : (boxes : List Holding) (n : ℕ) (h : Holding) (hs : List Holding) → AreBehind boxes n (h ∷ hs) → slice_get boxes n ≡ Some h
behind_first boxes n h hs there =
    let first : n ≡ n + 0 = omega arith in
    ap (slice_get boxes) first ∙ there 0

segments_from : (boxes : List Holding) (n : ℕ) (hs : List Holding) (ss : List Scan) → AreBehind boxes n hs → AreScans hs ss
    → AreFound boxes (segments_in hs) (lives_from n ss)
segments_from boxes n [] [] there all = tt
segments_from boxes n [] (s ∷ ss) there all = absurd all
segments_from boxes n (h ∷ hs) [] there all = absurd all
segments_from boxes n (h ∷ hs) (Bare ∷ ss) there all =
    subst (λ (l : List Holding). AreFound boxes l (lives_from (n + 1) ss))
    (sym (drops (λ (x : Holding). has_header x.bytes) h hs (ap has_header all.0 ∙ bare_none)))
    (segments_from boxes (n + 1) hs ss (behind_next boxes n h hs there) all.1)
segments_from boxes n (h ∷ hs) (Part ∷ ss) there all =
    subst (λ (l : List Holding). AreFound boxes l (lives_from (n + 1) ss))
    (sym (drops (λ (x : Holding). has_header x.bytes) h hs (ap has_header_by all.0.0)))
    (segments_from boxes (n + 1) hs ss (behind_next boxes n h hs there) all.1)
segments_from boxes n (h ∷ hs) (Live header b ∷ ss) there all =
    subst (λ (l : List Holding). AreFound boxes l (lives_from n (Live header b ∷ ss)))
    (sym (keeps (λ (x : Holding). has_header x.bytes) h hs (ap has_header_by all.0.0)))
    (all.0, segments_from boxes (n + 1) hs ss (behind_next boxes n h hs there) all.1, behind_first boxes n h hs there)

from_none : (boxes : List Holding) → AreBehind boxes 0 boxes
from_none boxes i = (let none : 0 + i ≡ i = omega arith in ap (slice_get boxes) none)

pub segments_found : (hs : List Holding) (ss : List Scan) → AreScans hs ss → AreFound hs (segments_in hs) (lives ss)
segments_found hs ss all = segments_from hs 0 hs ss (from_none hs) all

pub number_same : (h : Holding) (r : Found) → IsScan h.bytes (Live r.header r.behind) → number_found r ≡ number_at h
number_same h r is = ap (λ (x : Header). x.number) (header_is h.bytes r.header is.0)

placed_test : (boxes : List Holding) (h k : Holding) (hs : List Holding) (r q : Found) (rs : List Found) (t u : Bool) → t ≡ u
    → IsScan h.bytes (Live r.header r.behind) → slice_get boxes r.index ≡ Some h → IsScan k.bytes (Live q.header q.behind)
    → slice_get boxes q.index ≡ Some k → AreFound boxes hs rs → AreFound boxes (placed_by number_at h hs) (placed_by number_found r rs)
    → AreFound boxes (if t then h ∷ k ∷ hs else k ∷ placed_by number_at h hs) (if u then r ∷ q ∷ rs else q ∷ placed_by number_found r rs)
placed_test boxes h k hs r q rs true true same one at two there all more = (one, (two, all, there), at)
placed_test boxes h k hs r q rs false false same one at two there all more = (two, more, there)
placed_test boxes h k hs r q rs true false same one at two there all more = absurd cc
placed_test boxes h k hs r q rs false true same one at two there all more = absurd cc

placed_found : (boxes : List Holding) (h : Holding) (hs : List Holding) (r : Found) (rs : List Found) → IsScan h.bytes (Live r.header r.behind)
    → slice_get boxes r.index ≡ Some h → AreFound boxes hs rs → AreFound boxes (placed_by number_at h hs) (placed_by number_found r rs)
placed_found boxes h [] r [] one at all = (one, tt, at)
placed_found boxes h [] r (q ∷ rs) one at all = absurd all
placed_found boxes h (k ∷ hs) r [] one at all = absurd all
placed_found boxes h (k ∷ hs) r (q ∷ rs) one at all =
    placed_test boxes h k hs r q rs (nat_lt (number_at h) (number_at k)) (nat_lt (number_found r) (number_found q))
    (ap (λ (n : ℕ). nat_lt n (number_at k)) (sym (number_same h r one)) ∙ ap (λ (n : ℕ). nat_lt (number_found r) n) (sym (number_same k q all.0)))
    one at all.0 all.2 all.1 (placed_found boxes h hs r rs one at all.1)

fold_found : (boxes acc : List Holding) (bcc : List Found) (hs : List Holding) (rs : List Found) → AreFound boxes acc bcc → AreFound boxes hs rs
    → AreFound boxes (fold (λ l x. placed_by number_at x l) acc hs) (fold (λ l x. placed_by number_found x l) bcc rs)
fold_found boxes acc bcc [] [] sofar all = sofar
fold_found boxes acc bcc [] (r ∷ rs) sofar all = absurd all
fold_found boxes acc bcc (h ∷ hs) [] sofar all = absurd all
fold_found boxes acc bcc (h ∷ hs) (r ∷ rs) sofar all =
    fold_found boxes (placed_by number_at h acc) (placed_by number_found r bcc) hs rs (placed_found boxes h acc r bcc all.0 all.2 sofar) all.1

-- segments in order
pub live_found : (hs : List Holding) (ss : List Scan) → AreScans hs ss → AreFound hs (live_in hs) (sorted ss)
live_found hs ss all = fold_found hs [] [] (segments_in hs) (lives ss) tt (segments_found hs ss all)

-- ---- what they hold

pub numbers_found : (boxes hs : List Holding) (rs : List Found) → AreFound boxes hs rs → map (λ h. number_in h.bytes) hs ≡ map number_found rs
numbers_found boxes [] [] all = refl
numbers_found boxes [] (r ∷ rs) all = absurd all
numbers_found boxes (h ∷ hs) [] all = absurd all
numbers_found boxes (h ∷ hs) (r ∷ rs) all = ap (λ (n : ℕ). n ∷ map (λ x. number_in x.bytes) hs) (sym (number_same h r all.0))
    ∙ ap (λ (l : List ℕ). number_found r ∷ l) (numbers_found boxes hs rs all.1)

pub frames_here : (h : Holding) (r : Found) → IsScan h.bytes (Live r.header r.behind) → segment_frames h.bytes ≡ frames_behind r.header h.bytes
unfolding segment_frames
frames_here h r is = rw (segment_frames, is.0) refl

abbrev frame_number : Frame → ℕ
frame_number f = f.number

pub line_numbers : (v k at : ℕ) (fs : List Frame)
    → map line_number (map (moved_to k) (map (λ e. e.0) (entries_from v 0 at fs))) ≡ map (λ f. f.number) fs
line_numbers v k at [] = refl
line_numbers v k at (f ∷ fs) = ap (λ (l : List ℕ). f.number ∷ l) (line_numbers v k (at + length (frame_bytes_in v f)) fs)

-- the lines have the numbers of the frames
pub all_numbers : (k : ℕ) (boxes hs : List Holding) (rs : List Found) → AreFound boxes hs rs
    → map line_number (lines_found k rs) ≡ map (λ f. f.number) (frames_of (map (λ h. h.bytes) hs))
all_numbers k boxes [] [] all = refl
all_numbers k boxes [] (r ∷ rs) all = absurd all
all_numbers k boxes (h ∷ hs) [] all = absurd all
all_numbers k boxes (h ∷ hs) (r ∷ rs) all =
    map-append line_number (map (moved_to k) r.behind.lines.items) (lines_found (k + 1) rs)
    ∙ ap (λ (l : List FrameAt). map line_number (map (moved_to k) l) ++ map line_number (lines_found (k + 1) rs)) all.0.2.lines
    ∙ ap (λ (l : List ℕ). l ++ map line_number (lines_found (k + 1) rs)) (line_numbers r.header.version k 24 (frames_behind r.header h.bytes))
    ∙ ap (λ (l : List ℕ). map frame_number (frames_behind r.header h.bytes) ++ l) (all_numbers (k + 1) boxes hs rs all.1)
    ∙ ap (λ (l : List Frame). map frame_number l ++ map frame_number (frames_of (map (λ x. x.bytes) hs))) (sym (frames_here h r all.0))
    ∙ sym (map-append frame_number (segment_frames h.bytes) (frames_of (map (λ x. x.bytes) hs)))

pub none_by : (es : List FrameAt) (fs : List Frame) → map line_number es ≡ map (λ f. f.number) fs → is_none fs ≡ has_none es
none_by [] [] same = refl
none_by [] (f ∷ fs) same = absurd cc
none_by (e ∷ es) [] same = absurd cc
none_by (e ∷ es) (f ∷ fs) same = refl

-- ---- headers

pub headers_are : (hs : List Holding) (ss : List Scan) → AreScans hs ss → headers_in hs ≡ headers_of ss
headers_are [] [] all = refl
headers_are [] (s ∷ ss) all = absurd all
headers_are (h ∷ hs) [] all = absurd all
headers_are (h ∷ hs) (Bare ∷ ss) all =
    ap (map (λ (x : Holding). header_in x.bytes)) (drops (λ (x : Holding). has_header x.bytes) h hs (ap has_header all.0 ∙ bare_none))
    ∙ headers_are hs ss all.1
headers_are (h ∷ hs) (Part ∷ ss) all =
    ap (map (λ (x : Holding). header_in x.bytes)) (drops (λ (x : Holding). has_header x.bytes) h hs (ap has_header_by all.0.0))
    ∙ headers_are hs ss all.1
headers_are (h ∷ hs) (Live one b ∷ ss) all =
    ap (map (λ (x : Holding). header_in x.bytes)) (keeps (λ (x : Holding). has_header x.bytes) h hs (ap has_header_by all.0.0))
    ∙ ap (λ (k : Header). k ∷ headers_in hs) (sym (header_is h.bytes one all.0.0)) ∙ ap (λ (l : List Header). one ∷ l) (headers_are hs ss all.1)

-- ---- spares

pub narrow_is : (hs : List Holding) (ss : List Scan) (least : ℕ) → AreScans hs ss
    → list_any (λ h. nat_lt h.room least) (spares_in hs) ≡ any_narrow least ss (map (λ h. h.room) hs)
narrow_is [] [] least all = refl
narrow_is [] (s ∷ ss) least all = absurd all
narrow_is (h ∷ hs) [] least all = absurd all
narrow_is (h ∷ hs) (Bare ∷ ss) least all =
    ap (list_any (λ (x : Holding). nat_lt x.room least)) (keeps (λ (x : Holding). is_bare x.bytes) h hs (ap is_bare all.0))
    ∙ ap (λ (t : Bool). nat_lt h.room least || t) (narrow_is hs ss least all.1)
narrow_is (h ∷ hs) (Part ∷ ss) least all =
    ap (list_any (λ (x : Holding). nat_lt x.room least)) (drops (λ (x : Holding). is_bare x.bytes) h hs (part_not_bare h.bytes all.0.0))
    ∙ narrow_is hs ss least all.1
narrow_is (h ∷ hs) (Live one b ∷ ss) least all =
    ap (list_any (λ (x : Holding). nat_lt x.room least))
    (drops (λ (x : Holding). is_bare x.bytes) h hs (not_bare h.bytes (has_header h.bytes) refl (ap has_header_by all.0.0))) ∙ narrow_is hs ss least all.1

-- ---- numbers that follow

follow_some : (n : ℕ) (ns : List ℕ) → follow_from (Some n) ns ≡ follow_on (n ∷ ns)
follow_some n [] = refl
follow_some n (k ∷ ns) = ap (λ (t : Bool). (n + 1 == k) && t) (follow_some k ns)

pub follow_is : (ns : List ℕ) → follow_from None ns ≡ follow_on ns
follow_is [] = refl
follow_is (n ∷ ns) = follow_some n ns

-- ---- the first fault of the order

pub joined : (a b d : Option RecoverCause) → or_else (or_else a b) d ≡ or_else a (or_else b d)
joined None b d = refl
joined (Some x) b d = refl

pub order_is : (hs : List Holding) (ss : List Scan) → AreScans hs ss
    → or_else (fault_of_order hs) (when (is_small hs) BadConfig) ≡ order_fault ss (map (λ h. h.room) hs)
order_is hs ss all =
    let headers = headers_are hs ss all in
    let found = live_found hs ss all in
    let mixed : is_mixed hs ≡ are_mixed (headers_of ss) = ap are_mixed headers in
    let numbers : follow_on (map (λ h. number_in h.bytes) (live_in hs)) ≡ follow_from None (map number_found (sorted ss)) =
    ap follow_on (numbers_found hs (live_in hs) (sorted ss) found) ∙ sym (follow_is (map number_found (sorted ss))) in
    let same : map line_number (lines_found 0 (sorted ss)) ≡ map (λ f. f.number) (frames_in hs) = all_numbers 0 hs (live_in hs) (sorted ss) found in
    let follow : follow_on (map (λ f. f.number) (frames_in hs)) ≡ follow_from None (map line_number (lines_found 0 (sorted ss))) =
    ap follow_on (sym same) ∙ sym (follow_is (map line_number (lines_found 0 (sorted ss)))) in
    let gap : has_gap hs ≡ not (follow_from None (map number_found (sorted ss)) && follow_from None (map line_number (lines_found 0 (sorted ss)))) =
    ap (λ (t : Bool). not (t && follow_on (map (λ f. f.number) (frames_in hs)))) numbers
    ∙ ap (λ (t : Bool). not (follow_from None (map number_found (sorted ss)) && t)) follow in
    let empty : is_none (frames_in hs) ≡ has_none (lines_found 0 (sorted ss)) = none_by (lines_found 0 (sorted ss)) (frames_in hs) same in
    let small : is_small hs ≡ any_narrow (24 + limit_of (headers_of ss)) ss (map (λ h. h.room) hs) =
    ap (λ (l : List Header). list_any (λ (h : Holding). nat_lt h.room (24 + limit_of l)) (spares_in hs)) headers
    ∙ narrow_is hs ss (24 + limit_of (headers_of ss)) all in
    joined (when (is_mixed hs) Mixed) (or_else (when (has_gap hs) Gap) (when (is_none (frames_in hs)) Empty)) (when (is_small hs) BadConfig)
    ∙ ap (λ (t : Bool). or_else (when t Mixed)
    (or_else (or_else (when (has_gap hs) Gap) (when (is_none (frames_in hs)) Empty)) (when (is_small hs) BadConfig))) mixed
    ∙ ap (λ (o : Option RecoverCause). or_else (when (are_mixed (headers_of ss)) Mixed) o)
    (joined (when (has_gap hs) Gap) (when (is_none (frames_in hs)) Empty) (when (is_small hs) BadConfig)
    ∙ ap (λ (t : Bool). or_else (when t Gap) (or_else (when (is_none (frames_in hs)) Empty) (when (is_small hs) BadConfig))) gap
    ∙ ap (λ (o : Option RecoverCause). or_else
    (when (not (follow_from None (map number_found (sorted ss)) && follow_from None (map line_number (lines_found 0 (sorted ss))))) Gap) o)
    (ap (λ (t : Bool). or_else (when t Empty) (when (is_small hs) BadConfig)) empty
    ∙ ap (λ (t : Bool). or_else (when (has_none (lines_found 0 (sorted ss))) Empty) (when t BadConfig)) small))
