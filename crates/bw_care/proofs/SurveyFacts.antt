-- From what was scanned to a findings: rooms, causes, and a log that may be adopted.

use Rattle.std.proofs.Common.{◌≡◌, ℕ, zero, suc, ◌<◌, ◌≤◌, ◌==◌, ◌||◌, if◌then◌else◌, not, nat_lt, Bool, true, false, Option, Some, None}
use Rattle.std.proofs.Common.{Ok, Err, IfSome, List, [], ◌∷◌, ◌++◌, length, map, drop, slice_get, refl, sym, ap, subst, ◌∙◌, arith, length-append, length-drop}
use Rattle.std.specs.List.{fold, list_any, AllByRecursion}
use Rattle.std.proofs.lemmas.Bool.{and_parts, eqb-true, le-ltb, ltb-false}
use Rattle.std.proofs.lemmas.List.{length-map}
use Rattle.bw_codec.specs.Grammar.{IsHeader}
use Rattle.bw_record.specs.Version.{least_limit, greatest_limit}
use Rattle.bw_codec.specs.declared.head.Header.{Header}
use Rattle.bw_record.specs.declared.block.Frame.{Frame}
use Rattle.bw_device.specs.Holding.{Holding}
use Rattle.bw_leaf.specs.Forwards.{blocks_of}
use Rattle.bw_log.specs.Places.{or_else, bad_link, first_number, all_placed}
use Rattle.bw_log.specs.Segments.{Limits, frames_of}
use Rattle.bw_log.specs.declared.places.FrameAt.{FrameAt}
use Rattle.bw_care.specs.Scanning.{rest_of}
use Rattle.bw_care.specs.Scanned.{IsScan, AreScans}
use Rattle.bw_care.specs.Recovery.{recovery, answer, found_in, too_large, bytes_fault, fault_of_order, fault_of_frames, is_small, when}
use Rattle.bw_care.specs.Recovery.{pairs_in, limit_in, pairs_of, limit_of, are_mixed, frames_in, live_in, is_none, link_fault, link_fault_by}
use Rattle.bw_care.specs.Recovery.{page_fault, page_fault_by, last_number}
use Rattle.bw_care.specs.Passing.{PassStops}
use Rattle.bw_care.specs.Found.{Refuses}
use Rattle.bw_lines.specs.Lawful.{HasLawful}
use Rattle.bw_care.specs.Forward.{IsFramed, AreReady, ForwardStops}
use Rattle.bw_lines.specs.Paging.{PageFaultIs, fault_among}
use Rattle.bw_care.specs.Planned.{HasRoom, AreRooms, RoomsStop, IsSurvey, first_line, last_line}
use Rattle.bw_care.specs.Surveying.{HasShortTail}
use Rattle.bw_care.specs.Ordering.{number_found, sorted, headers_of, follow_from, lines_found, line_number, has_none}
use Rattle.bw_care.specs.Ordering.{order_fault, AreFound, CauseIs}
use Rattle.bw_lines.specs.declared.cause.RecoverCause.{RecoverCause}
use Rattle.bw_lines.specs.declared.cause.RecoverCause.TheVariants.{NoMemory, BadConfig, Device, Spent, Empty, BadBytes, Gap, Mixed, BadLink, Unlawful}
use Rattle.bw_care.specs.declared.scan.Scan.{Scan}
use Rattle.bw_care.specs.declared.scan.Scan.TheVariants.{Bare, Part, Live}
use Rattle.bw_care.specs.declared.order.Found.{Found}
use Rattle.bw_care.specs.declared.steps.Survey.{Survey}
use Rattle.bw_care.proofs.HeadersRead.{header_long}
use Rattle.bw_care.proofs.TailsCounted.{no_bytes_fault}
use Rattle.bw_care.proofs.NumberOrder.{joined, headers_are, live_found, all_numbers, order_is, frames_here, none_by}
use Rattle.bw_care.proofs.LiveRow.{IsLike, row_limits, sorted_like}
use Rattle.bw_care.proofs.FrameRow.{all_lawful}

-- ---- rooms

push : (hs : List Holding) (rooms : List ℕ) (room : ℕ) → length rooms < length hs → AreRooms hs rooms → IfSome (slice_get hs (length rooms)) (HasRoom room)
    → AreRooms hs (rooms ++ room ∷ [])
push [] rooms room inside all told = absurd (omega arith)
push (h ∷ hs) [] room inside all told = (told, tt)
push (h ∷ hs) (r ∷ rooms) room inside all told = (all.0, push hs rooms room (omega arith) all.1 told)

-- one more box has its room
pub rooms_more : (hs : List Holding) (rooms now : List ℕ) (room i : ℕ) → i < length hs → length rooms ≡ i → AreRooms hs rooms
    → IfSome (slice_get hs i) (HasRoom room) → now ≡ rooms ++ room ∷ [] → AreRooms hs now
rooms_more hs rooms now room i inside count all told is =
    subst (AreRooms hs) (sym is) (push hs rooms room (omega arith) all
    (subst (λ (n : ℕ). IfSome (slice_get hs n) (HasRoom room)) (sym count) told))

or_true : (b : Bool) → (b || true) ≡ true
or_true true = refl
or_true false = refl

any_large : (hs : List Holding) (i : ℕ) → i < length hs → IfSome (slice_get hs i) (λ h. nat_lt 1073741824 h.room ≡ true)
    → list_any (λ h. nat_lt 1073741824 h.room) hs ≡ true
any_large [] i inside told = absurd (omega arith)
any_large (h ∷ hs) zero inside told = ap (λ (t : Bool). t || list_any (λ (x : Holding). nat_lt 1073741824 x.room) hs) told
any_large (h ∷ hs) (suc i) inside told =
    ap (λ (t : Bool). nat_lt 1073741824 h.room || t) (any_large hs i (omega arith) told) ∙ or_true (nat_lt 1073741824 h.room)

-- a box that is too large, or too many
pub one_large : (hs : List Holding) (i : ℕ) → i < length hs → IfSome (slice_get hs i) (λ h. nat_lt 1073741824 h.room ≡ true) → too_large hs ≡ true
one_large hs i inside told = ap (λ (t : Bool). nat_lt 4096 (length hs) || t) (any_large hs i inside told) ∙ or_true (nat_lt 4096 (length hs))

pub rooms_are : (hs : List Holding) (rooms : List ℕ) → AreRooms hs rooms → length rooms ≡ length hs → rooms ≡ map (λ h. h.room) hs
rooms_are [] [] all count = refl
rooms_are [] (r ∷ rooms) all count = absurd all
rooms_are (h ∷ hs) [] all count = absurd (omega arith)
rooms_are (h ∷ hs) (r ∷ rooms) all count =
    ap (λ (n : ℕ). n ∷ rooms) all.0.0 ∙ ap (λ (l : List ℕ). h.room ∷ l) (rooms_are hs rooms all.1 (omega arith))

none_large : (hs : List Holding) (rooms : List ℕ) → AreRooms hs rooms → length rooms ≡ length hs → list_any (λ h. nat_lt 1073741824 h.room) hs ≡ false
none_large [] [] all count = refl
none_large [] (r ∷ rooms) all count = absurd all
none_large (h ∷ hs) [] all count = absurd (omega arith)
none_large (h ∷ hs) (r ∷ rooms) all count =
    ap (λ (t : Bool). t || list_any (λ (x : Holding). nat_lt 1073741824 x.room) hs) all.0.2 ∙ none_large hs rooms all.1 (omega arith)

pub not_large : (hs : List Holding) (rooms : List ℕ) → AreRooms hs rooms → length rooms ≡ length hs → length hs ≤ 4096 → too_large hs ≡ false
not_large hs rooms all count few =
    ap (λ (t : Bool). t || list_any (λ (x : Holding). nat_lt 1073741824 x.room) hs) (le-ltb 4096 (length hs) few) ∙ none_large hs rooms all count

-- ---- what was scanned

pub scans_count : (hs : List Holding) (ss : List Scan) → AreScans hs ss → length ss ≡ length hs
scans_count [] [] all = refl
scans_count [] (s ∷ ss) all = absurd all
scans_count (h ∷ hs) [] all = absurd all
scans_count (h ∷ hs) (s ∷ ss) all = ap suc (scans_count hs ss all.1)

rest_short : (bytes : List ℕ) (flat rest : List ℕ) → drop 24 bytes ≡ flat ++ rest → length rest ≤ length bytes
rest_short bytes flat rest parts =
    let size = ap (λ (b : List ℕ). length b) parts in
    omega (arith, size, length-append flat rest, length-drop 24 bytes)

scan_short : (h : Holding) (s : Scan) (room : ℕ) → IsScan h.bytes s → HasRoom room h → HasShortTail s
scan_short h Bare room is has = tt
scan_short h Part room is has = tt
scan_short h (Live header b) room is has =
    let tail = is.2.tail in
    let rest = rest_short h.bytes _ (rest_of header h.bytes) is.2.parts in
    let held = has.1 in
    let bound = ltb-false 1073741824 h.room has.2 in
    omega arith

pub scans_short : (hs : List Holding) (ss : List Scan) (rooms : List ℕ) → AreScans hs ss → AreRooms hs rooms → length rooms ≡ length hs
    → AllByRecursion HasShortTail ss
scans_short [] [] rooms all held count = tt
scans_short [] (s ∷ ss) rooms all held count = absurd all
scans_short (h ∷ hs) [] rooms all held count = absurd all
scans_short (h ∷ hs) (s ∷ ss) [] all held count = absurd (omega arith)
scans_short (h ∷ hs) (s ∷ ss) (r ∷ rooms) all held count = (scan_short h s r all.0 held.0, scans_short hs ss rooms all.1 held.1 (omega arith))

-- ---- causes, in their order

abbrev after_bytes : List Holding → Option RecoverCause
after_bytes hs =
    or_else (fault_of_order hs) (or_else (when (is_small hs) BadConfig) (fault_of_frames (pairs_in hs) (frames_in hs)))

large_answer : (hs : List Holding) → too_large hs ≡ true → recovery hs ≡ Err BadConfig
large_answer hs large =
    ap (λ (t : Bool). answer (or_else (when t BadConfig) (or_else (bytes_fault 0 hs) (after_bytes hs))) (found_in hs)) large

bytes_answer : (hs : List Holding) (cause : RecoverCause) → too_large hs ≡ false → bytes_fault 0 hs ≡ Some cause → recovery hs ≡ Err cause
bytes_answer hs cause large is =
    ap (λ (t : Bool). answer (or_else (when t BadConfig) (or_else (bytes_fault 0 hs) (after_bytes hs))) (found_in hs)) large
    ∙ ap (λ (o : Option RecoverCause). answer (or_else o (after_bytes hs)) (found_in hs)) is

-- where boxes and bytes are right
later_answer : (hs : List Holding) (o : Option RecoverCause) → too_large hs ≡ false → bytes_fault 0 hs ≡ None → after_bytes hs ≡ o
    → recovery hs ≡ answer o (found_in hs)
later_answer hs o large bytes is =
    ap (λ (t : Bool). answer (or_else (when t BadConfig) (or_else (bytes_fault 0 hs) (after_bytes hs))) (found_in hs)) large
    ∙ ap (λ (p : Option RecoverCause). answer (or_else p (after_bytes hs)) (found_in hs)) bytes
    ∙ ap (λ (p : Option RecoverCause). answer p (found_in hs)) is

order_after : (hs : List Holding) (cause : RecoverCause) → or_else (fault_of_order hs) (when (is_small hs) BadConfig) ≡ Some cause
    → after_bytes hs ≡ Some cause
order_after hs cause is =
    sym (joined (fault_of_order hs) (when (is_small hs) BadConfig) (fault_of_frames (pairs_in hs) (frames_in hs)))
    ∙ ap (λ (o : Option RecoverCause). or_else o (fault_of_frames (pairs_in hs) (frames_in hs))) is

frames_after : (hs : List Holding) → or_else (fault_of_order hs) (when (is_small hs) BadConfig) ≡ None
    → after_bytes hs ≡ fault_of_frames (pairs_in hs) (frames_in hs)
frames_after hs is =
    sym (joined (fault_of_order hs) (when (is_small hs) BadConfig) (fault_of_frames (pairs_in hs) (frames_in hs)))
    ∙ ap (λ (o : Option RecoverCause). or_else o (fault_of_frames (pairs_in hs) (frames_in hs))) is

pub rooms_refuse : (hs new : List Holding) (cause : RecoverCause) → new ≡ hs → RoomsStop hs cause → Refuses hs cause new
rooms_refuse hs new NoMemory same is = same
rooms_refuse hs new BadConfig same is = (large_answer hs is, same)
rooms_refuse hs new (Device lease) same is = absurd is
rooms_refuse hs new Spent same is = absurd is
rooms_refuse hs new Empty same is = absurd is
rooms_refuse hs new (BadBytes segment at) same is = absurd is
rooms_refuse hs new Gap same is = absurd is
rooms_refuse hs new Mixed same is = absurd is
rooms_refuse hs new (BadLink page) same is = absurd is
rooms_refuse hs new (Unlawful page) same is = absurd is

pub pass_refuses : (hs new : List Holding) (cause : RecoverCause) → too_large hs ≡ false → PassStops hs cause new → Refuses hs cause new
pass_refuses hs new NoMemory large is = is
pass_refuses hs new (Device lease) large is =
    record { at = is.0; box = is.1.box; was = is.1.was; held = is.1.held; named = is.1.named; is = is.1.is }
pass_refuses hs new Spent large is =
    (is.0, record { at = is.1; box = is.2.box; was = is.2.was; held = is.2.held; greatest = is.2.greatest })
pass_refuses hs new (BadBytes segment at) large is = (bytes_answer hs (BadBytes segment at) large is.1, is.0)
pass_refuses hs new BadConfig large is = absurd is
pass_refuses hs new Empty large is = absurd is
pass_refuses hs new Gap large is = absurd is
pass_refuses hs new Mixed large is = absurd is
pass_refuses hs new (BadLink page) large is = absurd is
pass_refuses hs new (Unlawful page) large is = absurd is

pub order_refuses : (hs new : List Holding) (ss : List Scan) (rooms : List ℕ) (cause : RecoverCause) → too_large hs ≡ false → AreScans hs ss
    → rooms ≡ map (λ h. h.room) hs → new ≡ hs → CauseIs (order_fault ss rooms) cause → Refuses hs cause new
order_refuses hs new ss rooms cause large are is same told = by_cause cause told where
  by_cause : (c : RecoverCause) → CauseIs (order_fault ss rooms) c → Refuses hs c new
  by_cause c told = by c (λ e. later_answer hs (Some c) large (no_bytes_fault 0 hs ss are)
      (order_after hs c (order_is hs ss are ∙ ap (order_fault ss) (sym is) ∙ e))) told where
        by : (c : RecoverCause) → (order_fault ss rooms ≡ Some c → recovery hs ≡ Err c) → CauseIs (order_fault ss rooms) c → Refuses hs c new
        by NoMemory f told = same
        by BadConfig f told = (f told, same)
        by Empty f told = (f told, same)
        by Gap f told = (f told, same)
        by Mixed f told = (f told, same)
        by (Device lease) f told = absurd told
        by Spent f told = absurd told
        by (BadBytes segment at) f told = absurd told
        by (BadLink page) f told = absurd told
        by (Unlawful page) f told = absurd told

-- ---- what the right order says

pub or_none : (a b : Option RecoverCause) → or_else a b ≡ None → (a ≡ None) × (b ≡ None)
or_none None b e = (refl, e)
or_none (Some x) b e = absurd cc

pub when_none : (t : Bool) (cause : RecoverCause) → when t cause ≡ None → t ≡ false
when_none true cause e = absurd cc
when_none false cause e = refl

not_off : (b : Bool) → not b ≡ false → b ≡ true
not_off true e = refl
not_off false e = absurd cc

-- the tests of the order, one by one
record Tested (ss : List Scan) : Type 0 where
  mixed : are_mixed (headers_of ss) ≡ false
  segments : follow_from None (map number_found (sorted ss)) ≡ true
  frames : follow_from None (map line_number (lines_found 0 (sorted ss))) ≡ true
  some : has_none (lines_found 0 (sorted ss)) ≡ false

tested : (ss : List Scan) (rooms : List ℕ) → order_fault ss rooms ≡ None → Tested ss
tested ss rooms none =
    let all = or_none _ _ none in
    let rest = or_none _ _ all.1 in
    let last = or_none _ _ rest.1 in
    let both = and_parts (follow_from None (map number_found (sorted ss))) (follow_from None (map line_number (lines_found 0 (sorted ss))))
    (not_off _ (when_none _ Gap rest.0)) in
    record {
      mixed = when_none _ Mixed all.0;
      segments = both.0;
      frames = both.1;
      some = when_none _ Empty last.0;
    }

-- ---- limits

headers_lawful : (hs : List Holding) (ss : List Scan) → AreScans hs ss → AllByRecursion IsHeader (headers_of ss)
headers_lawful [] [] all = tt
headers_lawful [] (s ∷ ss) all = absurd all
headers_lawful (x ∷ hs) [] all = absurd all
headers_lawful (x ∷ hs) (Bare ∷ ss) all = headers_lawful hs ss all.1
headers_lawful (x ∷ hs) (Part ∷ ss) all = headers_lawful hs ss all.1
headers_lawful (x ∷ hs) (Live one b ∷ ss) all = (all.0.3.0, headers_lawful hs ss all.1)

limit_by : (h : Header) (t : Bool) (n : ℕ) → (h.version == 2) ≡ t → IsHeader h → (65536 ≤ n) × (n ≤ 262144)
    → (65536 ≤ (if t then h.f else n)) × ((if t then h.f else n) ≤ 262144)
limit_by h true n is law others =
    subst (λ (v : ℕ). (least_limit v ≤ h.f) × (h.f ≤ greatest_limit v)) (eqb-true h.version 2 is) law.f
limit_by h false n is law others = others

-- the frame limit is one that a log may have
pub limit_lawful : (hs : List Header) → AllByRecursion IsHeader hs → (65536 ≤ limit_of hs) × (limit_of hs ≤ 262144)
limit_lawful [] laws = (omega arith, omega arith)
limit_lawful (h ∷ hs) laws = limit_by h (h.version == 2) (limit_of hs) refl laws.0 (limit_lawful hs laws.1)

-- and so is the page limit, if there is a segment
pairs_lawful : (l : Limits) (boxes hs : List Holding) (rs : List Found) → AreFound boxes hs rs → AllByRecursion (IsLike l) rs
    → 1 ≤ length (frames_of (map (λ h. h.bytes) hs)) → (4 ≤ l.m) × (l.m ≤ 32)
pairs_lawful l boxes [] [] all like some = absurd (omega arith)
pairs_lawful l boxes [] (r ∷ rs) all like some = absurd all
pairs_lawful l boxes (h ∷ hs) [] all like some = absurd all
pairs_lawful l boxes (h ∷ hs) (r ∷ rs) all like some =
    subst (λ (m : ℕ). (4 ≤ m) × (m ≤ 32)) (ap (λ (k : Header). k.m) like.0) all.0.3.0.m

some_frames : (fs : List Frame) → is_none fs ≡ false → 1 ≤ length fs
some_frames [] e = absurd cc
some_frames (f ∷ fs) e = omega arith

-- all that later steps want of a survey
pub record Facts (hs : List Holding) (s : Survey) (ss : List Scan) : Type 0 where
  pub pairs : (4 ≤ s.order.m) × (s.order.m ≤ 32)
  pub limit : (65536 ≤ s.order.f) × (s.order.f ≤ 262144)
  pub m : pairs_in hs ≡ s.order.m
  pub f : limit_in hs ≡ s.order.f
  pub bytes : bytes_fault 0 hs ≡ None
  pub ordered : or_else (fault_of_order hs) (when (is_small hs) BadConfig) ≡ None
  pub found : AreFound hs (live_in hs) (sorted ss)
  pub like : AllByRecursion (IsLike (row_limits ss)) (sorted ss)
  pub frames : AllByRecursion (HasLawful s.order.m) (frames_in hs)
  pub some : 1 ≤ length (frames_in hs)
  pub numbers : map line_number s.order.lines.items ≡ map (λ f. f.number) (frames_in hs)
  pub segments : follow_from None (map number_found (sorted ss)) ≡ true
  pub follows : follow_from None (map (λ f. f.number) (frames_in hs)) ≡ true

pub facts : (hs : List Holding) (s : Survey) (x : IsSurvey hs s) → Facts hs s x.scans
facts hs s x =
    let ss = x.scans in
    let o = x.order in
    let t = tested ss (map (λ (h : Holding). h.room) hs) o.none in
    let found = live_found hs ss x.are in
    let like = sorted_like hs (live_in hs) ss t.mixed found t.segments in
    let same = all_numbers 0 hs (live_in hs) (sorted ss) found in
    let some = some_frames (frames_in hs) (none_by (lines_found 0 (sorted ss)) (frames_in hs) same ∙ t.some) in
    let headers = headers_are hs ss x.are in
    record {
      pairs = subst (λ (m : ℕ). (4 ≤ m) × (m ≤ 32)) (sym o.m) (pairs_lawful (row_limits ss) hs (live_in hs) (sorted ss) found like some);
      limit = subst (λ (f : ℕ). (65536 ≤ f) × (f ≤ 262144)) (sym o.f) (limit_lawful (headers_of ss) (headers_lawful hs ss x.are));
      m = ap pairs_of headers ∙ sym o.m;
      f = ap limit_of headers ∙ sym o.f;
      bytes = no_bytes_fault 0 hs ss x.are;
      ordered = order_is hs ss x.are ∙ o.none;
      found = found;
      like = like;
      frames = subst (λ (m : ℕ). AllByRecursion (HasLawful m) (frames_in hs)) (sym o.m) (all_lawful (row_limits ss) hs (live_in hs) (sorted ss) found like);
      some = some;
      numbers = ap (map line_number) o.lines ∙ same;
      segments = t.segments;
      follows = ap (follow_from None) (sym same) ∙ t.frames;
    }

-- ---- the second pass

framed_of : (h : Holding) (r : Found) → IsScan h.bytes (Live r.header r.behind) → IsFramed h.bytes
framed_of h r is =
    record { header = r.header; read = is.0; long = header_long h.bytes r.header is.3; frames = frames_here h r is; lawful = is.2.lawful }

ready_of : (boxes hs : List Holding) (rs : List Found) → AreFound boxes hs rs → AreReady boxes (map (λ r. r.index) rs) hs
ready_of boxes [] [] all = tt
ready_of boxes [] (r ∷ rs) all = absurd all
ready_of boxes (h ∷ hs) [] all = absurd all
ready_of boxes (h ∷ hs) (r ∷ rs) all = (all.2, framed_of h r all.0, ready_of boxes hs rs all.1)

pub ready : (hs : List Holding) (s : Survey) (x : IsSurvey hs s) (slice : List ℕ) → slice ≡ s.order.boxes.items → AreReady hs slice (live_in hs)
ready hs s x slice same =
    let y = facts hs s x in
    subst (λ (l : List ℕ). AreReady hs l (live_in hs)) (sym (same ∙ x.order.boxes)) (ready_of hs (live_in hs) (sorted x.scans) y.found)

-- ---- first and last numbers

first_same : (es : List FrameAt) (fs : List Frame) → map line_number es ≡ map (λ f. f.number) fs → first_line es ≡ first_number fs
first_same [] [] same = refl
first_same [] (f ∷ fs) same = absurd cc
first_same (e ∷ es) [] same = absurd cc
first_same (e ∷ es) (f ∷ fs) same = cc

last_same : (n : ℕ) (es : List FrameAt) (fs : List Frame) → map line_number es ≡ map (λ f. f.number) fs → last_line n es ≡ fold (λ k f. f.number) n fs
last_same n [] [] same = refl
last_same n [] (f ∷ fs) same = absurd cc
last_same n (e ∷ es) [] same = absurd cc
last_same n (e ∷ es) (f ∷ fs) same =
    let head : e.number ≡ f.number = cc in
    let rest : map line_number es ≡ map (λ (x : Frame). x.number) fs = cc in
    last_same e.number es fs rest ∙ ap (λ (k : ℕ). fold (λ k f. f.number) k fs) head

pub first_is : (hs : List Holding) (s : Survey) (x : IsSurvey hs s) (n : ℕ) (slice : List FrameAt) → n ≡ first_line slice → slice ≡ s.order.lines.items
    → n ≡ first_number (frames_in hs)
first_is hs s x n slice is same = is ∙ ap first_line same ∙ first_same s.order.lines.items (frames_in hs) (facts hs s x).numbers

pub last_is : (hs : List Holding) (s : Survey) (x : IsSurvey hs s) (n : ℕ) (slice : List FrameAt) → n ≡ last_line 0 slice → slice ≡ s.order.lines.items
    → n ≡ last_number (frames_in hs)
last_is hs s x n slice is same = is ∙ ap (last_line 0) same ∙ last_same 0 s.order.lines.items (frames_in hs) (facts hs s x).numbers

-- ---- faults of the frames

frames_answer : (hs : List Holding) (s : Survey) (x : IsSurvey hs s) (cause : RecoverCause)
    → fault_of_frames s.order.m (frames_in hs) ≡ Some cause → recovery hs ≡ Err cause
frames_answer hs s x cause is =
    let y = facts hs s x in
    later_answer hs (Some cause) x.sized y.bytes
    (frames_after hs y.ordered ∙ ap (λ (m : ℕ). fault_of_frames m (frames_in hs)) y.m ∙ is)

pub forward_refuses : (hs new : List Holding) (s : Survey) (x : IsSurvey hs s) (first : ℕ) (cause : RecoverCause) → first ≡ first_number (frames_in hs)
    → ForwardStops first (all_placed (frames_in hs)) hs cause new → Refuses hs cause new
forward_refuses hs new s x first cause begins stops = by cause stops where
  by : (c : RecoverCause) → ForwardStops first (all_placed (frames_in hs)) hs c new → Refuses hs c new
  by NoMemory is = is
  by (Device lease) is = record { at = is.0; box = is.1.box; was = is.1.was; held = is.1.held; named = is.1.named; is = is.1.is }
  by Spent is = (is.0, record { at = is.1; box = is.2.box; was = is.2.was; held = is.2.held; greatest = is.2.greatest })
  by (BadLink page) is = (
    frames_answer hs s x (BadLink page)
        (ap (λ (o : Option RecoverCause). or_else o (page_fault s.order.m (blocks_of (frames_in hs))))
        (ap link_fault_by (ap (λ (n : ℕ). bad_link n [] (all_placed (frames_in hs))) (sym begins) ∙ is.1))),
    is.0,
  )
  by BadConfig is = absurd is
  by Empty is = absurd is
  by (BadBytes segment at) is = absurd is
  by Gap is = absurd is
  by Mixed is = absurd is
  by (Unlawful page) is = absurd is

pub page_refuses : (hs new : List Holding) (s : Survey) (x : IsSurvey hs s) (cause : RecoverCause) → link_fault (frames_in hs) ≡ None → new ≡ hs
    → PageFaultIs (fault_among s.order.m (frames_in hs)) cause → Refuses hs cause new
page_refuses hs new s x cause linked same told = by cause told where
  by : (c : RecoverCause) → PageFaultIs (fault_among s.order.m (frames_in hs)) c → Refuses hs c new
  by NoMemory is = same
  by (Unlawful page) is = (
    frames_answer hs s x (Unlawful page)
        (ap (λ (o : Option RecoverCause). or_else o (page_fault s.order.m (blocks_of (frames_in hs)))) linked ∙ ap page_fault_by is),
    same,
  )
  by (Device lease) is = absurd is
  by Spent is = absurd is
  by BadConfig is = absurd is
  by Empty is = absurd is
  by (BadBytes segment at) is = absurd is
  by Gap is = absurd is
  by Mixed is = absurd is
  by (BadLink page) is = absurd is

-- if nothing is at fault
pub all_answer : (hs : List Holding) (s : Survey) (x : IsSurvey hs s) → link_fault (frames_in hs) ≡ None
    → fault_among s.order.m (frames_in hs) ≡ None → recovery hs ≡ Ok (found_in hs)
all_answer hs s x linked none =
    let y = facts hs s x in
    later_answer hs None x.sized y.bytes
    (frames_after hs y.ordered ∙ ap (λ (m : ℕ). fault_of_frames m (frames_in hs)) y.m
    ∙ ap (λ (o : Option RecoverCause). or_else o (page_fault s.order.m (blocks_of (frames_in hs)))) linked ∙ ap page_fault_by none)

-- ---- as the code goes

pub rooms_here : {X : Type 0} (v : X → Holding) (slice xs : List X) (rooms : List ℕ) → slice ≡ xs
    → AreRooms (map v slice) rooms × (length rooms ≡ length slice) × (length slice ≤ 4096)
    → AreRooms (map v xs) rooms × (length rooms ≡ length (map v xs)) × (length (map v xs) ≤ 4096)
rooms_here v slice xs rooms same are =
    let size = ap (λ (l : List _). length l) same in
    let count = are.1 in
    let few = are.2 in
    (subst (λ (l : List _). AreRooms (map v l) rooms) same are.0, omega (arith, length-map xs v), omega (arith, length-map xs v))

pub link_none : (hs : List Holding) (first : ℕ) → first ≡ first_number (frames_in hs) → bad_link first [] (all_placed (frames_in hs)) ≡ None
    → link_fault (frames_in hs) ≡ None
link_none hs first begins linked = ap link_fault_by (ap (λ (n : ℕ). bad_link n [] (all_placed (frames_in hs))) (sym begins) ∙ linked)
