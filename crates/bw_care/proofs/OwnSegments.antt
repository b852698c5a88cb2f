-- The boxes of a log, sorted out: its live segments in their order, and its spares.

use Rattle.std.proofs.Common.{inl, inr, ◌≡◌, ℕ, zero, suc, ◌+◌, ◌-◌, ◌^◌, ◌<◌, ◌≤◌, ◌==◌, ◌&&◌, ◌||◌, nat_lt, nat_le, Bool, true, false}
use Rattle.std.proofs.Common.{if◌then◌else◌, Option, Some, None, List}
use Rattle.std.proofs.Common.{[], ◌∷◌, ◌++◌, length, drop, map, refl, sym, ap, subst, ◌∙◌, arith, append_assoc, append-nil, length-append}
use Rattle.std.specs.List.{fold, flat_map, list_any, AllByRecursion}
use Rattle.std.proofs.lemmas.Bool.{eq-eqb, le-ltb, leb-true, leb-false}
use Rattle.std.proofs.lemmas.List.{drop_at}
use Rattle.bw_codec.specs.Grammar.{frame_bytes_in, header_bytes, IsHeader}
use Rattle.bw_record.specs.Version.{latest}
use Rattle.bw_codec.specs.Reading.{front_at, heading_of, header_in}
use Rattle.bw_record.specs.declared.block.Frame.{Frame}
use Rattle.bw_codec.specs.declared.head.FrameRead.TheVariants.{Tail}
use Rattle.bw_codec.specs.declared.head.Header.{Header}
use Rattle.bw_codec.specs.declared.head.HeaderRead.TheVariants as heading
use Rattle.bw_codec.proofs.FrontFormat.{is_front}
use Rattle.bw_codec.proofs.Heading.{header_again, length-header}
use Rattle.bw_device.specs.Holding.{Holding}
use Rattle.bw_log.specs.Segments.{Limits, segment_frames, frames_at, IsLive, AreLive, AreFrom}
use Rattle.bw_log.specs.Segments as log
use Rattle.bw_log.proofs.Reread.{frames_read, frames_few}
use Rattle.bw_care.specs.Behind.{EndsInTail}
use Rattle.bw_care.specs.Scanning.{has_header, has_header_by, has_part, has_part_by, is_bare, rest_of, fault_by, fault_in}
use Rattle.bw_care.specs.Recovery.{placed_by, in_order, number_in, segments_in, live_in, spares_in, parts_in, bytes_fault, bytes_fault_by, clash}
use Rattle.bw_care.specs.Recovery.{are_mixed, limit_of, follow_on}
use Rattle.bw_care.specs.Laws.{IsLoose}
use Rattle.bw_care.proofs.HeadersRead.{header_long, fault_part, fault_whole}
use Rattle.bw_care.proofs.SortedOut.{header_is, bare_none, not_bare, part_not_bare, keeps, drops, number_at}
use Rattle.bw_care.proofs.TailsCounted.{bare_part}

-- ---- one segment

abbrev head_of : Limits → ℕ → Header
head_of z n = log.header_in z n

pub live_heading : (z : Limits) (n : ℕ) (bytes : List ℕ) → IsLive z n bytes → heading_of bytes ≡ heading.Whole (head_of z n)
live_heading z n bytes live = ap heading_of live.whole.parts ∙ header_again (head_of z n)
    (flat_map (frame_bytes_in (head_of z n).version) (segment_frames bytes) ++ live.torn) live.whole.lawful

pub live_header : (z : Limits) (n : ℕ) (bytes : List ℕ) → IsLive z n bytes → header_in bytes ≡ head_of z n
live_header z n bytes live = sym (header_is bytes (head_of z n) (live_heading z n bytes live))

greatest_by : (t : Bool) (f : ℕ) → f ≤ (if t then 65536 else 262144) → f < 2 ^ 32
greatest_by true f most = omega arith
greatest_by false f most = omega arith

limit_small : (h : Header) → IsHeader h → h.f < 2 ^ 32
limit_small h law = greatest_by (h.version == 1) h.f law.f.1

-- what follows its last whole frame is its tail
live_rest : (z : Limits) (n : ℕ) (bytes : List ℕ) (live : IsLive z n bytes) → rest_of (head_of z n) bytes ≡ live.torn
unfolding rest_of
live_rest z n bytes live =
    let h = head_of z n in
    let fs = segment_frames bytes in
    let rest = flat_map (frame_bytes_in h.version) fs ++ live.torn in
    let ms = live.whole.lawful.m in
    let left : drop 24 bytes ≡ rest = ap (λ (b : List ℕ). drop 24 b) live.whole.parts ∙ drop_at (header_bytes h) rest 24 (length-header h) in
    let size = ap (λ (b : List ℕ). length b) live.whole.parts in
    let few : length fs ≤ length bytes =
    omega (arith, size, frames_few h.version fs, length-append (header_bytes h) rest, length-append (flat_map (frame_bytes_in h.version) fs) live.torn) in
    ap (λ (b : List ℕ). (frames_at (length bytes) h.version h.m h.f b).1) left
    ∙ ap (λ (r : List Frame × List ℕ). r.1) (frames_read h.version (length bytes) h.m h.f fs live.torn (omega arith) (limit_small h live.whole.lawful)
    live.whole.each live.whole.tail few)

pub live_long : (z : Limits) (n : ℕ) (bytes : List ℕ) → IsLive z n bytes → 24 ≤ length bytes
live_long z n bytes live =
    header_long bytes (head_of z n) (live.whole.lawful, flat_map (frame_bytes_in (head_of z n).version) (segment_frames bytes) ++ live.torn, live.whole.parts)

pub live_ends : (z : Limits) (n : ℕ) (bytes : List ℕ) → IsLive z n bytes → EndsInTail (head_of z n) bytes
live_ends z n bytes live =
    let h = head_of z n in
    let ms = live.whole.lawful.m in
    let front : front_at h.version h.m h.f (rest_of h bytes) ≡ Some Tail =
    ap (front_at h.version h.m h.f) (live_rest z n bytes live)
    ∙ is_front h.version h.m h.f live.torn Tail (omega arith) (limit_small h live.whole.lawful) live.whole.tail in
    ap (fault_by (length bytes - length (rest_of h bytes))) front

-- its bytes have no fault
live_unfaulted : (z : Limits) (n : ℕ) (bytes : List ℕ) → IsLive z n bytes → fault_in bytes ≡ None
live_unfaulted z n bytes live = fault_whole bytes (head_of z n) (live_heading z n bytes live) ∙ live_ends z n bytes live

-- ---- segments before spares

abbrev pub AreLoose : ℕ → List Holding → Type 0
AreLoose f hs = AllByRecursion (IsLoose f) hs

abbrev pub AreSegments : Limits → ℕ → List Holding → Type 0
AreSegments z n hs = AreLive z n (map (λ h. h.bytes) hs)

abbrev with_header : Holding → Bool
with_header h = has_header h.bytes

abbrev without_bytes : Holding → Bool
without_bytes h = is_bare h.bytes

abbrev with_part : Holding → Bool
with_part h = has_part h.bytes

loose_headless : (f : ℕ) (s : Holding) → IsLoose f s → has_header s.bytes ≡ false
loose_headless f s (inl bare) = ap has_header bare.0 ∙ bare_none
loose_headless f s (inr part) = ap has_header_by part

none_among : (f : ℕ) (ss : List Holding) → AreLoose f ss → segments_in ss ≡ []
none_among f [] loose = refl
none_among f (s ∷ ss) loose = drops with_header s ss (loose_headless f s loose.0) ∙ none_among f ss loose.1

pub segments_are : (z : Limits) (n : ℕ) (ls ss : List Holding) → AreSegments z n ls → AreLoose z.f ss → segments_in (ls ++ ss) ≡ ls
segments_are z n [] ss live loose = none_among z.f ss loose
segments_are z n (l ∷ ls) ss live loose =
    keeps with_header l (ls ++ ss) (ap has_header_by (live_heading z n l.bytes live.0))
    ∙ ap (λ (hs : List Holding). l ∷ hs) (segments_are z (n + 1) ls ss live.1 loose)

-- the empty ones are among the boxes without a segment, and have room
pub spares_are : (z : Limits) (n : ℕ) (ls ss : List Holding) → AreSegments z n ls → spares_in (ls ++ ss) ≡ spares_in ss
spares_are z n [] ss live = refl
spares_are z n (l ∷ ls) ss live =
    drops without_bytes l (ls ++ ss) (not_bare l.bytes (has_header l.bytes) refl (ap has_header_by (live_heading z n l.bytes live.0)))
    ∙ spares_are z (n + 1) ls ss live.1

spare_roomy : (f : ℕ) (s : Holding) (ss : List Holding) → IsLoose f s → AllByRecursion (λ h. 24 + f ≤ h.room) (spares_in ss)
    → AllByRecursion (λ h. 24 + f ≤ h.room) (spares_in (s ∷ ss))
spare_roomy f s ss (inl bare) more =
    subst (AllByRecursion (λ (h : Holding). 24 + f ≤ h.room)) (sym (keeps without_bytes s ss (ap is_bare bare.0))) (bare.1, more)
spare_roomy f s ss (inr part) more =
    subst (AllByRecursion (λ (h : Holding). 24 + f ≤ h.room)) (sym (drops without_bytes s ss (part_not_bare s.bytes part))) more

pub spares_roomy : (f : ℕ) (ss : List Holding) → AreLoose f ss → AllByRecursion (λ h. 24 + f ≤ h.room) (spares_in ss)
spares_roomy f [] loose = tt
spares_roomy f (s ∷ ss) loose = spare_roomy f s ss loose.0 (spares_roomy f ss loose.1)

-- so are those with a part of a header
pub parts_are : (z : Limits) (n : ℕ) (ls ss : List Holding) → AreSegments z n ls → parts_in (ls ++ ss) ≡ parts_in ss
parts_are z n [] ss live = refl
parts_are z n (l ∷ ls) ss live =
    drops with_part l (ls ++ ss) (ap has_part_by (live_heading z n l.bytes live.0)) ∙ parts_are z (n + 1) ls ss live.1

pub no_parts : (ss : List Holding) → AllByRecursion (λ h. h.bytes ≡ []) ss → parts_in ss ≡ []
no_parts [] empty = refl
no_parts (s ∷ ss) empty = drops with_part s ss (ap has_part empty.0 ∙ bare_part) ∙ no_parts ss empty.1

loose_unfaulted : (f : ℕ) (s : Holding) → IsLoose f s → fault_in s.bytes ≡ None
loose_unfaulted f s (inl bare) = ap fault_in bare.0
loose_unfaulted f s (inr part) = fault_part s.bytes part

no_loose_fault : (f k : ℕ) (ss : List Holding) → AreLoose f ss → bytes_fault k ss ≡ None
no_loose_fault f k [] loose = refl
no_loose_fault f k (s ∷ ss) loose =
    ap (λ (o : Option ℕ). bytes_fault_by k o (bytes_fault (k + 1) ss)) (loose_unfaulted f s loose.0) ∙ no_loose_fault f (k + 1) ss loose.1

pub bytes_right : (z : Limits) (n k : ℕ) (ls ss : List Holding) → AreSegments z n ls → AreLoose z.f ss → bytes_fault k (ls ++ ss) ≡ None
bytes_right z n k [] ss live loose = no_loose_fault z.f k ss loose
bytes_right z n k (l ∷ ls) ss live loose =
    ap (λ (o : Option ℕ). bytes_fault_by k o (bytes_fault (k + 1) (ls ++ ss))) (live_unfaulted z n l.bytes live.0)
    ∙ bytes_right z (n + 1) (k + 1) ls ss live.1 loose

-- ---- in order

-- what has no number above this one stands before it
placed_behind : (hs : List Holding) (h : Holding) → AllByRecursion (λ x. number_at x ≤ number_at h) hs → placed_by number_at h hs ≡ hs ++ h ∷ []
placed_behind [] h all = refl
placed_behind (x ∷ xs) h all =
    ap (λ (t : Bool). if t then h ∷ x ∷ xs else x ∷ placed_by number_at h xs) (le-ltb (number_at h) (number_at x) all.0)
    ∙ ap (λ (l : List Holding). x ∷ l) (placed_behind xs h all.1)

all_above : (n : ℕ) (hs : List Holding) → AllByRecursion (λ x. number_at x < n) hs → AllByRecursion (λ x. number_at x ≤ n) hs
all_above n [] all = tt
all_above n (x ∷ xs) all = (let less = all.0 in omega arith, all_above n xs all.1)

all_more : (n : ℕ) (hs : List Holding) (h : Holding) → number_at h ≡ n → AllByRecursion (λ x. number_at x < n) hs
    → AllByRecursion (λ x. number_at x < n + 1) (hs ++ h ∷ [])
all_more n [] h is all = (omega arith, tt)
all_more n (x ∷ xs) h is all = (let less = all.0 in omega arith, all_more n xs h is all.1)

ordered_from : (z : Limits) (n : ℕ) (done ls : List Holding) → AreSegments z n ls → AllByRecursion (λ x. number_at x < n) done
    → fold (λ sorted x. placed_by number_at x sorted) done ls ≡ done ++ ls
ordered_from z n done [] live all = sym (append-nil done)
ordered_from z n done (l ∷ ls) live all =
    let is : number_at l ≡ n = ap (λ (h : Header). h.number) (live_header z n l.bytes live.0) in
    let before : AllByRecursion (λ x. number_at x ≤ number_at l) done =
    subst (λ (k : ℕ). AllByRecursion (λ x. number_at x ≤ k) done) (sym is) (all_above n done all) in
    ap (λ (hs : List Holding). fold (λ sorted x. placed_by number_at x sorted) hs ls) (placed_behind done l before)
    ∙ ordered_from z (n + 1) (done ++ l ∷ []) ls live.1 (all_more n done l is all)
    ∙ append_assoc done (l ∷ []) ls

pub live_are : (z : Limits) (n : ℕ) (ls ss : List Holding) → AreSegments z n ls → AreLoose z.f ss → live_in (ls ++ ss) ≡ ls
live_are z n ls ss live loose = ap (in_order number_at) (segments_are z n ls ss live loose) ∙ ordered_from z n [] ls live tt

-- ---- headers

-- so many headers, of segments numbered one after the other
abbrev pub heads : Limits → ℕ → ℕ → List Header
heads z n zero = []
heads z n (suc k) = head_of z n ∷ heads z (n + 1) k

pub headers_live : (z : Limits) (n : ℕ) (ls : List Holding) → AreSegments z n ls → map (λ h. header_in h.bytes) ls ≡ heads z n (length ls)
headers_live z n [] live = refl
headers_live z n (l ∷ ls) live =
    ap (λ (h : Header). h ∷ map (λ (x : Holding). header_in x.bytes) ls) (live_header z n l.bytes live.0)
    ∙ ap (λ (hs : List Header). head_of z n ∷ hs) (headers_live z (n + 1) ls live.1)

abbrev head_by : Limits → Bool → ℕ → Header
head_by z t n = record { version = if t then 1 else latest; number = n; m = z.m; f = if t then z.old_f else z.f }

clash_by : (z : Limits) (n k : ℕ) (t u : Bool) → (t ≡ false → u ≡ true → nat_lt n k ≡ false) → clash (head_by z t n) (head_by z u k) ≡ false
clash_by z n k true true order = rw (eq-eqb z.m z.m refl, eq-eqb z.old_f z.old_f refl) refl
clash_by z n k true false order = rw (eq-eqb z.m z.m refl) refl
clash_by z n k false true order = rw (eq-eqb z.m z.m refl, order refl refl) refl
clash_by z n k false false order = rw (eq-eqb z.m z.m refl, eq-eqb z.f z.f refl) refl

-- no two of them clash
no_clash : (z : Limits) (n k : ℕ) → clash (head_of z n) (head_of z k) ≡ false
no_clash z n k = clash_by z n k (nat_le n z.old_to) (nat_le k z.old_to) (λ new old.
    (let above = leb-false n z.old_to new in let within = leb-true k z.old_to old in le-ltb n k (omega arith)))

none_clash : (z : Limits) (a n k : ℕ) → list_any (clash (head_of z a)) (heads z n k) ≡ false
none_clash z a n zero = refl
none_clash z a n (suc k) = ap (λ (t : Bool). t || list_any (clash (head_of z a)) (heads z (n + 1) k)) (no_clash z a n) ∙ none_clash z a (n + 1) k

none_mixed : (z : Limits) (a j n k : ℕ) → list_any (λ x. list_any (clash x) (heads z a j)) (heads z n k) ≡ false
none_mixed z a j n zero = refl
none_mixed z a j n (suc k) =
    ap (λ (t : Bool). t || list_any (λ x. list_any (clash x) (heads z a j)) (heads z (n + 1) k)) (none_clash z n a j) ∙ none_mixed z a j (n + 1) k

pub heads_unmixed : (z : Limits) (n k : ℕ) → are_mixed (heads z n k) ≡ false
heads_unmixed z n k = none_mixed z n k n k

limit_by : (z : Limits) (t : Bool) (others : ℕ) → others ≤ z.f → (if (if t then 1 else latest) == 2 then (if t then z.old_f else z.f) else others) ≤ z.f
limit_by z true others within = within
limit_by z false others within = omega arith

-- the frame limit is the one that is written, or the least
pub heads_limit : (z : Limits) (n k : ℕ) → 65536 ≤ z.f → limit_of (heads z n k) ≤ z.f
heads_limit z n zero least = least
heads_limit z n (suc k) least = limit_by z (nat_le n z.old_to) (limit_of (heads z (n + 1) k)) (heads_limit z (n + 1) k least)

-- ---- numbers

pub segments_follow : (z : Limits) (n : ℕ) (ls : List Holding) → AreSegments z n ls → follow_on (map (λ h. number_in h.bytes) ls) ≡ true
segments_follow z n [] live = refl
segments_follow z n (l ∷ []) live = refl
segments_follow z n (l ∷ k ∷ ls) live =
    let one : number_at l ≡ n = ap (λ (h : Header). h.number) (live_header z n l.bytes live.0) in
    let two : number_at k ≡ n + 1 = ap (λ (h : Header). h.number) (live_header z (n + 1) k.bytes live.1.0) in
    ap (λ (t : Bool). t && follow_on (map (λ h. number_in h.bytes) (k ∷ ls)))
    (eq-eqb (number_at l + 1) (number_at k) (ap (λ (i : ℕ). i + 1) one ∙ sym two))
    ∙ segments_follow z (n + 1) (k ∷ ls) live.1

pub frames_follow : (n : ℕ) (fs : List Frame) → AreFrom n fs → follow_on (map (λ f. f.number) fs) ≡ true
frames_follow n [] from = refl
frames_follow n (f ∷ []) from = refl
frames_follow n (f ∷ g ∷ fs) from =
    ap (λ (t : Bool). t && follow_on (map (λ x. x.number) (g ∷ fs)))
    (eq-eqb (f.number + 1) g.number (ap (λ (i : ℕ). i + 1) from.0 ∙ sym from.1.0))
    ∙ frames_follow (n + 1) (g ∷ fs) from.1
