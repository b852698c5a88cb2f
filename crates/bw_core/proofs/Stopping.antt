-- What recovery finds of a store's boxes: after a stop, and after a cut of the newest segment.

use Rattle.std.proofs.Common.{inl, inr, ◌≡◌, ◌⊎◌, ℕ, zero, suc, ◌+◌, ◌-◌, ◌<◌, ◌≤◌, Bool, true, false, if◌then◌else◌, Option, Some, None, Result}
use Rattle.std.proofs.Common.{List, [], ◌∷◌, ◌++◌, length, take, refl, sym, ap, ◌∙◌, subst, arith, append-nil}
use Rattle.std.specs.Prelude.{IfSome, MatchResult, nat_le}
use Rattle.std.specs.List.{AllByRecursion as All}
use Rattle.std.proofs.lemmas.Bool.{cases_lt, le-leb, lt-leb}
use Rattle.std.proofs.Math.Seq.{take-length}
use Rattle.std.proofs.lemmas.List.{take_all}
use Rattle.std.proofs.lemmas.List.Elements.{filter-append}
use Rattle.bw_record.specs.declared.leaf.Leaf.{Leaf}
use Rattle.bw_record.specs.declared.block.Frame.{Frame}
use Rattle.bw_page.specs.Standing.{Stand}
use Rattle.bw_device.specs.Holding.{Holding}
use Rattle.bw_log.specs.Appends.{last_of}
use Rattle.bw_log.specs.Contents as logs
use Rattle.bw_log.specs.Contents.{IsRoomy}
use Rattle.bw_log.specs.Places.{first_number}
use Rattle.bw_log.specs.Segments.{segment_frames, AreFrom, next_of}
use Rattle.bw_log.proofs.Adding.{following_is}
use Rattle.bw_care.specs.Laws.{shorten_newest, frames_held, FoundAs, IsFound}
use Rattle.bw_care.specs.Recovery.{Finding, frames_in, last_number, recovery}
use Rattle.bw_lines.specs.declared.cause.RecoverCause.{RecoverCause}
use Rattle.bw_lines.specs.declared.cause.RecoverCause.TheVariants.{Empty}
use Rattle.bw_care.proofs.ShortenedBoxes.{shortened_boxes, shortened_taken, numbered_taken, stopped_boxes}
use Rattle.bw_care.proofs.OwnFound.{own_boxes}
use Rattle.bw_core.specs.Edges.{newest_number}
use Rattle.bw_core.specs.Growing.{frames_upto}
use Rattle.bw_core.specs.Kept.{Kept, leaves_at, IsSound}
use Rattle.bw_core.specs.Stopping.{FindsCut, FindsStop, HoldsUpto, MayCut}
use Rattle.bw_core.proofs.FramesBehind.{IsNumbered, counted_lawful, next_after, none_above, same_end}
use Rattle.bw_core.proofs.ReopenedMore.{last_is}

-- ---- a stop

module _ (s : Kept) (h : IsSound s) (failed : s.log.is_failed ≡ true) where
  abbrev there : List Frame
  there = frames_held s.log.live

  found_at : FoundAs s.log.m (logs.boxes s.log) there
  found_at = stopped_boxes s.log h.log failed

  finds : (leaves : List Leaf) → Stand s.filed.m there leaves → IsFound (logs.boxes s.log) there leaves
  finds leaves stand = found_at.0 leaves (subst (λ (m : ℕ). Stand m there leaves) h.pairs stand)

  pub stop_found : FindsStop s (logs.boxes s.log)
  stop_found = elim (h.left failed) [
    | inl none ↦ subst (λ (r : Result Finding RecoverCause).
        MatchResult r (λ f. (f.leaves ≡ leaves_at s s.durable) ⊎ ((length s.cuts ≡ s.durable + 1) × (f.leaves ≡ leaves_at s (s.durable + 1))))
        (λ e. (e ≡ Empty) × (s.before ≡ 0) × (s.durable ≡ 0))) (sym (found_at.1 none.0).0) (refl, none.1, none.2)
    | inr some ↦ elim some [
      | inl here ↦ (
          let x = finds (leaves_at s s.durable) here in
          subst (λ (r : Result Finding RecoverCause).
          MatchResult r (λ f. (f.leaves ≡ leaves_at s s.durable) ⊎ ((length s.cuts ≡ s.durable + 1) × (f.leaves ≡ leaves_at s (s.durable + 1))))
          (λ e. (e ≡ Empty) × (s.before ≡ 0) × (s.durable ≡ 0))) (sym x.found) (inl x.leaves_are))
      | inr beyond ↦ (
          let x = finds (leaves_at s (s.durable + 1)) beyond.1 in
          subst (λ (r : Result Finding RecoverCause).
          MatchResult r (λ f. (f.leaves ≡ leaves_at s s.durable) ⊎ ((length s.cuts ≡ s.durable + 1) × (f.leaves ≡ leaves_at s (s.durable + 1))))
          (λ e. (e ≡ Empty) × (s.before ≡ 0) × (s.durable ≡ 0))) (sym x.found) (inr (beyond.0, x.leaves_are)))
    ]
  ]

-- ---- frames up to a number

upto_none : (q n : ℕ) (fs : List Frame) → AreFrom n fs → q < n → frames_upto q fs ≡ []
upto_none q n [] are above = refl
upto_none q n (f ∷ fs) are above =
    let e = are.0 in
    ap (λ (t : Bool). if t then f ∷ frames_upto q fs else frames_upto q fs) (lt-leb f.number q (omega arith)) ∙ upto_none q (n + 1) fs are.1 (omega arith)

-- so many of them
upto_taken : (q n j : ℕ) (fs : List Frame) → AreFrom n fs → q + 1 ≡ n + j → frames_upto q fs ≡ take j fs
upto_taken q n zero fs are is = upto_none q n fs are (omega arith)
upto_taken q n (suc j) [] are is = refl
upto_taken q n (suc j) (f ∷ fs) are is =
    let e = are.0 in
    ap (λ (t : Bool). if t then f ∷ frames_upto q fs else frames_upto q fs) (le-leb f.number q (omega arith))
    ∙ ap (λ (l : List Frame). f ∷ l) (upto_taken q (n + 1) j fs are.1 (omega arith))

shorter_by : (f : Frame) (kept fs : List Frame) (t : Bool) → length kept ≤ length fs → length (if t then f ∷ kept else kept) ≤ length (f ∷ fs)
shorter_by f kept fs true rest = omega arith
shorter_by f kept fs false rest = omega arith

upto_short : (q : ℕ) (fs : List Frame) → length (frames_upto q fs) ≤ length fs
upto_short q [] = omega arith
upto_short q (f ∷ fs) = shorter_by f (frames_upto q fs) fs (nat_le f.number q) (upto_short q fs)

take_short : (j : ℕ) (fs : List Frame) → length (take j fs) ≤ length fs
take_short zero fs = omega arith
take_short (suc j) [] = omega arith
take_short (suc j) (f ∷ fs) = (let rest = take_short j fs in omega arith)

take_full : (j : ℕ) (fs : List Frame) → j ≤ length fs → length (take j fs) ≡ j
take_full zero fs le = refl
take_full (suc j) [] le = absurd (omega arith)
take_full (suc j) (f ∷ fs) le = (let rest = take_full j fs (omega arith) in omega arith)

-- a beginning is as many frames as it has
take_own : (j : ℕ) (fs : List Frame) → take (length (take j fs)) fs ≡ take j fs
take_own zero fs = refl
take_own (suc j) [] = refl
take_own (suc j) (f ∷ fs) = ap (λ (l : List Frame). f ∷ l) (take_own j fs)

first_taken : (j : ℕ) (fs : List Frame) → 1 ≤ length (take j fs) → first_number (take j fs) ≡ first_number fs
first_taken zero fs some = absurd (omega arith)
first_taken (suc j) [] some = refl
first_taken (suc j) (f ∷ fs) some = refl

-- the cut bytes hold these frames, so all boxes do
held_upto : (q n : ℕ) (live : List Holding) → IfSome (last_of live) (λ h. HoldsUpto q h.bytes (take n h.bytes))
    → frames_upto q (frames_held (shorten_newest n live)) ≡ frames_upto q (frames_held live)
held_upto q n [] holds = refl
held_upto q n (h ∷ []) holds =
    ap (frames_upto q) (append-nil (segment_frames (take n h.bytes))) ∙ holds ∙ ap (frames_upto q) (sym (append-nil (segment_frames h.bytes)))
held_upto q n (h ∷ k ∷ hs) holds =
    filter-append (λ (f : Frame). nat_le f.number q) (segment_frames h.bytes) (frames_held (shorten_newest n (k ∷ hs)))
    ∙ ap (λ (fs : List Frame). frames_upto q (segment_frames h.bytes) ++ fs) (held_upto q n (k ∷ hs) holds)
    ∙ sym (filter-append (λ (f : Frame). nat_le f.number q) (segment_frames h.bytes) (frames_held (k ∷ hs)))

lawful_first : (fs : List Frame) → All IsNumbered fs → 1 ≤ length fs → 1 ≤ first_number fs
lawful_first [] are more = absurd (omega arith)
lawful_first (x ∷ xs) are more = are.0.number.0

-- ---- a cut

roomy_at : (newest length_then segment f n : ℕ) (Q : Holding → Type 0) (o : Option Holding) → 1 ≤ newest → (segment ≡ 0) ⊎ (24 ≤ length_then)
    → IfSome o (λ h. (newest ≡ segment) ⊎ IsRoomy f h) → IfSome o (λ h. (newest ≡ segment → length_then ≤ n) × Q h) → n ≡ 0 → IfSome o (IsRoomy f)
roomy_at newest length_then segment f n Q None some edged begun may none = tt
roomy_at newest length_then segment f n Q (Some x) some (inl opened) (inl same) may none = absurd (omega arith)
roomy_at newest length_then segment f n Q (Some x) some (inr header) (inl same) may none = (let holds = may.0 same in absurd (omega arith))
roomy_at newest length_then segment f n Q (Some x) some edged (inr roomy) may none = roomy

held_only : (P : Type 0) (Q : Holding → Type 0) (o : Option Holding) → IfSome o (λ h. P × Q h) → IfSome o Q
held_only P Q None h = tt
held_only P Q (Some x) h = h.1

module _ (s : Kept) (h : IsSound s) (works : s.log.is_failed ≡ false) (n : ℕ) (may : MayCut s n) where
  abbrev cut_frames : List Frame
  cut_frames = frames_held (shorten_newest n s.log.live)

  abbrev cut_all : List Holding
  cut_all = shorten_newest n s.log.live ++ s.log.spares

  abbrev counted : List Frame
  counted = logs.counted s.log

  all_counted : frames_held s.log.live ≡ counted
  all_counted = sym (h.log.holds.every works)

  found_as : FoundAs s.log.m cut_all cut_frames
  found_as =
      shortened_boxes s.log n h.log works
      (roomy_at (newest_number s.log) s.edge.length s.edge.segment s.log.f n (λ x. HoldsUpto (s.before + s.floor) x.bytes (take n x.bytes))
      (last_of s.log.live) (let one : 1 ≤ s.log.number = h.log.holds.numbers in omega arith) h.edged h.begun may)

  abbrev count : ℕ
  count = length cut_frames

  begins : cut_frames ≡ take count counted
  begins =
      let x = shortened_taken s.log n h.log works in
      let is : cut_frames ≡ take x.0 counted = x.1 in
      is ∙ sym (take_own x.0 counted) ∙ ap (λ (fs : List Frame). take (length fs) counted) (sym is)

  within : count ≤ length counted
  within = (let short = take_short count counted in let len = ap (λ (fs : List Frame). length fs) begins in omega arith)

  holds : frames_upto (s.before + s.floor) cut_frames ≡ frames_upto (s.before + s.floor) counted
  holds =
      held_upto (s.before + s.floor) n s.log.live
      (held_only (newest_number s.log ≡ s.edge.segment → s.edge.length ≤ n) (λ x. HoldsUpto (s.before + s.floor) x.bytes (take n x.bytes))
      (last_of s.log.live) may)
      ∙ ap (frames_upto (s.before + s.floor)) all_counted

  abbrev first : ℕ
  first = first_number counted

  module _ (some : 1 ≤ count) where
    -- the counted frames end with the durable one
    ends : s.before + s.durable + 1 ≡ first + length counted
    ends =
        let here = some in
        let many = within in
        let top = none_above s.log counted first h.log refl h.log.holds.numbered (omega arith) in
        let low = h.last in
        let next = next_after first counted h.log.holds.numbered (omega arith) (first + length counted - 1) (omega arith) in
        let same = same_end (s.before + s.durable) (first + length counted - 1) (omega arith) (omega arith) (sym h.next ∙ h.log.holds.follows ∙ next) in
        omega arith

    last_at : last_number cut_frames + 1 ≡ first + count
    last_at =
        let here = some in
        let is = begins in
        let from : AreFrom (first_number (take count counted)) (take count counted) = numbered_taken count counted h.log.holds.numbered in
        let long = take_full count counted within in
        let one = last_is (first_number (take count counted)) (take count counted) from (omega arith) in
        let two = first_taken count counted (omega arith) in
        let three = ap last_number is in
        omega arith

    from_one : 1 ≤ first
    from_one = lawful_first counted (counted_lawful s.log h.log) (let here = some in let many = within in omega arith)

    -- no frame up to the floor's is missing
    low : s.before + s.floor ≤ last_number cut_frames
    low = elim (cases_lt (last_number cut_frames) (s.before + s.floor)) [
      | inl less ↦ absurd (
          let here = some in
          let at = last_at in
          let end = ends in
          let floor = h.floor in
          let many = within in
          let one = from_one in
          let taken = upto_taken (s.before + s.floor) first (s.before + s.floor + 1 - first) counted h.log.holds.numbered (omega arith) in
          let long = take_full (s.before + s.floor + 1 - first) counted (omega arith) in
          let short = upto_short (s.before + s.floor) cut_frames in
          let same = ap (λ (fs : List Frame). length fs) holds in
          let as_many = ap (λ (fs : List Frame). length fs) taken in
          omega arith)
      | inr more ↦ more
    ]

    abbrev k : ℕ
    k = last_number cut_frames - s.before

    high : last_number cut_frames ≤ s.before + s.durable
    high = (let at = last_at in let end = ends in let many = within in omega arith)

    stands : Stand s.filed.m cut_frames (leaves_at s k)
    stands =
        let here = some in
        let at = last_at in
        let low_is = low in
        let high_is = high in
        let one = from_one in
        let number : s.before + k ≡ last_number cut_frames = omega arith in
        let is : frames_upto (s.before + k) counted ≡ cut_frames =
        ap (λ (q : ℕ). frames_upto q counted) number
        ∙ upto_taken (last_number cut_frames) first count counted h.log.holds.numbered at ∙ sym begins in
        subst (λ (fs : List Frame). Stand s.filed.m fs (leaves_at s k)) is (h.stands k (omega arith) (omega arith) (omega arith))

    cut_found_some : FindsCut s cut_all
    cut_found_some =
        let x = found_as.0 (leaves_at s k) (subst (λ (m : ℕ). Stand m cut_frames (leaves_at s k)) h.pairs stands) in
        let at : x.finding.last - s.before ≡ k = ap (λ (q : ℕ). q - s.before) x.last in
        let low_is = low in
        let high_is = high in
        let last = x.last in
        subst (λ (r : Result Finding RecoverCause).
        MatchResult r (λ f. (s.floor ≤ f.last - s.before) × (f.last ≤ s.before + s.durable) × (f.leaves ≡ leaves_at s (f.last - s.before)))
        (λ e. (e ≡ Empty) × (frames_in cut_all ≡ []))) (sym x.found)
        (omega arith, omega arith, x.leaves_are ∙ ap (leaves_at s) (sym at))

  cut_found_by : (fs : List Frame) → cut_frames ≡ fs → FindsCut s cut_all
  cut_found_by [] is =
      (let none = found_as.1 is in
      subst (λ (r : Result Finding RecoverCause).
      MatchResult r (λ f. (s.floor ≤ f.last - s.before) × (f.last ≤ s.before + s.durable) × (f.leaves ≡ leaves_at s (f.last - s.before)))
      (λ e. (e ≡ Empty) × (frames_in cut_all ≡ []))) (sym none.0) (refl, none.1))
  cut_found_by (x ∷ xs) is = cut_found_some (let len = ap (λ (fs : List Frame). length fs) is in omega arith)

  pub cut_found : FindsCut s cut_all
  cut_found = cut_found_by cut_frames refl

-- ---- between calls

-- a length that cuts nothing off
abbrev beyond_last : List Holding → ℕ
beyond_last [] = 1
beyond_last (h ∷ []) = suc (length h.bytes)
beyond_last (h ∷ k ∷ hs) = beyond_last (k ∷ hs)

some_beyond : (live : List Holding) → beyond_last live ≡ 0 → ⊥
some_beyond [] none = absurd cc
some_beyond (h ∷ []) none = absurd cc
some_beyond (h ∷ k ∷ hs) none = some_beyond (k ∷ hs) none

uncut : (live : List Holding) → shorten_newest (beyond_last live) live ≡ live
uncut [] = refl
uncut (h ∷ []) = ap (λ (bytes : List ℕ). record h { bytes = bytes } ∷ []) (take_all (suc (length h.bytes)) h.bytes (omega arith))
uncut (h ∷ k ∷ hs) = ap (λ (l : List Holding). h ∷ l) (uncut (k ∷ hs))

take_none : (n : ℕ) → take {A = Frame} n [] ≡ []
take_none zero = refl
take_none (suc n) = refl

module _ (s : Kept) (h : IsSound s) (works : s.log.is_failed ≡ false) where
  abbrev FindsNow : Result Finding RecoverCause → Type 0
  FindsNow r = MatchResult r (λ f. f.leaves ≡ leaves_at s s.durable) (λ e. (e ≡ Empty) × (s.before ≡ 0) × (s.durable ≡ 0))

  -- no frame: nothing was ever kept
  nothing_now : logs.counted s.log ≡ [] → FindsNow (recovery (logs.boxes s.log))
  nothing_now none =
      let n = beyond_last s.log.live in
      let held = shortened_taken s.log n h.log works in
      let empty : frames_held (shorten_newest n s.log.live) ≡ [] = held.1 ∙ ap (take held.0) none ∙ take_none held.0 in
      let found = ((shortened_boxes s.log n h.log works (λ zeroth. absurd (some_beyond s.log.live zeroth))).1 empty).0 in
      let is = ap (λ (hs : List Holding). recovery (hs ++ s.log.spares)) (sym (uncut s.log.live)) ∙ found in
      let follows : s.log.next ≡ next_of [] = subst (λ (fs : List Frame). s.log.next ≡ next_of fs) none h.log.holds.follows in
      let first = following_is (s.before + s.durable) 1 (sym h.next ∙ follows) in
      subst FindsNow (sym is) (refl, omega arith, omega arith)

  -- all counted frames stand for the pages up to the durable cut
  stand_now : 1 ≤ length (logs.counted s.log) → Stand s.log.m (logs.counted s.log) (leaves_at s s.durable)
  stand_now some =
      let counted = logs.counted s.log in
      let first = first_number counted in
      let top = none_above s.log counted first h.log refl h.log.holds.numbered some in
      let low = h.last in
      let next = next_after first counted h.log.holds.numbered some (first + length counted - 1) (omega arith) in
      let same = same_end (s.before + s.durable) (first + length counted - 1) (omega arith) (omega arith) (sym h.next ∙ h.log.holds.follows ∙ next) in
      let one = lawful_first counted (counted_lawful s.log h.log) some in
      let all : frames_upto (s.before + s.durable) counted ≡ counted =
      upto_taken (s.before + s.durable) first (length counted) counted h.log.holds.numbered (omega arith) ∙ take-length counted in
      let floor = h.floor in
      subst (λ (m : ℕ). Stand m counted (leaves_at s s.durable)) h.pairs
      (subst (λ (fs : List Frame). Stand s.filed.m fs (leaves_at s s.durable)) all (h.stands s.durable floor (omega arith) (omega arith)))

  whole_by : (fs : List Frame) → logs.counted s.log ≡ fs → FindsNow (recovery (logs.boxes s.log))
  whole_by [] none = nothing_now none
  whole_by (x ∷ xs) is =
      let some = ap (λ (fs : List Frame). length fs) is in
      subst FindsNow (sym (own_boxes s.log (leaves_at s s.durable) h.log works (stand_now (omega arith)))) refl

  -- if no append failed, recovery finds the pages up to the durable cut
  pub whole_found : FindsNow (recovery (logs.boxes s.log))
  whole_found = whole_by (logs.counted s.log) refl

-- ---- the boxes handed out

pub stop_handed : (s : Kept) → IsSound s → (live spares : List Holding) → live ≡ s.log.live → spares ≡ s.log.spares → s.log.is_failed ≡ true
    → FindsStop s (live ++ spares)
stop_handed s h live spares a b failed =
    subst (λ (hs : List Holding). FindsStop s (hs ++ spares)) (sym a)
    (subst (λ (hs : List Holding). FindsStop s (s.log.live ++ hs)) (sym b) (stop_found s h failed))

pub cut_handed : (s : Kept) → IsSound s → (live spares : List Holding) → live ≡ s.log.live → spares ≡ s.log.spares → s.log.is_failed ≡ false
    → (n : ℕ) → MayCut s n → FindsCut s (shorten_newest n live ++ spares)
cut_handed s h live spares a b works n may =
    subst (λ (hs : List Holding). FindsCut s (shorten_newest n hs ++ spares)) (sym a)
    (subst (λ (hs : List Holding). FindsCut s (shorten_newest n s.log.live ++ hs)) (sym b) (cut_found s h works n may))
