-- What recovery finds if segments that were given up still stand before those of a store.

use Rattle.std.proofs.Common.{inl, ◌≡◌, ℕ, zero, suc, ◌<◌, ◌≤◌, Bool, true, false, Option, Some, None, Result, Ok, Err}
use Rattle.std.proofs.Common.{List, [], ◌∷◌, ◌++◌, length, take, drop, refl, sym, ap, ◌∙◌, subst, arith, take_all}
use Rattle.std.proofs.Common.{if◌then◌else◌}
use Rattle.std.specs.Prelude.{IfOk, MatchResult, nat_le}
use Rattle.std.specs.List.{slice_get}
use Rattle.std.proofs.lemmas.Bool.{leb-true, leb-false}
use Rattle.std.proofs.lemmas.List.{take-append-le}
use Rattle.bw_record.specs.declared.leaf.Leaf.{Leaf}
use Rattle.bw_record.specs.declared.block.Frame.{Frame}
use Rattle.bw_page.specs.Leaves.{pages}
use Rattle.bw_page.specs.Standing.{Stand}
use Rattle.bw_buffer.specs.Filling.{frame_of}
use Rattle.bw_codec.specs.Grammar.{frame_bytes}
use Rattle.bw_device.specs.Holding.{Holding, appended}
use Rattle.bw_log.specs.Appends.{begun, begun_with, roomy, wants_segment, with_last}
use Rattle.bw_log.specs.Contents as logs
use Rattle.bw_care.specs.Cleaning.{old_pages, oldest_last}
use Rattle.bw_care.specs.Laws.{own_finding}
use Rattle.bw_care.specs.Moving as care
use Rattle.bw_care.specs.Recovery.{Finding, recovery, tails_of}
use Rattle.bw_care.specs.Upgrading.{last_of_old, old_segments, pages_of_old}
use Rattle.bw_care.specs.declared.cleaner.Cleaned.{Cleaned}
use Rattle.bw_care.specs.declared.upgrader.Upgraded.{Upgraded}
use Rattle.bw_care.proofs.BasesLeave.{stand_more}
use Rattle.bw_care.proofs.OwnFound.{own_boxes}
use Rattle.bw_care.proofs.UpgradeMoved.{all_old_is_shut, few_old}
use Rattle.bw_lines.specs.declared.cause.RecoverCause.{RecoverCause}
use Rattle.bw_lines.specs.declared.cause.RecoverCause.TheVariants.{Empty}
use Rattle.bw_history.specs.declared.entry.Entry.{Entry}
use Rattle.bw_history.specs.Entries.{records}
use Rattle.bw_history.specs.History.{cut}
use Rattle.bw_history.specs.Machine.{Machine, MayLeave, keeps}
use Rattle.bw_terms.specs.declared.fault.StoreFault.{StoreFault}
use Rattle.bw_core.specs.Cleaning.{MoveLeaves}
use Rattle.bw_core.specs.Emptied.{Emptied}
use Rattle.bw_core.specs.Faults.{FlushLeaves}
use Rattle.bw_core.specs.Kept.{Filed, Kept, IsSound}
use Rattle.bw_core.specs.Machine.{FindsLeft, KeepsAs, MayBeStoppedBefore, machine_of}
use Rattle.bw_core.specs.Settled.{IsSettled}
use Rattle.bw_core.specs.Upgrading.{UpgradeMoves}
use Rattle.bw_core.proofs.CleanedMore.{live_stay, long_as}
use Rattle.bw_core.proofs.Machines.{may_leave}
use Rattle.bw_core.proofs.UpgradedMore.{old_stay}

-- ---- the first boxes of a list

take_one : (xs ys : List Holding) → slice_get xs 0 ≡ slice_get ys 0 → take 1 xs ≡ take 1 ys
take_one [] [] e = refl
take_one [] (y ∷ ys) e = absurd cc
take_one (x ∷ xs) [] e = absurd cc
take_one (x ∷ xs) (y ∷ ys) e = (let same : x ≡ y = cc in ap (λ (h : Holding). h ∷ []) same)

before_last : (change : Holding → Holding) (n : ℕ) (hs : List Holding) → n < length hs → take n (with_last change hs) ≡ take n hs
before_last change zero hs less = refl
before_last change (suc n) [] less = absurd (omega arith)
before_last change (suc n) (h ∷ []) less = absurd (omega arith)
before_last change (suc n) (h ∷ k ∷ hs) less = ap (λ (l : List Holding). h ∷ l) (before_last change n (k ∷ hs) (omega arith))

begun_keeps : (c : logs.Contents) (n : ℕ) (ss : List Holding) → n ≤ length c.live → take n (begun_with c ss).live ≡ take n c.live
begun_keeps c n [] low = refl
begun_keeps c n (s ∷ ss) low = take-append-le n c.live _ low

roomy_keeps : (c : logs.Contents) (n : ℕ) (wants : Bool) → n ≤ length c.live → take n (if wants then begun c else c).live ≡ take n c.live
roomy_keeps c n true low = begun_keeps c n c.spares low
roomy_keeps c n false low = refl

-- a flush leaves all segments but the newest as they were
flush_stays : (n : ℕ) (old new : Kept) (o : Option ℕ) → n ≤ length old.log.live → n < length new.log.live → FlushLeaves old (Ok o) new
    → take n new.log.live ≡ take n old.log.live
flush_stays n old new None low less left = ap (λ (s : Kept). take n s.log.live) left.0
flush_stays n old new (Some k) low less left =
    let bytes = frame_bytes (frame_of old.making) in
    let room = roomy old.log (length bytes) in
    let is : new.log.live ≡ with_last (λ h. appended h bytes) room.live = ap (λ (s : Kept). s.log.live) left.is ∙ left.added.live in
    let long = ap (λ (hs : List Holding). length hs) is ∙ long_as (λ h. appended h bytes) room.live in
    ap (take n) is ∙ before_last (λ h. appended h bytes) n room.live (omega (arith, long, less))
    ∙ roomy_keeps old.log n (wants_segment old.log (length bytes)) low

parted : (k n : ℕ) (hs ks : List Holding) → k ≤ n → drop k (take n hs) ++ (drop n hs ++ ks) ≡ drop k hs ++ ks
parted zero zero hs ks low = refl
parted zero (suc n) [] ks low = refl
parted zero (suc n) (h ∷ hs) ks low = ap (λ (l : List Holding). h ∷ l) (parted zero n hs ks (omega arith))
parted (suc k) zero hs ks low = absurd (omega arith)
parted (suc k) (suc n) [] ks low = refl
parted (suc k) (suc n) (h ∷ hs) ks low = parted k n hs ks (omega arith)

long_dropped : (k n : ℕ) (hs : List Holding) → n ≤ k → drop k (take n hs) ≡ []
long_dropped zero zero hs low = refl
long_dropped zero (suc n) hs low = absurd (omega arith)
long_dropped (suc k) zero hs less = refl
long_dropped (suc k) (suc n) [] less = refl
long_dropped (suc k) (suc n) (h ∷ hs) less = long_dropped k n hs (omega arith)

-- ---- what is found

-- recovery finds the pages of all that was taken
finds_all : (new : Kept) (hs : List Holding) (f : Finding) → recovery hs ≡ Ok f → f.leaves ≡ pages new.filed.m new.start (records new.entries)
    → cut new.cuts new.durable ≡ length new.entries → FindsLeft new hs
finds_all new hs f is leaves all =
    let whole : take (cut new.cuts new.durable) new.entries ≡ new.entries =
    ap (λ n. take n new.entries) all ∙ take_all (length new.entries) new.entries (omega arith) in
    subst (λ (r : Result Finding RecoverCause).
    MatchResult r (λ g. (left : List Entry) × MayLeave (machine_of new) left × (g.leaves ≡ pages new.filed.m new.start (records left)))
    (λ e. (e ≡ Empty) × (new.before ≡ 0) × (new.durable ≡ 0))) (sym is)
    (take (cut new.cuts new.durable) new.entries, inl refl, leaves ∙ ap (λ (es : List Entry). pages new.filed.m new.start (records es)) (sym whole))

all_durable : (old new : Kept) → machine_of new ≡ keeps (machine_of old) → cut new.cuts new.durable ≡ length new.entries
all_durable old new same = ap (λ (m : Machine). m.durable) same ∙ sym (ap (λ (m : Machine). length m.entries) same)

-- the pages of a store in which nothing waits
abbrev now_of : Kept → List Leaf
now_of s = pages s.log.m s.start (records s.entries)

now_is : (s new : Kept) → IsSound s → new.filed ≡ s.filed → new.start ≡ s.start → new.entries ≡ s.entries
    → now_of s ≡ pages new.filed.m new.start (records new.entries)
now_is s new h filed start entries =
    ap (λ (m : ℕ). pages m s.start (records s.entries)) (sym h.pairs)
    ∙ ap (λ (x : Filed). pages x.m s.start (records s.entries)) (sym filed)
    ∙ ap (λ (ls : List Leaf). pages new.filed.m ls (records s.entries)) (sym start)
    ∙ ap (λ (es : List Entry). pages new.filed.m new.start (records es)) (sym entries)

-- frames of Bases were appended: they stand for the same pages
moved_stand : (s : Kept) (then_log : logs.Contents) (last frames : ℕ) (all : List ℕ) → IsSettled s → care.MovedBehind last s.log then_log all [] frames
    → Stand then_log.m (logs.counted then_log) (now_of s)
moved_stand s then_log last frames all done moved =
    subst (λ (m : ℕ). Stand m (logs.counted then_log) (now_of s)) (sym moved.m)
    (subst (λ (fs : List Frame). Stand s.log.m fs (now_of s)) (sym moved.counts)
    (stand_more s.log.m (logs.counted s.log) moved.written (now_of s) done.stands moved.holds.bases))

-- the boxes of a log that stands for the pages
left_of : (old s new : Kept) (hs : List Holding) (c : logs.Contents) → IsSound s → logs.IsSound c → c.is_failed ≡ false
    → Stand c.m (logs.counted c) (now_of s) → new.filed ≡ s.filed → new.start ≡ s.start → new.entries ≡ s.entries
    → machine_of new ≡ keeps (machine_of old) → hs ≡ logs.boxes c → FindsLeft new hs
left_of old s new hs c h sound works stand filed start entries same is =
    finds_all new hs (own_finding c (now_of s) (tails_of c.live)) (ap recovery is ∙ own_boxes c (now_of s) sound works stand)
    (now_is s new h filed start entries) (all_durable old new same)

none_left : (new : Kept) (k n : ℕ) (hs : List Holding) → n ≤ k → IsSound new → FindsLeft new (drop k (take n hs) ++ logs.boxes new.log)
none_left new k n hs less sound = subst (λ (l : List Holding). FindsLeft new (l ++ logs.boxes new.log)) (sym (long_dropped k n hs less)) (may_leave new sound)

-- the boxes that were given up, but for the first k, before those that stand: so they stood before
-- the last of them was given up
boxes_back : (k n : ℕ) (given : List Holding) (then_log mid new : logs.Contents) → k ≤ n → take n given ≡ take n then_log.live
    → new.live ≡ drop n then_log.live → new.spares ≡ then_log.spares → mid.live ≡ drop k then_log.live → mid.spares ≡ then_log.spares
    → drop k (take n given) ++ logs.boxes new ≡ logs.boxes mid
boxes_back k n given then_log mid new low first live spares mid_live mid_spares =
    ap (λ (hs : List Holding). drop k hs ++ (new.live ++ new.spares)) first
    ∙ ap (λ (hs : List Holding). drop k (take n then_log.live) ++ (hs ++ new.spares)) live
    ∙ ap (λ (hs : List Holding). drop k (take n then_log.live) ++ (drop n then_log.live ++ hs)) spares
    ∙ parted k n then_log.live then_log.spares low
    ∙ ap (λ (hs : List Holding). hs ++ then_log.spares) (sym mid_live)
    ∙ ap (λ (hs : List Holding). mid.live ++ hs) (sym mid_spares)

-- ---- a cleaning

module _ (old s new : Kept) (cleaned : Cleaned) (two : 2 ≤ length old.log.live) (emptied : Emptied true old s) (h : IsSound s) (done : IsSettled s)
    (sound : IsSound new) (moved : MoveLeaves s (Ok cleaned) new) (same : machine_of new ≡ keeps (machine_of old)) where
  abbrev then_of : logs.Contents
  then_of = moved.log.then_log

  oldest_back : take 1 old.log.live ≡ take 1 then_of.live
  oldest_back =
      let stay = live_stay old s emptied.number emptied.leaves in
      let many = moved.log.moved.older.many in
      let also = moved.log.two in
      sym (take_one then_of.live s.log.live (moved.log.moved.older.same 0 (omega arith))
      ∙ flush_stays 1 old s emptied.number (omega arith) (omega arith) emptied.leaves)

  cleaned_before : (k : ℕ) → FindsLeft new (drop k (take 1 old.log.live) ++ logs.boxes new.log)
  cleaned_before zero =
      let x = moved.log in
      left_of old s new (take 1 old.log.live ++ logs.boxes new.log) then_of h x.sound x.moved.works
      (moved_stand s then_of (oldest_last s.log s.log.live) cleaned.frames (old_pages s.log) done x.moved)
      (ap (λ (t : Kept). t.filed) moved.is) (ap (λ (t : Kept). t.start) moved.is) (ap (λ (t : Kept). t.entries) moved.is) same
      (boxes_back 0 1 old.log.live then_of then_of new.log (omega arith) oldest_back (ap (λ (c : logs.Contents). c.live) x.given_up)
      (ap (λ (c : logs.Contents). c.spares) x.given_up) refl refl)
  cleaned_before (suc k) = none_left new (suc k) 1 old.log.live (omega arith) sound

pub clean_before : (old s new : Kept) (r : Result Cleaned StoreFault) → 2 ≤ length old.log.live → Emptied true old s → IsSound s → IsSettled s → IsSound new
    → MoveLeaves s r new → KeepsAs r old new → IfOk r (λ _. MayBeStoppedBefore (take 1 old.log.live) new)
clean_before old s new (Ok cleaned) two emptied h done sound moved same = cleaned_before old s new cleaned two emptied h done sound moved same
clean_before old s new (Err fault) two emptied h done sound moved same = tt

-- ---- an upgrade

-- after a frame was appended the newest segment is not of version 1
newer_stands : (old s : Kept) (o : Option ℕ) → logs.IsSound s.log → FlushLeaves old (Ok o) s → length s.log.live ≤ old_segments s.log
    → take (old_segments s.log) s.log.live ≡ take (old_segments s.log) old.log.live
newer_stands old s None sound left all = ap (λ (t : Kept). take (old_segments s.log) t.log.live) left.0
newer_stands old s (Some n) sound left all =
    let shut = all_old_is_shut s.log sound (ap (λ (t : Kept). t.log.is_failed) left.is ∙ left.added.works) all in
    let takes = ap (λ (t : Kept). t.log.is_open) left.is ∙ left.added.takes in
    absurd cc

old_stand : (old s : Kept) (o : Option ℕ) → logs.IsSound old.log → logs.IsSound s.log → FlushLeaves old (Ok o) s
    → take (old_segments s.log) s.log.live ≡ take (old_segments s.log) old.log.live
old_stand old s o was sound left =
    elim (nat_le (length s.log.live) (old_segments s.log)) as (λ b. nat_le (length s.log.live) (old_segments s.log) ≡ b
    → take (old_segments s.log) s.log.live ≡ take (old_segments s.log) old.log.live) [
      | true ↦ λ e. newer_stands old s o sound left (leb-true _ _ e)
      | false ↦ λ e. (
          let less = leb-false _ _ e in
          let few = few_old old.log in
          let many = old_stay old s o was sound left in
          flush_stays (old_segments s.log) old s o (omega arith) (omega arith) left)
    ] refl

module _ (old s new : Kept) (upgraded : Upgraded) (was : IsSound old) (emptied : Emptied true old s) (h : IsSound s) (done : IsSettled s)
    (sound : IsSound new) (moved : UpgradeMoves s (Ok upgraded) new) (same : machine_of new ≡ keeps (machine_of old)) where
  abbrev n : ℕ
  n = old_segments s.log

  row_back : take n old.log.live ≡ take n moved.log.then_log.live
  row_back = sym (moved.log.kept ∙ old_stand old s emptied.number was.log h.log emptied.leaves)

  in_turn : (k : ℕ) → k ≤ n → FindsLeft new (drop k (take n old.log.live) ++ logs.boxes new.log)
  in_turn k low =
      let x = moved.log in
      let turn = x.in_turn k low in
      let mid = turn.0 in
      let given = turn.1.given_up in
      let last = x.given_up.given_up in
      let stand = moved_stand s x.then_log (last_of_old s.log) upgraded.frames (pages_of_old s.log) done x.moved in
      left_of old s new (drop k (take n old.log.live) ++ logs.boxes new.log) mid h turn.2
      (ap (λ (c : logs.Contents). c.is_failed) given ∙ x.moved.works)
      (subst (λ (m : ℕ). Stand m (logs.counted mid) (now_of s)) (sym (ap (λ (c : logs.Contents). c.m) given)) (turn.3 (now_of s) stand))
      (ap (λ (t : Kept). t.filed) moved.is) (ap (λ (t : Kept). t.start) moved.is) (ap (λ (t : Kept). t.entries) moved.is) same
      (boxes_back k n old.log.live x.then_log mid new.log low row_back (ap (λ (c : logs.Contents). c.live) last)
      (ap (λ (c : logs.Contents). c.spares) last) (ap (λ (c : logs.Contents). c.live) given) (ap (λ (c : logs.Contents). c.spares) given))

  upgraded_before : (k : ℕ) → FindsLeft new (drop k (take n old.log.live) ++ logs.boxes new.log)
  upgraded_before k =
      elim (nat_le k n) as (λ b. nat_le k n ≡ b → FindsLeft new (drop k (take n old.log.live) ++ logs.boxes new.log)) [
        | true ↦ λ e. in_turn k (leb-true _ _ e)
        | false ↦ λ e. (let less = leb-false _ _ e in none_left new k n old.log.live (omega arith) sound)
      ] refl

pub upgrade_before : (old s new : Kept) (r : Result Upgraded StoreFault) → IsSound old → Emptied true old s → IsSound s → IsSettled s → IsSound new
    → UpgradeMoves s r new → KeepsAs r old new → IfOk r (λ _. MayBeStoppedBefore (take (old_segments old.log) old.log.live) new)
upgrade_before old s new (Ok upgraded) was emptied h done sound moved same =
    subst (λ (n : ℕ). MayBeStoppedBefore (take n old.log.live) new) (old_stay old s emptied.number was.log h.log emptied.leaves)
    (upgraded_before old s new upgraded was emptied h done sound moved same)
upgrade_before old s new (Err fault) was emptied h done sound moved same = tt
