-- What the cleaner's answer says of the store.

use Rattle.std.proofs.Common.{inl, inr, ◌≡◌, ◌⊎◌, ℕ, suc, ◌+◌, ◌-◌, ◌^◌, ◌<◌, ◌≤◌, Bool, true, false, Option, Some, None, Result, Ok, Err, List, [], ◌∷◌, ◌++◌}
use Rattle.std.proofs.Common.{length, drop, refl, sym, ap, ◌∙◌, subst, arith, length-append, append-nil, replicate}
use Rattle.std.specs.Prelude.{IfSome, IfOk, IfErr, if◌then◌else◌}
use Rattle.std.specs.List.{slice_get, AllByRecursion as All}
use Rattle.bw_record.specs.declared.leaf.Leaf.{Leaf}
use Rattle.bw_record.specs.declared.block.Place.{Place}
use Rattle.bw_record.specs.declared.block.Frame.{Frame}
use Rattle.bw_page.specs.Leaves.{pages}
use Rattle.bw_leaf.specs.Forwards.{blocks_of}
use Rattle.bw_page.specs.Standing.{Stand}
use Rattle.bw_buffer.specs.Filling.{Filling, frame_of}
use Rattle.bw_log.specs.Contents as logs
use Rattle.bw_log.specs.Places.{place_of, first_number}
use Rattle.bw_log.specs.Segments.{following, frames_of, next_of, AreFrom}
use Rattle.bw_log.specs.Oldest.{oldest_count}
use Rattle.bw_log.specs.declared.fault.LogFault.{LogFault}
use Rattle.bw_log.specs.declared.fault.LogFault.TheVariants as log
use Rattle.bw_care.specs.Cleaning.{old_pages, oldest_last, pages_upto, IsRewritten}
use Rattle.bw_care.specs.Moving as care
use Rattle.bw_care.specs.declared.cleaner.Cleaned.{Cleaned}
use Rattle.bw_care.specs.declared.fault.CleanFault.{CleanFault}
use Rattle.bw_care.specs.declared.fault.CleanFault.TheVariants.{NothingOld, Log}
use Rattle.bw_care.proofs.OldPages.{few_old}
use Rattle.bw_care.proofs.BasesLeave.{one_frame, stand_more}
use Rattle.bw_core.specs.Edges.{IsBegun}
use Rattle.bw_core.proofs.Edging.{begun_dropped, begun_stays, moved_row, refused_row, row_then}
use Rattle.bw_terms.specs.declared.fault.StoreFault.{StoreFault}
use Rattle.bw_terms.specs.declared.fault.StoreFault.TheVariants as store
use Rattle.bw_core.specs.Faults.{FlushLeaves}
use Rattle.bw_core.specs.Following.{Continues}
use Rattle.bw_core.proofs.FollowMore.{grows_on}
use Rattle.bw_core.proofs.Logs.{log_never}
use Rattle.bw_care.proofs.BoxesGrown.{same_roster}
use Rattle.bw_codec.specs.Grammar.{frame_bytes, header_bytes}
use Rattle.bw_device.specs.Holding.{Holding, appended}
use Rattle.bw_log.specs.Appends.{with_last, begun, begun_with, header_of, roomy, wants_segment}
use Rattle.bw_history.specs.Entries.{records}
use Rattle.bw_history.specs.History.{upto}
use Rattle.bw_core.specs.Growing.{frames_upto}
use Rattle.bw_core.specs.Kept.{Kept, IsSound}
use Rattle.bw_core.specs.Settled.{IsSettled}
use Rattle.bw_history.specs.Cuts.{end_by}
use Rattle.bw_core.specs.Cleaning.{with_moved, GivesUp, HasMoved, HasStopped, MoveLeaves, HasBoxesBut, HasFloorBut}
use Rattle.bw_terms.specs.Told.{fault_of_clean}
use Rattle.bw_core.specs.Emptied.{Behind, Emptied, WhereSome}
use Rattle.bw_core.proofs.FramesBehind.{end_is, first_ahead, none_above, placed_page, pages_counted}
use Rattle.bw_core.proofs.MovedMore.{Adds, Moves, high, next_then, moved_sound, kept_shares, last_cut, all_cuts}

-- where a cleaning begins
pub record Begins (s : Kept) : Type 0 where
  pub sound : IsSound s
  pub done : IsSettled s
  pub empty : s.making.blocks ≡ []
  pub works : s.log.is_failed ≡ false

-- the log after a cleaning, whatever its answer: so many frames, and some of the first are gone
pub record Cleans (s : Kept) (most : ℕ) (new : logs.Contents) : Type 0 where
  pub written : List Frame
  pub adds : Adds s written
  pub few : length written ≤ most
  pub sound : logs.IsSound new
  pub m : new.m ≡ s.log.m
  pub f : new.f ≡ s.log.f
  pub next : new.next ≡ following (s.before + (s.durable + length written))
  pub stands : Stand s.filed.m (logs.counted new) s.filed.leaves
  pub gone : ℕ
  pub counts : logs.counted new ≡ drop gone (logs.counted s.log ++ written)
  pub begun : IsBegun s.edge new
  pub left : new.is_failed ≡ true → Stand s.filed.m (frames_of (logs.image new).bytes) s.filed.leaves

-- a cleaning that wrote frames, and what holds of its frames
abbrev pub Wrote : Kept → ℕ → logs.Contents → (List Frame → Type 0) → Type 0
Wrote s most new holds = (x : Cleans s most new) × holds x.written

-- what the counted frames stood for they stand for still
abbrev pub StandsOn : Kept → logs.Contents → Type 0
StandsOn s new = (leaves : List Leaf) → Stand s.log.m (logs.counted s.log) leaves → Stand s.log.m (logs.counted new) leaves

-- from a log that counts these frames too
adds_of : (s : Kept) (written : List Frame) (ps : List ℕ) (now : logs.Contents) → Begins s → logs.IsSound now → logs.counted now ≡ logs.counted s.log ++ written
    → care.AreBases s.log (blocks_of written) ps → Adds s written
adds_of s written ps now b sound counts bases =
    let numbered : AreFrom (first_number (logs.counted s.log ++ written)) (logs.counted s.log ++ written) =
    subst (λ (fs : List Frame). AreFrom (first_number fs) fs) counts sound.holds.numbered in
    let some = b.done.stands.some in
    let ahead = first_ahead (logs.counted s.log) written some in
    let top = none_above now (logs.counted s.log ++ written) (first_number (logs.counted s.log ++ written)) sound counts numbered
    (let len = length-append (logs.counted s.log) written in omega arith) in
    record { sound = b.sound; empty = b.empty; done = b.done; bases = bases.bases; numbered = numbered; top = omega arith }

few_pages : (all ps rest : List ℕ) (frames most : ℕ) → length all ≤ most → all ≡ ps ++ rest → frames ≤ length ps → frames ≤ most
few_pages all ps rest frames most top is few =
    let len = ap (λ (l : List ℕ). length l) is in
    let parts = length-append ps rest in
    omega arith

moved_few : (old new : logs.Contents) (last : ℕ) (all : List ℕ) (frames most : ℕ) (moved : care.MovedBehind last old new all [] frames) → length all ≤ most
    → length moved.written ≤ most
moved_few old new last all frames most moved top = (let many = moved.count in let few = moved.few in omega arith)

pub few_upto : (s : Kept) (last : ℕ) → length (pages_upto last s.log) ≤ length s.log.pages
few_upto s last = few_old last (logs.counted s.log) 1 (length s.log.pages)

-- what a refused step leaves of the log
record StillCounts (old new : logs.Contents) : Type 0 where
  counts : logs.counted new ≡ logs.counted old
  m : new.m ≡ old.m
  f : new.f ≡ old.f

same_log : (old new : logs.Contents) → new ≡ old → StillCounts old new
same_log old new e = record {
  counts = ap logs.counted e;
  m = ap (λ (c : logs.Contents). c.m) e;
  f = ap (λ (c : logs.Contents). c.f) e;
}

still_counts : (old new : logs.Contents) (fault : LogFault) → care.Refused fault old new → StillCounts old new
still_counts old new log.NoMemory r = same_log old new r
still_counts old new log.BadConfig r = absurd r
still_counts old new log.NoSegment r = same_log old new r
still_counts old new (log.Device lease) r = record { counts = r.counts; m = r.same.m; f = r.same.f }
still_counts old new log.Failed r = absurd r
still_counts old new log.Spent r = same_log old new r
still_counts old new log.NoPage r = absurd r

stands_as : (s : Kept) (new : logs.Contents) → Begins s
    → StandsOn s new
    → Stand s.filed.m (logs.counted new) s.filed.leaves
stands_as s new b stands =
    let h = b.sound in
    subst (λ (ls : List Leaf). Stand s.filed.m (logs.counted new) ls) (sym h.leaves)
    (subst (λ (m : ℕ). Stand m (logs.counted new) (pages m s.start (records s.entries))) (sym h.pairs)
    (stands (pages s.log.m s.start (records s.entries)) b.done.stands))

-- what a refused step leaves in the live segments, if an append failed: the counted frames, or
-- these and one of Bases
torn_left : (m : ℕ) (old new : logs.Contents) (leaves : List Leaf) → care.IsTornBase old new → Stand m (logs.counted new) leaves
    → Stand m (frames_of (logs.image new).bytes) leaves
torn_left m old new leaves t stand = elim (t.stopped.left) [
  | inl same ↦ subst (λ (fs : List Frame). Stand m fs leaves) (t.stopped.frames ∙ sym same) stand
  | inr one_more ↦ subst (λ (fs : List Frame). Stand m fs leaves) (sym one_more)
      (stand_more m (logs.counted old) (t.frame ∷ []) leaves (subst (λ (fs : List Frame). Stand m fs leaves) t.stopped.frames stand)
      (subst (All (IsRewritten (blocks_of (logs.counted old)))) (sym (one_frame t.frame)) t.holds.bases))
]

still_works : (old new : logs.Contents) → old.is_failed ≡ false → new ≡ old → new.is_failed ≡ true → ⊥
still_works old new works same failed = (let is = ap (λ (c : logs.Contents). c.is_failed) same in absurd cc)

refused_left : (m : ℕ) (old new : logs.Contents) (fault : LogFault) (leaves : List Leaf) → old.is_failed ≡ false → care.Refused fault old new
    → Stand m (logs.counted new) leaves → new.is_failed ≡ true → Stand m (frames_of (logs.image new).bytes) leaves
refused_left m old new log.NoMemory leaves works r stand failed = absurd (still_works old new works r failed)
refused_left m old new log.BadConfig leaves works r stand failed = absurd r
refused_left m old new log.NoSegment leaves works r stand failed = absurd (still_works old new works r failed)
refused_left m old new (log.Device lease) leaves works r stand failed = elim (r.left) [
  | inl same ↦ (let is = ap (λ (i : logs.Image). i.is_failed) same in absurd cc)
  | inr t ↦ torn_left m old new leaves t stand
]
refused_left m old new log.Failed leaves works r stand failed = absurd r
refused_left m old new log.Spent leaves works r stand failed = absurd (still_works old new works r failed)
refused_left m old new log.NoPage leaves works r stand failed = absurd r

-- some pages were written again, then a step was refused
pub refused_wrote : (s : Kept) (last : ℕ) (all : List ℕ) (fault : LogFault) (most : ℕ) (new : logs.Contents) → Begins s → logs.IsSound new
    → length all ≤ most → care.StoppedBehind last s.log all fault new
    → StandsOn s new → Wrote s most new (λ fs. logs.counted new ≡ logs.counted s.log ++ fs)
refused_wrote s last all fault most new b sound top x stands =
    let still = still_counts x.then_log new fault x.refused in
    let counts = still.counts ∙ x.moved.counts in
    let adds = adds_of s x.moved.written x.done new b sound counts x.moved.holds in
    let many = x.moved.count in
    let few = x.moved.few in (
      record {
        written = x.moved.written;
        adds = adds;
        few = (let all_few = few_pages all x.done x.rest x.frames most top x.pages few in omega arith);
        sound = sound;
        m = still.m ∙ x.moved.m;
        f = still.f ∙ x.moved.f;
        next = sound.holds.follows ∙ ap next_of counts ∙ next_then s x.moved.written adds;
        stands = stands_as s new b stands;
        gone = 0;
        counts = counts;
        begun = begun_stays s.edge s.log new b.sound.log.rooms
            (row_then s.log x.then_log new (moved_row last s.log x.then_log x.done x.rest x.frames x.moved)
            (refused_row x.then_log new fault x.refused)) b.sound.begun;
        left = refused_left s.filed.m x.then_log new fault s.filed.leaves x.moved.works x.refused (stands_as s new b stands);
      },
      counts,
    )

-- all pages were written again, and then the first so many segments were given up, whose frames are these first ones
pub record GaveUp (k gone : ℕ) (then_log new : logs.Contents) : Type 0 where
  pub sound : logs.IsSound then_log
  pub less : k < length then_log.live
  pub is : new ≡ record then_log { live = drop k then_log.live; number = then_log.number + k; frames = new.frames }
  pub counts : logs.counted new ≡ drop gone (logs.counted then_log)

pub given_wrote : (s : Kept) (last : ℕ) (all : List ℕ) (frames k gone most : ℕ) (then_log new : logs.Contents) → Begins s → logs.IsSound new
    → length all ≤ most → care.MovedBehind last s.log then_log all [] frames → GaveUp k gone then_log new
    → StandsOn s new → Wrote s most new (λ fs. length fs ≡ frames)
given_wrote s last all frames k gone most then_log new b sound top moved x stands =
    let adds = adds_of s moved.written all then_log b x.sound moved.counts moved.holds in (
      record {
        written = moved.written;
        adds = adds;
        few = moved_few s.log then_log last all frames most moved top;
        sound = sound;
        m = ap (λ (c : logs.Contents). c.m) x.is ∙ moved.m;
        f = ap (λ (c : logs.Contents). c.f) x.is ∙ moved.f;
        next = ap (λ (c : logs.Contents). c.next) x.is ∙ x.sound.holds.follows ∙ ap next_of moved.counts ∙ next_then s moved.written adds;
        stands = stands_as s new b stands;
        gone = gone;
        counts = x.counts ∙ ap (drop gone) moved.counts;
        begun = begun_dropped s.edge k then_log new x.less
            (ap (λ (c : logs.Contents). c.live) x.is) (ap (λ (c : logs.Contents). c.number) x.is) (ap (λ (c : logs.Contents). c.f) x.is)
            (begun_stays s.edge s.log then_log b.sound.log.rooms
            (moved_row last s.log then_log all [] frames moved) b.sound.begun);
        left = λ failed. (let fine = ap (λ (c : logs.Contents). c.is_failed) x.is in let works = moved.works in absurd cc);
      },
      moved.count,
    )

-- all pages were written again, and no segment was given up
pub moved_wrote : (s : Kept) (last : ℕ) (all : List ℕ) (frames most : ℕ) (new : logs.Contents) → Begins s → logs.IsSound new
    → length all ≤ most → care.MovedBehind last s.log new all [] frames
    → StandsOn s new → Wrote s most new (λ fs. (logs.counted new ≡ logs.counted s.log ++ fs) × (length fs ≡ frames))
moved_wrote s last all frames most new b sound top moved stands =
    let adds = adds_of s moved.written all new b sound moved.counts moved.holds in (
      record {
        written = moved.written;
        adds = adds;
        few = moved_few s.log new last all frames most moved top;
        sound = sound;
        m = moved.m;
        f = moved.f;
        next = sound.holds.follows ∙ ap next_of moved.counts ∙ next_then s moved.written adds;
        stands = stands_as s new b stands;
        gone = 0;
        counts = moved.counts;
        begun = begun_stays s.edge s.log new b.sound.log.rooms (moved_row last s.log new all [] frames moved) b.sound.begun;
        left = λ failed. (let works = moved.works in absurd cc);
      },
      (moved.counts, moved.count),
    )

-- ---- the cleaner's own answers

gave_up_oldest : (s : Kept) (cleaned : Cleaned) (new : logs.Contents) (x : care.IsCleaned s.log cleaned new) → GaveUp 1 (oldest_count s.log.live) x.then_log new
gave_up_oldest s cleaned new x = record {
  sound = x.sound;
  less = (let many = x.moved.older.many in let two = x.two in omega arith);
  is = x.given_up;
  counts = x.counts;
}

pub cleaned_wrote : (s : Kept) (cleaned : Cleaned) (new : logs.Contents) → Begins s → logs.IsSound new → care.IsCleaned s.log cleaned new
    → StandsOn s new → Wrote s (length s.log.pages) new (λ fs. length fs ≡ cleaned.frames)
cleaned_wrote s cleaned new b sound x stands =
    given_wrote s (oldest_last s.log s.log.live) (old_pages s.log) cleaned.frames 1 (oldest_count s.log.live) (length s.log.pages) x.then_log new b sound
    (few_upto s (oldest_last s.log s.log.live)) x.moved (gave_up_oldest s cleaned new x) stands

-- a cleaning that is not refused at once
stopped_of : (s : Kept) (cause : CleanFault) (new : logs.Contents) → Begins s → 2 ≤ length s.log.live → care.Refuses cause s.log new
    → (fault : LogFault) × care.Stopped s.log fault new
stopped_of s NothingOld new b two r = (let few = r.1 in absurd (omega arith))
stopped_of s (Log log.NoMemory) new b two r = (log.NoMemory, r.2)
stopped_of s (Log log.BadConfig) new b two r = absurd r
stopped_of s (Log log.NoSegment) new b two r = (log.NoSegment, r.2)
stopped_of s (Log (log.Device lease)) new b two r = (log.Device lease, r.2)
stopped_of s (Log log.Failed) new b two r = (let works = b.works in let failed = r.2 in absurd cc)
stopped_of s (Log log.Spent) new b two r = (log.Spent, r.2)
stopped_of s (Log log.NoPage) new b two r = absurd r

pub stopped_wrote : (s : Kept) (cause : CleanFault) (new : logs.Contents) → Begins s → 2 ≤ length s.log.live → logs.IsSound new
    → care.Refuses cause s.log new → StandsOn s new → Wrote s (length s.log.pages) new (λ fs. logs.counted new ≡ logs.counted s.log ++ fs)
stopped_wrote s cause new b two sound r stands =
    (let stop = stopped_of s cause new b two r in
    refused_wrote s (oldest_last s.log s.log.live) (old_pages s.log) stop.0 (length s.log.pages) new b sound
    (few_upto s (oldest_last s.log s.log.live)) stop.1 stands)

pub cleans_of : (s : Kept) (new : logs.Contents) (r : Result Cleaned CleanFault) → Begins s → 2 ≤ length s.log.live → logs.IsSound new
    → IfOk r (λ cleaned. care.IsCleaned s.log cleaned new) → IfErr r (λ cause. care.Refuses cause s.log new)
    → StandsOn s new → Cleans s (length s.log.pages) new
cleans_of s new (Ok cleaned) b two sound ok err stands = (cleaned_wrote s cleaned new b sound ok stands).0
cleans_of s new (Err cause) b two sound ok err stands = (stopped_wrote s cause new b two sound err stands).0

-- ---- what the store does next

-- the number of frames, by the numbers of the next
pub end_before : (s : Kept) → IsSound s → end_by s.log.next ≡ s.before + s.durable + 1
end_before s h = (let top = h.last in ap end_by h.next ∙ end_is (s.before + s.durable) (omega arith))

pub end_after : (s : Kept) (new : logs.Contents) {most : ℕ} (c : Cleans s most new) → end_by new.next ≡ s.before + s.durable + 1 + length c.written
end_after s new c =
    (let top = high s c.written c.adds in
    ap end_by c.next ∙ end_is (s.before + (s.durable + length c.written)) (omega arith) ∙ omega arith)

pub frames_are : (s : Kept) (new : logs.Contents) {most : ℕ} (c : Cleans s most new) (frames : ℕ) → IsSound s → frames + end_by s.log.next ≡ end_by new.next
    → frames ≡ length c.written
frames_are s new c frames h e = (let one = end_before s h in let two = end_after s new c in omega arith)

pub there : (s : Kept) (new : logs.Contents) {most : ℕ} (c : Cleans s most new) (p : ℕ) → 1 ≤ p → p ≤ length s.newest → IsSound s
    → place_of p (logs.counted new) ≡ None → ⊥
there s new c p from to h = (let count = h.grown.count in placed_page new s.filed.m s.filed.leaves p c.sound c.stands from (omega arith))

pub few_newest : (s : Kept) → IsSound s → IsSettled s → length s.newest < 2 ^ 32
few_newest s h done =
    (let count = h.grown.count in
    let stand : Stand s.log.m (logs.counted s.log) s.filed.leaves =
    subst (λ (ls : List Leaf). Stand s.log.m (logs.counted s.log) ls)
    (ap (λ m. pages m s.start (records s.entries)) (sym h.pairs) ∙ sym h.leaves) done.stands in
    let many = pages_counted s.log s.filed.leaves h.log stand in
    let few = h.log.holds.count in
    omega arith)

-- what was noted
pub record Notes (s : Kept) (most : ℕ) (new : logs.Contents) (frames : ℕ) (cuts : List ℕ) (newest : List Place) (making : Filling) : Type 0 where
  pub cleans : Cleans s most new
  pub frames_are : frames ≡ length cleans.written
  pub cuts_are : cuts ≡ s.cuts ++ replicate frames (length s.entries)
  pub count : length newest ≡ length s.newest
  pub each : (p : ℕ) → 1 ≤ p → p ≤ length s.newest → slice_get newest (p - 1) ≡ place_of p (logs.counted new)
  pub limit : making.limit ≡ s.making.limit
  pub empty : making.blocks ≡ []
  pub sealed : making.is_sealed ≡ new.is_failed
  pub numbered : (new.next ≡ Some making.frame) ⊎ (new.next ≡ None)

module _ (s : Kept) (most : ℕ) (b : Begins s) (new : logs.Contents) (frames : ℕ) (cuts : List ℕ) (newest : List Place) (making : Filling)
    (x : Notes s most new frames cuts newest making) where
  abbrev noted : ℕ → Kept
  noted floor = record s { floor = floor; cuts = cuts; durable = s.durable + frames; newest = newest; making = making; log = new }

  pub noted_is : (floor : ℕ) → noted floor ≡ with_moved s frames floor newest making new
  noted_is floor =
      ap (λ (cs : List ℕ). record s { floor = floor; cuts = cs; durable = s.durable + frames; newest = newest; making = making; log = new }) x.cuts_are

  moves : (floor : ℕ) → floor ≤ s.durable + length x.cleans.written
      → ((k : ℕ) → floor ≤ k → k ≤ s.durable + length x.cleans.written → 1 ≤ s.before + k
      → Stand s.filed.m (frames_upto (s.before + k) (logs.counted new))
      (pages s.filed.m s.start (records (upto (s.cuts ++ replicate (length x.cleans.written) (length s.entries)) s.entries k))))
      → Moves s x.cleans.written x.cleans.adds floor newest making new
  moves floor within upto_cuts =
      let c = x.cleans in
      let count = b.sound.grown.count in
      record {
        sound = c.sound;
        m = c.m;
        f = c.f;
        next = c.next;
        stands = c.stands;
        upto_cuts = upto_cuts;
        shares = kept_shares s c.written c.adds c.gone new c.counts;
        within = within;
        count = x.count ∙ count;
        each = λ p from to. x.each p from (omega arith);
        limit = x.limit;
        empty = x.empty;
        sealed = x.sealed;
        numbered = x.numbered;
        begun = c.begun;
        left = c.left;
      }

  pub cleaned_sound : IsSound (noted (s.durable + frames))
  cleaned_sound =
      let c = x.cleans in
      let same = x.frames_are in
      subst IsSound (sym (noted_is (s.durable + frames) ∙ ap (λ k. with_moved s k (s.durable + k) newest making new) same))
      (moved_sound s c.written c.adds (s.durable + length c.written) newest making new
      (moves (s.durable + length c.written) (omega arith) (last_cut s c.written c.adds c.gone new c.counts c.stands)))

  pub refused_sound : logs.counted new ≡ logs.counted s.log ++ x.cleans.written → IsSound (noted s.floor)
  refused_sound counts =
      let c = x.cleans in
      let same = x.frames_are in
      let low = b.sound.floor in
      subst IsSound (sym (noted_is s.floor ∙ ap (λ k. with_moved s k s.floor newest making new) same))
      (moved_sound s c.written c.adds s.floor newest making new (moves s.floor (omega arith) (all_cuts s c.written c.adds new counts)))

pub numbered_of : (next : Option ℕ) (frame : ℕ) → IfSome next (λ n. frame ≡ n) → (next ≡ Some frame) ⊎ (next ≡ None)
numbered_of None frame h = inr refl
numbered_of (Some n) frame h = inl (ap (λ (k : ℕ). Some k) (sym h))

-- what noting asks, and what it says
module _ (s : Kept) (most : ℕ) (new : logs.Contents) (x : Cleans s most new) (first : Option ℕ) (h : IsSound s) (at_first : first ≡ s.log.next) where
  pub note_some : 1 ≤ end_by first
  note_some = (let one = end_before s h in let e = ap end_by at_first in omega arith)

  pub note_after : end_by first ≤ end_by new.next
  note_after = (let one = end_before s h in let two = end_after s new x in let e = ap end_by at_first in omega arith)

  pub note_few : s.durable + end_by new.next < 2 ^ 64 + end_by first
  note_few =
      (let one = end_before s h in let two = end_after s new x in let e = ap end_by at_first in let top = high s x.written x.adds in omega arith)

  pub note_room : (cuts room : ℕ) → cuts + most ≤ room → cuts + end_by new.next ≤ room + end_by first
  note_room cuts room roomy =
      (let one = end_before s h in let two = end_after s new x in let e = ap end_by at_first in let few = x.few in omega arith)

  pub note_frames : (frames : ℕ) → frames + end_by first ≡ end_by new.next → frames ≡ length x.written
  note_frames frames e = frames_are s new x frames h (let f = ap end_by at_first in omega arith)

  abbrev pub notes_of : (frames : ℕ) (newest : List Place) (making : Filling) → frames + end_by first ≡ end_by new.next
      → length newest ≡ length s.newest → ((p : ℕ) → 1 ≤ p → p ≤ length s.newest → slice_get newest (p - 1) ≡ place_of p (logs.counted new))
      → making.limit ≡ s.making.limit → making.blocks ≡ [] → making.is_sealed ≡ new.is_failed → IfSome new.next (λ n. making.frame ≡ n)
      → Notes s most new frames (s.cuts ++ replicate frames (length s.entries)) newest making
  notes_of frames newest making e count each limit empty sealed number = record {
    cleans = x;
    frames_are = note_frames frames e;
    cuts_are = refl;
    count = count;
    each = each;
    limit = limit;
    empty = empty;
    sealed = sealed;
    numbered = numbered_of new.next making.frame number;
  }

-- ---- a store that noted them

moved_done : (s t : Kept) (new : logs.Contents) (frames told : ℕ) → t ≡ with_moved s frames s.floor t.newest t.making new → frames ≡ told
    → record t { floor = t.durable } ≡ with_moved s told (s.durable + told) t.newest t.making new
moved_done s t new frames told is same =
    ap (λ (k : Kept). record k { floor = k.durable }) is ∙ ap (λ (n : ℕ). with_moved s n (s.durable + n) t.newest t.making new) same

-- if segments were given up the floor is what is durable
pub done_sound : (s t : Kept) {most : ℕ} {new : logs.Contents} {frames : ℕ} (b : Begins s)
    → Notes s most new frames (s.cuts ++ replicate frames (length s.entries)) t.newest t.making
    → t ≡ with_moved s frames s.floor t.newest t.making new → IsSound (record t { floor = t.durable })
done_sound s t {most} {new} {frames} b x is =
    subst IsSound (sym (moved_done s t new frames frames is refl))
    (cleaned_sound s most b new frames (s.cuts ++ replicate frames (length s.entries)) t.newest t.making x)

pub has_given : (holds : logs.Contents → Type 0) (s t : Kept) {new : logs.Contents} {frames told : ℕ}
    → t ≡ with_moved s frames s.floor t.newest t.making new → frames ≡ told → t.making.blocks ≡ [] → holds new
    → HasMoved s told (s.durable + told) holds (record t { floor = t.durable })
has_given holds s t {new} {frames} {told} is same empty held =
    (let log : t.log ≡ new = ap (λ (k : Kept). k.log) is in
    record {
      is = moved_done s t new frames told is same ∙ ap (with_moved s told (s.durable + told) t.newest t.making) (sym log);
      empty = empty;
      log = subst holds (sym log) held;
    })

-- if none was given up it stays
pub has_moved : (holds : logs.Contents → Type 0) (s t : Kept) {new : logs.Contents} {frames told : ℕ}
    → t ≡ with_moved s frames s.floor t.newest t.making new → frames ≡ told → t.making.blocks ≡ [] → holds new → HasMoved s told s.floor holds t
has_moved holds s t {new} {frames} {told} is same empty held =
    (let log : t.log ≡ new = ap (λ (k : Kept). k.log) is in
    record {
      is = is ∙ ap (λ (n : ℕ). with_moved s n s.floor t.newest t.making new) same
          ∙ ap (with_moved s told s.floor t.newest t.making) (sym log);
      empty = empty;
      log = subst holds (sym log) held;
    })

pub has_stopped : (holds : logs.Contents → Type 0) (s t : Kept) {new : logs.Contents} (frames : ℕ)
    → t ≡ with_moved s frames s.floor t.newest t.making new → t.making.blocks ≡ [] → holds new → HasStopped s holds t
has_stopped holds s t frames is empty held =
    (let x = has_moved holds s t {told = frames} is refl empty held in
    record { frames = frames; is = x.is; empty = x.empty; log = x.log })

-- ---- a flush before it

pub long_as : (change : Holding → Holding) (hs : List Holding)
    → length (with_last change hs) ≡ length hs
long_as change [] = refl
long_as change (h ∷ []) = refl
long_as change (h ∷ k ∷ hs) = ap suc (long_as change (k ∷ hs))

begun_more : (c : logs.Contents) (ss : List Holding) → length c.live ≤ length (begun_with c ss).live
begun_more c [] = omega arith
begun_more c (h ∷ hs) = (let len = length-append c.live (appended h (header_bytes (header_of c)) ∷ []) in omega arith)

roomy_by : (c : logs.Contents) (wants : Bool) → length c.live ≤ length (if wants then begun c else c).live
roomy_by c true = begun_more c c.spares
roomy_by c false = omega arith

pub live_stay : (old new : Kept) (o : Option ℕ) → FlushLeaves old (Ok o) new → length old.log.live ≤ length new.log.live
live_stay old new None left = (let same = ap (λ (s : Kept). length s.log.live) left.0 in omega arith)
live_stay old new (Some n) left =
    let same = ap (λ (s : Kept). length s.log.live) left.is in
    let live = ap (λ (hs : List Holding). length hs) left.added.live in
    let len = long_as (λ h. appended h (frame_bytes (frame_of old.making))) (roomy old.log (length (frame_bytes (frame_of old.making)))).live in
    let more = roomy_by old.log (wants_segment old.log (length (frame_bytes (frame_of old.making)))) in
    omega arith

-- ---- what no cleaning takes back

pub moved_follows : (s : Kept) (frames floor : ℕ) (newest : List Place) (making : Filling) (log : logs.Contents) (new : Kept) → s.floor ≤ floor
    → new ≡ with_moved s frames floor newest making log → Continues s new
moved_follows s frames floor newest making log new low is =
    subst (Continues s) (sym is) (grows_on s floor s.entries (s.cuts ++ replicate frames (length s.entries)) (s.durable + frames) s.filed newest making log
    [] (replicate frames (length s.entries)) refl low (sym (append-nil s.entries)) refl (omega arith))

pub gives_follows : {A : Type 0} (frames : A → ℕ) (done : logs.Contents → A → logs.Contents → Type 0)
    (refuses : CleanFault → logs.Contents → logs.Contents → Type 0) (s new : Kept) (r : Result A StoreFault)
    → s.floor ≤ s.durable → GivesUp frames done refuses s r new → Continues s new
gives_follows frames done refuses s new (Ok x) low left =
    moved_follows s (frames x) (s.durable + frames x) new.newest new.making new.log new (omega arith) left.is
gives_follows frames done refuses s new (Err fault) low left =
    moved_follows s left.2.frames s.floor new.newest new.making new.log new (omega arith) left.2.is

refused_roster : (old new : logs.Contents) (fault : LogFault) → care.Refused fault old new → logs.roster new ≡ logs.roster old
refused_roster old new log.NoMemory r = ap logs.roster r
refused_roster old new log.BadConfig r = absurd r
refused_roster old new log.NoSegment r = ap logs.roster r
refused_roster old new (log.Device lease) r = r.same.leases
refused_roster old new log.Failed r = absurd r
refused_roster old new log.Spent r = ap logs.roster r
refused_roster old new log.NoPage r = absurd r

pub stopped_roster : (last : ℕ) (all : List ℕ) (old new : logs.Contents) (fault : LogFault) → care.StoppedBehind last old all fault new
    → logs.roster new ≡ logs.roster old
stopped_roster last all old new fault x = refused_roster x.then_log new fault x.refused ∙ same_roster old x.then_log x.moved.boxes_grew

cause_roster : (old new : logs.Contents) (cause : CleanFault) → care.Refuses cause old new → logs.roster new ≡ logs.roster old
cause_roster old new NothingOld r = ap logs.roster r.0
cause_roster old new (Log log.NoMemory) r = stopped_roster (oldest_last old old.live) (old_pages old) old new log.NoMemory r.2
cause_roster old new (Log log.BadConfig) r = absurd r
cause_roster old new (Log log.NoSegment) r = stopped_roster (oldest_last old old.live) (old_pages old) old new log.NoSegment r.2
cause_roster old new (Log (log.Device lease)) r = stopped_roster (oldest_last old old.live) (old_pages old) old new (log.Device lease) r.2
cause_roster old new (Log log.Failed) r = ap logs.roster r.0
cause_roster old new (Log log.Spent) r = stopped_roster (oldest_last old old.live) (old_pages old) old new log.Spent r.2
cause_roster old new (Log log.NoPage) r = absurd r

pub move_boxes : (old s new : Kept) (r : Result Cleaned StoreFault) → logs.roster s.log ≡ logs.roster old.log → MoveLeaves s r new → HasBoxesBut 1 old r new
move_boxes old s new (Ok cleaned) same left = left.log.leases ∙ ap (drop 1) same
move_boxes old s new (Err fault) same left = cause_roster s.log new.log left.0 left.2.log ∙ same

-- the whole call
pub goes_on : {A : Type 0} (some none : Type 0) (refusal : StoreFault) (leaves : Kept → Result A StoreFault → Kept → Type 0) (old s new : Kept)
    (r : Result A StoreFault) → some → Emptied true old s → leaves s r new → WhereSome some none refusal (Behind leaves) old r new
goes_on some none refusal leaves old s new (Ok x) is may left = (is, (s, may, left))
goes_on some none refusal leaves old s new (Err fault) is may left = inr (is, inr (s, may, left))

-- the floor is what is durable once segments are given up
pub gives_floor : {A : Type 0} (frames : A → ℕ) (done : logs.Contents → A → logs.Contents → Type 0)
    (refuses : CleanFault → logs.Contents → logs.Contents → Type 0) (old s new : Kept) (r : Result A StoreFault)
    → s.floor ≡ old.floor → GivesUp frames done refuses s r new → HasFloorBut old r new
gives_floor frames done refuses old s new (Ok x) same left = ap (λ (k : Kept). k.floor) left.is ∙ sym (ap (λ (k : Kept). k.durable) left.is)
gives_floor frames done refuses old s new (Err fault) same left = ap (λ (k : Kept). k.floor) left.2.is ∙ same

-- it is not refused so if there is something to give up
pub not_nothing : {A : Type 0} (frames : A → ℕ) (done : logs.Contents → A → logs.Contents → Type 0)
    (refuses : CleanFault → logs.Contents → logs.Contents → Type 0) (s new : Kept) (r : Result A StoreFault)
    → (refuses NothingOld s.log new.log → ⊥) → GivesUp frames done refuses s r new → r ≡ Err store.NothingOld → ⊥
not_nothing frames done refuses s new (Ok x) never left e = cc
not_nothing frames done refuses s new (Err fault) never left e =
    (let same : fault ≡ store.NothingOld = cc in by_cause left.0 (sym same ∙ left.1) left.2.log)
  where
    by_cause : (cause : CleanFault) → store.NothingOld ≡ fault_of_clean cause → refuses cause s.log new.log → ⊥
    by_cause NothingOld is refused = never refused
    by_cause (Log log_fault) is refused = log_never log_fault is
