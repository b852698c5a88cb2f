-- A store makes the steps of the machine, and recovery finds what it may leave.

use Rattle.std.proofs.Common.{◌≡◌, ◌⊎◌, ℕ, zero, suc, ◌+◌, ◌≤◌, ◌<◌, inl, inr, Bool, true, false, Option, Some, None, Result, Ok, Err, List, [], ◌∷◌, ◌++◌}
use Rattle.std.specs.Prelude.{◌&&◌}
use Rattle.std.proofs.Common.{length, take, replicate, refl, sym, ap, ◌∙◌, subst, arith, append-nil, append_assoc, length-append}
use Rattle.std.proofs.lemmas.List.{length-replicate}
use Rattle.std.specs.Prelude.{slice_index_or, MatchResult}
use Rattle.bw_record.specs.declared.record.Record.{Record}
use Rattle.bw_log.specs.Contents as logs
use Rattle.bw_page.specs.Leaves.{pages, union}
use Rattle.bw_record.specs.declared.leaf.Leaf.{Leaf}
use Rattle.bw_ring.specs.Marks.{Marked, marked}
use Rattle.bw_ring.specs.declared.lane.Lane.{Lane}
use Rattle.bw_care.specs.Recovery.{Finding, recovery}
use Rattle.bw_lines.specs.declared.cause.RecoverCause.{RecoverCause}
use Rattle.bw_lines.specs.declared.cause.RecoverCause.TheVariants.{Empty}
use Rattle.bw_history.specs.declared.entry.Entry.{Entry}
use Rattle.bw_history.specs.Entries.{records}
use Rattle.bw_history.specs.History.{AreCuts, are_whole, cut, entered, is_grouped}
use Rattle.bw_history.specs.Machine.{IsGroup, IsMachine, Machine, MayLeave, Stops, TakesAndKeeps, TakesAndStops, TakesMany, TakesOne, breaks, keeps, takes}
use Rattle.bw_history.proofs.Grouped.{ends_one, grouped_entered}
use Rattle.bw_terms.specs.declared.fault.StoreFault.{StoreFault}
use Rattle.bw_terms.specs.declared.fault.StoreFault.TheVariants.{NoMemory, BadConfig, NoSegment, Device, Failed, Spent, NoPage, NothingOld}
use Rattle.bw_core.specs.Kept.{IsSound, Kept, leaves_at}
use Rattle.bw_core.specs.Taken.{taken, taken_all}
use Rattle.bw_core.specs.Taking.{MakesRoom, Refuses, Took, Works}
use Rattle.bw_core.specs.Fitting.{back_for}
use Rattle.bw_core.specs.Faults.{Broken, FlushAnswers, FlushLeaves, Flushed, refusal_by}
use Rattle.bw_care.specs.Moving as care
use Rattle.bw_care.specs.Upgrading as upgrading
use Rattle.bw_care.specs.Upgrading.{old_segments}
use Rattle.bw_care.specs.declared.cleaner.Cleaned.{Cleaned}
use Rattle.bw_care.specs.declared.fault.CleanFault.{CleanFault}
use Rattle.bw_care.specs.declared.upgrader.Upgraded.{Upgraded}
use Rattle.bw_core.specs.Cleaning.{CleanLeaves, GivesUp, MoveLeaves, with_moved}
use Rattle.bw_core.specs.Emptied.{Behind, Emptied, IsUnready, WhereSome}
use Rattle.bw_core.specs.Following.{RefusedAfter, Takes, TookInTurn, TookSome, groups_since}
use Rattle.bw_core.specs.Machine.{KeepsAs, MayBeStopped, machine_of}
use Rattle.bw_core.specs.Reading.{HasRead}
use Rattle.bw_core.specs.Rewriting.{RewriteLeaves, RewriteMoves, are_pages}
use Rattle.bw_core.specs.Upgrading.{UpgradeLeaves, UpgradeMoves}
use Rattle.bw_core.proofs.RecordMore.{cut_within}
use Rattle.bw_core.proofs.Refusing.{failed_flush, went}
use Rattle.bw_core.proofs.SettledMore.{all_appended, settled}
use Rattle.bw_core.proofs.Stopping.{stop_found, whole_found}

-- ---- cuts

index_more : (cs ds : List ℕ) (k : ℕ) → k < length cs → slice_index_or (cs ++ ds) k 0 ≡ slice_index_or cs k 0
index_more [] ds k below = absurd (omega arith)
index_more (c ∷ cs) ds zero below = refl
index_more (c ∷ cs) ds (suc k) below = index_more cs ds k (omega arith)

index_last : (cs : List ℕ) (d : ℕ) → slice_index_or (cs ++ d ∷ []) (length cs) 0 ≡ d
index_last [] d = refl
index_last (c ∷ cs) d = index_last cs d

pub cut_more : (cs ds : List ℕ) (k : ℕ) → k ≤ length cs → cut (cs ++ ds) k ≡ cut cs k
cut_more cs ds zero le = refl
cut_more cs ds (suc k) le = index_more cs ds k (omega arith)

-- no cut is below an earlier one
index_low : (from : ℕ) (cs : List ℕ) (n k : ℕ) → AreCuts from cs n → k < length cs → from ≤ slice_index_or cs k 0
index_low from [] n k are below = absurd (omega arith)
index_low from (c ∷ cs) n zero are below = are.0
index_low from (c ∷ cs) n (suc k) are below = (let rest = index_low c cs n k are.1 (omega arith) in let one = are.0 in omega arith)

index_next : (from : ℕ) (cs : List ℕ) (n k : ℕ) → AreCuts from cs n → suc k < length cs → slice_index_or cs k 0 ≤ slice_index_or cs (suc k) 0
index_next from [] n k are below = absurd (omega arith)
index_next from (c ∷ cs) n zero are below = index_low c cs n 0 are.1 (omega arith)
index_next from (c ∷ cs) n (suc k) are below = index_next c cs n k are.1 (omega arith)

pub cut_next : (cs : List ℕ) (n k : ℕ) → AreCuts 0 cs n → k < length cs → cut cs k ≤ cut cs (suc k)
cut_next cs n zero are below = omega arith
cut_next cs n (suc k) are below = index_next 0 cs n k are below

left_of : (x y : Bool) → (x && y) ≡ true → x ≡ true
left_of true y e = refl
left_of false y e = absurd cc

right_of : (x y : Bool) → (x && y) ≡ true → y ≡ true
right_of true y e = e
right_of false y e = absurd cc

whole_at : (cs : List ℕ) (es : List Entry) (k : ℕ) → are_whole cs es ≡ true → k < length cs → is_grouped (take (slice_index_or cs k 0) es) ≡ true
whole_at [] es k are below = absurd (omega arith)
whole_at (c ∷ cs) es zero are below = left_of (is_grouped (take c es)) (are_whole cs es) are
whole_at (c ∷ cs) es (suc k) are below = whole_at cs es k (right_of (is_grouped (take c es)) (are_whole cs es) are) (omega arith)

whole_upto : (cs : List ℕ) (es : List Entry) (k : ℕ) → are_whole cs es ≡ true → k ≤ length cs → is_grouped (take (cut cs k) es) ≡ true
whole_upto cs es zero are le = refl
whole_upto cs es (suc k) are le = whole_at cs es k are (omega arith)

pub appended_within : (s : Kept) → IsSound s → s.durable ≤ length s.cuts
appended_within s h = elim h.beyond [ inl e ↦ omega arith | inr p ↦ (let one = p.0 in omega arith) ]

pub written_behind : (s : Kept) → IsSound s → cut s.cuts s.durable ≤ cut s.cuts (length s.cuts)
written_behind s h = elim h.beyond [
  | inl e ↦ (let same = ap (cut s.cuts) e in omega arith)
  | inr p ↦ (
      let one = p.0 in
      let long : length s.cuts ≡ suc s.durable = omega arith in
      let next = cut_next s.cuts (length s.entries) s.durable h.ordered (omega arith) in
      let same = ap (cut s.cuts) long in
      omega arith)
]

-- a store is a machine
pub is_machine : (s : Kept) → IsSound s → is_grouped s.entries ≡ true → are_whole s.cuts s.entries ≡ true → IsMachine (machine_of s)
is_machine s h grouped whole =
    let within = cut_within s.cuts (length s.entries) (length s.cuts) h.ordered in
    let count = appended_within s h in
    record {
      whole = grouped;
      kept = whole_upto s.cuts s.entries s.durable whole count;
      left = whole_upto s.cuts s.entries (length s.cuts) whole (omega arith);
      shown = omega arith;
      durable = written_behind s h;
      written = within;
    }

-- ---- steps

abbrev made_of : List Leaf → List Entry → ℕ → ℕ → Machine
made_of start entries durable written = record { start = union start; entries = entries; durable = durable; written = written; shown = 0 }

made_same : (s t : List Leaf) (es fs : List Entry) (d e w x : ℕ) → s ≡ t → es ≡ fs → d ≡ e → w ≡ x → made_of s es d w ≡ made_of t fs e x
made_same s t es fs d e w x z a b c =
    ap (λ (l : List Leaf). made_of l es d w) z ∙ ap (λ (l : List Entry). made_of t l d w) a ∙ ap (λ n. made_of t fs n w) b
    ∙ ap (λ n. made_of t fs e n) c

abbrev AllAppended : Kept → Type 0
AllAppended s = length s.cuts ≡ s.durable

-- the machine of a store that is another one
same_machine : (old new : Kept) → new ≡ old → machine_of new ≡ machine_of old
same_machine old new e = ap machine_of e

same_appended : (old new : Kept) → new ≡ old → AllAppended old → AllAppended new
same_appended old new e all = subst AllAppended (sym e) all

-- one cut more, at the end of the history
one_cut : (cs : List ℕ) (n : ℕ) → cut (cs ++ n ∷ []) (length (cs ++ n ∷ [])) ≡ n
one_cut cs n =
    let long = length-append cs (n ∷ []) in
    let next : length (cs ++ n ∷ []) ≡ suc (length cs) = omega arith in
    ap (cut (cs ++ n ∷ [])) next ∙ index_last cs n

longer : (cs ds : List ℕ) (n : ℕ) → ds ≡ cs ++ n ∷ [] → length ds ≡ length cs + 1
longer cs ds n e = ap (λ (l : List ℕ). length l) e ∙ length-append cs (n ∷ [])

flushed_keeps : (old new : Kept) (number : ℕ) → AllAppended old → Flushed old number new → (machine_of new ≡ keeps (machine_of old)) × AllAppended new
flushed_keeps old new number all f =
    let start = ap (λ (s : Kept). s.start) f.is in
    let cuts = ap (λ (s : Kept). s.cuts) f.is in
    let durable = ap (λ (s : Kept). s.durable) f.is in
    let entries = ap (λ (s : Kept). s.entries) f.is in
    let long = longer old.cuts new.cuts (length old.entries) cuts in
    let same : new.durable ≡ length new.cuts = omega arith in
    let end : cut new.cuts (length new.cuts) ≡ length old.entries =
    ap (λ (cs : List ℕ). cut cs (length cs)) cuts ∙ one_cut old.cuts (length old.entries) in (
      made_same new.start old.start new.entries old.entries (cut new.cuts new.durable) (length old.entries) (cut new.cuts (length new.cuts))
          (length old.entries) start entries (ap (cut new.cuts) same ∙ end) end,
      omega arith,
    )

broken_breaks : (old new : Kept) (lease : ℕ) → AllAppended old → Broken lease old new → machine_of new ≡ breaks (machine_of old)
broken_breaks old new lease all b =
    let start = ap (λ (s : Kept). s.start) b.is in
    let cuts = ap (λ (s : Kept). s.cuts) b.is in
    let durable = ap (λ (s : Kept). s.durable) b.is in
    let entries = ap (λ (s : Kept). s.entries) b.is in
    let end : cut new.cuts (length new.cuts) ≡ length old.entries =
    ap (λ (cs : List ℕ). cut cs (length cs)) cuts ∙ one_cut old.cuts (length old.entries) in
    let kept : cut new.cuts new.durable ≡ cut old.cuts old.durable =
    ap (λ k. cut new.cuts k) durable ∙ ap (λ (cs : List ℕ). cut cs old.durable) cuts ∙ cut_more old.cuts (length old.entries ∷ []) old.durable (omega arith) in
    made_same new.start old.start new.entries old.entries (cut new.cuts new.durable) (cut old.cuts old.durable) (cut new.cuts (length new.cuts))
    (length old.entries) start entries kept end

-- a read changes only the log
read_same : (old new : Kept) → HasRead old new → machine_of new ≡ machine_of old
read_same old new r = ap machine_of r.is

-- nothing was appended, or all that was taken is kept
may_keep : (group : List Record) (old new : Kept) → AllAppended old → MakesRoom group old new
    → ((machine_of new ≡ machine_of old) ⊎ (machine_of new ≡ keeps (machine_of old))) × AllAppended new
may_keep group old new all (inl e) = (inl (same_machine old new e), same_appended old new e all)
may_keep group old new all (inr f) = (let k = flushed_keeps old new f.2.0 all f.2.1 in (inr k.0, k.1))

-- ---- groups

entries_all : (s : Kept) (lane : ℕ) (ms : List Marked) → (taken_all s lane ms).entries ≡ s.entries ++ entered lane ms
entries_all s lane [] = sym (append-nil s.entries)
entries_all s lane (m ∷ ms) =
    entries_all (taken s lane m (back_for s m.item)) lane ms
    ∙ append_assoc s.entries (record { writer = lane; more = m.more; item = m.item } ∷ []) (entered lane ms)

cuts_all : (s : Kept) (lane : ℕ) (ms : List Marked)
    → ((taken_all s lane ms).cuts ≡ s.cuts) × ((taken_all s lane ms).durable ≡ s.durable) × ((taken_all s lane ms).start ≡ s.start)
cuts_all s lane [] = (refl, refl, refl)
cuts_all s lane (m ∷ ms) = cuts_all (taken s lane m (back_for s m.item)) lane ms

took_group : (old new : Kept) (lane : ℕ) (ms : List Marked) → AllAppended old → new ≡ taken_all old lane ms
    → (machine_of new ≡ takes (entered lane ms) (machine_of old)) × AllAppended new
took_group old new lane ms all is =
    let cuts = cuts_all old lane ms in
    let entries = ap (λ (s : Kept). s.entries) is ∙ entries_all old lane ms in
    let cut_same = ap (λ (s : Kept). s.cuts) is ∙ cuts.0 in
    let durable = ap (λ (s : Kept). s.durable) is ∙ cuts.1 in
    let start = ap (λ (s : Kept). s.start) is ∙ cuts.2 in
    let kept : cut new.cuts new.durable ≡ cut old.cuts old.durable = ap (λ k. cut new.cuts k) durable ∙ ap (λ (cs : List ℕ). cut cs old.durable) cut_same in
    let end : cut new.cuts (length new.cuts) ≡ cut old.cuts (length old.cuts) = ap (λ (cs : List ℕ). cut cs (length cs)) cut_same in
    let long = ap (λ (cs : List ℕ). length cs) cut_same in (
      made_same new.start old.start new.entries (old.entries ++ entered lane ms) (cut new.cuts new.durable) (cut old.cuts old.durable)
          (cut new.cuts (length new.cuts)) (cut old.cuts (length old.cuts)) start entries kept end,
      omega arith,
    )

took_one : (lane : ℕ) (old new : Kept) → AllAppended old → Took lane old new → TakesOne (machine_of old) (machine_of new) × AllAppended new
took_one lane old new all t =
    let before = may_keep t.group old t.middle all t.flushes in
    let then = took_group t.middle new lane (marked t.group) before.1 t.is in
    let group = entered lane (marked t.group) in
    let few = t.few in
    let is : IsGroup group = (grouped_entered lane t.group, ends_one lane t.group (omega arith)) in (
      (
        group,
        is,
        elim before.0 [
          | inl same ↦ inl (then.0 ∙ ap (takes group) same)
          | inr kept ↦ inr (then.0 ∙ ap (takes group) kept)
        ],
      ),
      then.1,
    )

-- if a group was taken, no append had failed
first_worked : (n : ℕ) (old new : Kept) → Takes (suc n) old new → old.log.is_failed ≡ false
first_worked zero old new t = (let w = t.2.1.worked in let is = ap (λ (s : Kept). s.log.is_failed) t.1 in sym is ∙ w)
first_worked (suc n) old new t = first_worked n old t.0 t.1

took_many : (n : ℕ) (old new : Kept) → AllAppended old → Takes n old new → TakesMany n (machine_of old) (machine_of new) × AllAppended new
took_many zero old new all t = (same_machine old new t, same_appended old new t all)
took_many (suc n) old new all t =
    let before = took_many n old t.0 all t.1 in
    let one = took_one t.2.0 t.0 new before.1 t.2.1 in
    ((machine_of t.0, before.0, one.0), one.1)

-- groups were taken, whatever became of the store before
pub takes_many : (n : ℕ) (old new : Kept) → IsSound old → Takes n old new → TakesMany n (machine_of old) (machine_of new)
takes_many zero old new h t = same_machine old new t
takes_many (suc n) old new h t = (took_many (suc n) old new (all_appended old h (first_worked n old new t)) t).0

pub turn_takes : (n : ℕ) (old new : Kept) → IsSound old → TookInTurn n old new → TakesMany (groups_since old new) (machine_of old) (machine_of new)
turn_takes n old new h t = takes_many (groups_since old new) old new h t.each

-- a store that works still has all its frames appended after groups that were taken
takes_appended : (n : ℕ) (old new : Kept) → AllAppended old → Takes n old new → AllAppended new
takes_appended n old new all t = (took_many n old new all t).1

works_before : (n : ℕ) (old new : Kept) → IsSound old → Takes n old new → Works new → Works old
works_before zero old new h t works = sym (ap (λ (s : Kept). s.log.is_failed) t) ∙ works
works_before (suc n) old new h t works = first_worked n old new t

-- ---- refusals

refusal_stops : (away : ℕ → Bool) (group : List Record) (old new : Kept) (fault : StoreFault) → (Works old → AllAppended old)
    → Refuses away group old fault new → (machine_of new ≡ keeps (machine_of old)) ⊎ Stops (machine_of old) (machine_of new)
refusal_stops away group old new NoMemory all r = (elim (may_keep group old new (all r.0) r.1).0 [ inl same ↦ inr (inl same) | inr kept ↦ inl kept ])
refusal_stops away group old new BadConfig all r = absurd r
refusal_stops away group old new NoSegment all r = inr (inl (same_machine old new r.0))
refusal_stops away group old new (Device lease) all r = elim r.1 [
  | inl broken ↦ inr (inr (broken_breaks old new lease (all r.0) broken.2))
  | inr unread ↦ inr (inl (read_same old new unread.read))
]
refusal_stops away group old new Failed all r = inr (inl (same_machine old new r.0))
refusal_stops away group old new Spent all r = elim r.1 [
  | inl may ↦ (elim (may_keep group old new (all r.0) may.0).0 [ inl same ↦ inr (inl same) | inr kept ↦ inl kept ])
  | inr same ↦ inr (inl (same_machine old new same.0))
]
refusal_stops away group old new NoPage all r = absurd r
refusal_stops away group old new NothingOld all r = absurd r

pub refused_stops : (n : ℕ) (old : Kept) (lanes : List Lane) (away : ℕ → Bool) (cause : StoreFault) (new : Kept) → IsSound old
    → RefusedAfter n old lanes away cause new → TakesAndStops (machine_of old) (machine_of new)
refused_stops n old lanes away cause new h r =
    let groups = groups_since old r.middle in
    let all : Works r.middle → AllAppended r.middle =
    λ works. takes_appended groups old r.middle (all_appended old h (works_before groups old r.middle h r.took.each works)) r.took.each in
    (groups, machine_of r.middle, takes_many groups old r.middle h r.took.each, refusal_stops away r.refuses.group r.middle new cause all r.refuses.refuses)

-- ---- flushes

pub fails_or_works : (b : Bool) → (b ≡ true) ⊎ (b ≡ false)
fails_or_works true = inl refl
fails_or_works false = inr refl

pub flush_stops : (takes_last : Bool) (old new : Kept) (fault : StoreFault) → IsSound old → FlushAnswers (refusal_by takes_last old) (Err fault)
    → FlushLeaves old (Err fault) new → Stops (machine_of old) (machine_of new)
flush_stops takes_last old new (Device lease) h answers left = elim (fails_or_works old.log.is_failed) [
  | inl failed ↦ (let never = failed_flush takes_last old (Err (Device lease)) failed answers in absurd cc)
  | inr works ↦ inr (broken_breaks old new lease (all_appended old h works) left)
]
flush_stops takes_last old new NoMemory h answers left = inl (same_machine old new left)
flush_stops takes_last old new BadConfig h answers left = inl (same_machine old new left)
flush_stops takes_last old new NoSegment h answers left = inl (same_machine old new left)
flush_stops takes_last old new Failed h answers left = inl (same_machine old new left)
flush_stops takes_last old new Spent h answers left = inl (same_machine old new left)
flush_stops takes_last old new NoPage h answers left = inl (same_machine old new left)
flush_stops takes_last old new NothingOld h answers left = inl (same_machine old new left)

-- if nothing is in the making, all is kept
kept_already : (s : Kept) → AllAppended s → cut s.cuts s.durable ≡ length s.entries → keeps (machine_of s) ≡ machine_of s
kept_already s all is =
    made_same s.start s.start s.entries s.entries (length s.entries) (cut s.cuts s.durable) (length s.entries) (cut s.cuts (length s.cuts))
    refl refl (sym is) (sym is ∙ ap (cut s.cuts) (sym all))

pub flush_keeps : (takes_last : Bool) (old new : Kept) (o : Option ℕ) → IsSound old → FlushAnswers (refusal_by takes_last old) (Ok o)
    → FlushLeaves old (Ok o) new → (machine_of new ≡ keeps (machine_of old)) × (length new.cuts ≡ new.durable)
flush_keeps takes_last old new None h answers left =
    let works = went takes_last old None answers in
    let is = settled old h left.1 works in
    let all = all_appended old h works in
    (same_machine old new left.0 ∙ sym (kept_already old all is.cut.1), same_appended old new left.0 all)
flush_keeps takes_last old new (Some number) h answers left =
    flushed_keeps old new number (all_appended old h (went takes_last old (Some number) answers)) left

pub flush_steps : (takes_last : Bool) (old new : Kept) (r : Result (Option ℕ) StoreFault) → IsSound old → FlushAnswers (refusal_by takes_last old) r
    → FlushLeaves old r new
    → MatchResult r (λ _. machine_of new ≡ keeps (machine_of old)) (λ _. Stops (machine_of old) (machine_of new))
flush_steps takes_last old new (Ok o) h answers left = (flush_keeps takes_last old new o h answers left).0
flush_steps takes_last old new (Err fault) h answers left = flush_stops takes_last old new fault h answers left

-- ---- settlements

-- a flush after groups that were taken
pub settle_keeps : (old middle new : Kept) (o : Option ℕ) → IsSound old → TookSome old middle → IsSound middle → FlushAnswers (refusal_by false middle) (Ok o)
    → FlushLeaves middle (Ok o) new → TakesAndKeeps (machine_of old) (machine_of new)
settle_keeps old middle new o h took sound answers left =
    (groups_since old middle, machine_of middle, turn_takes took.0 old middle h took.1, (flush_keeps false middle new o sound answers left).0)

pub settle_stops : (old middle new : Kept) (fault : StoreFault) → IsSound old → TookSome old middle → IsSound middle
    → FlushAnswers (refusal_by false middle) (Err fault) → FlushLeaves middle (Err fault) new → TakesAndStops (machine_of old) (machine_of new)
settle_stops old middle new fault h took sound answers left =
    (groups_since old middle, machine_of middle, turn_takes took.0 old middle h took.1, inr (flush_stops false middle new fault sound answers left))

-- ---- where segments are given up, or pages written again

emptied_keeps : (old middle : Kept) → IsSound old → Emptied true old middle → (machine_of middle ≡ keeps (machine_of old)) × AllAppended middle
emptied_keeps old middle h e = flush_keeps true old middle e.number h e.answers e.leaves

many_cuts : (cs : List ℕ) (frames n k : ℕ) → k ≡ length cs → cut cs k ≡ n → cut (cs ++ replicate frames n) (k + frames) ≡ n
many_cuts cs zero n k is e =
    let more : k + 0 ≡ k = omega arith in
    ap (λ (l : List ℕ). cut l (k + 0)) (append-nil cs) ∙ ap (cut cs) more ∙ e
many_cuts cs (suc frames) n k is e =
    let one : suc (length cs) ≡ length (cs ++ n ∷ []) = (let long = length-append cs (n ∷ []) in omega arith) in
    let next : suc k ≡ length (cs ++ n ∷ []) = (let same = is in omega arith) in
    let last : cut (cs ++ n ∷ []) (suc k) ≡ n = ap (λ j. slice_index_or (cs ++ n ∷ []) j 0) is ∙ index_last cs n in
    let more : k + suc frames ≡ suc k + frames = omega arith in
    ap (cut (cs ++ n ∷ replicate frames n)) more
    ∙ ap (λ (l : List ℕ). cut l (suc k + frames)) (sym (append_assoc cs (n ∷ []) (replicate frames n)))
    ∙ many_cuts (cs ++ n ∷ []) frames n (suc k) next last

-- frames of the cleaner's, after a store of which all is kept
moved_same : (s new : Kept) (frames floor : ℕ) → AllAppended s → cut s.cuts s.durable ≡ length s.entries
    → new ≡ with_moved s frames floor new.newest new.making new.log → machine_of new ≡ machine_of s
moved_same s new frames floor all is e =
    let start = ap (λ (t : Kept). t.start) e in
    let cuts = ap (λ (t : Kept). t.cuts) e in
    let durable = ap (λ (t : Kept). t.durable) e in
    let entries = ap (λ (t : Kept). t.entries) e in
    let many = many_cuts s.cuts frames (length s.entries) s.durable (sym all) is in
    let kept : cut new.cuts new.durable ≡ length s.entries =
    ap (cut new.cuts) durable ∙ ap (λ (cs : List ℕ). cut cs (s.durable + frames)) cuts ∙ many in
    let long = ap (λ (cs : List ℕ). length cs) cuts in
    let count = length-append s.cuts (replicate frames (length s.entries)) in
    let all_of = length-replicate frames (length s.entries) in
    let same : length new.cuts ≡ new.durable = omega arith in
    made_same new.start s.start new.entries s.entries (cut new.cuts new.durable) (cut s.cuts s.durable) (cut new.cuts (length new.cuts))
    (cut s.cuts (length s.cuts)) start entries (kept ∙ sym is) (ap (cut new.cuts) same ∙ kept ∙ sym is ∙ ap (cut s.cuts) (sym all))

durable_all : (old middle : Kept) → machine_of middle ≡ keeps (machine_of old) → cut middle.cuts middle.durable ≡ length middle.entries
durable_all old middle e =
    ap (λ (m : Machine). m.durable) e ∙ sym (ap (λ (m : Machine). length m.entries) e)

gives_keeps : {A : Type 0} (frames : A → ℕ) (done : logs.Contents → A → logs.Contents → Type 0)
    (refuses : CleanFault → logs.Contents → logs.Contents → Type 0) (old middle new : Kept) (r : Result A StoreFault)
    → IsSound old → Emptied true old middle → GivesUp frames done refuses middle r new → machine_of new ≡ keeps (machine_of old)
gives_keeps frames done refuses old middle new (Ok x) h e g =
    let k = emptied_keeps old middle h e in
    moved_same middle new (frames x) (middle.durable + frames x) k.1 (durable_all old middle k.0) g.is ∙ k.0
gives_keeps frames done refuses old middle new (Err fault) h e g =
    let k = emptied_keeps old middle h e in
    moved_same middle new g.2.frames middle.floor k.1 (durable_all old middle k.0) g.2.is ∙ k.0

rewrites_keep : (old middle new : Kept) (pages : List ℕ) (r : Result ℕ StoreFault) → IsSound old → Emptied true old middle
    → RewriteMoves middle pages r new → machine_of new ≡ keeps (machine_of old)
rewrites_keep old middle new pages (Ok frames) h e g =
    let k = emptied_keeps old middle h e in
    moved_same middle new frames middle.floor k.1 (durable_all old middle k.0) g.is ∙ k.0
rewrites_keep old middle new pages (Err fault) h e g =
    let k = emptied_keeps old middle h e in
    moved_same middle new g.2.frames middle.floor k.1 (durable_all old middle k.0) g.2.is ∙ k.0

unready_stops : (old new : Kept) (fault : StoreFault) → IsSound old → IsUnready old fault new
    → (machine_of new ≡ keeps (machine_of old)) ⊎ Stops (machine_of old) (machine_of new)
unready_stops old new fault h (inl refused) = inr (flush_stops true old new fault h refused.0 refused.1)
unready_stops old new fault h (inr wanting) =
    inl (same_machine wanting.0 new wanting.3 ∙ (emptied_keeps old wanting.0 h wanting.1).0)

-- a step after such a flush
behind_keeps : {A : Type 0} (leaves : Kept → Result A StoreFault → Kept → Type 0) (some none : Type 0) (refusal : StoreFault) (old new : Kept)
    (r : Result A StoreFault) → IsSound old
    → ((middle : Kept) (x : Result A StoreFault) → Emptied true old middle → leaves middle x new → machine_of new ≡ keeps (machine_of old))
    → WhereSome some none refusal (Behind leaves) old r new → KeepsAs r old new
behind_keeps leaves some none refusal old new (Ok x) h each w = each w.1.0 (Ok x) w.1.1 w.1.2
behind_keeps leaves some none refusal old new (Err fault) h each (inl refused) = inr (inl (same_machine old new refused.2))
behind_keeps leaves some none refusal old new (Err fault) h each (inr w) = elim w.1 [
  | inl unready ↦ unready_stops old new fault h unready
  | inr behind ↦ inl (each behind.0 (Err fault) behind.1 behind.2)
]

pub clean_keeps : (old new : Kept) (r : Result Cleaned StoreFault) → IsSound old → CleanLeaves old r new → KeepsAs r old new
clean_keeps old new r h w =
    behind_keeps MoveLeaves (2 ≤ length old.log.live) (length old.log.live < 2) NothingOld old new r h
    (λ middle x e g. gives_keeps (λ (c : Cleaned). c.frames) care.IsCleaned care.Refuses old middle new x h e g) w

pub upgrade_keeps : (old new : Kept) (r : Result Upgraded StoreFault) → IsSound old → UpgradeLeaves old r new → KeepsAs r old new
upgrade_keeps old new r h w =
    behind_keeps UpgradeMoves (1 ≤ old_segments old.log) (old_segments old.log ≡ 0) NothingOld old new r h
    (λ middle x e g. gives_keeps (λ (u : Upgraded). u.frames) upgrading.IsUpgraded upgrading.RefusesUpgrade old middle new x h e g) w

pub rewrite_keeps : (old new : Kept) (pages : List ℕ) (r : Result ℕ StoreFault) → IsSound old → RewriteLeaves old pages r new → KeepsAs r old new
rewrite_keeps old new pages r h w =
    behind_keeps (λ s x t. RewriteMoves s pages x t) (are_pages (length old.filed.leaves) pages ≡ true) (are_pages (length old.filed.leaves) pages ≡ false)
    NoPage old new r h (λ middle x e g. rewrites_keep old middle new pages x h e g) w

-- ---- stops

found_left : (s : Kept) (r : Result Finding RecoverCause)
    → MatchResult r (λ f. (f.leaves ≡ leaves_at s s.durable) ⊎ ((length s.cuts ≡ s.durable + 1) × (f.leaves ≡ leaves_at s (s.durable + 1))))
    (λ e. (e ≡ Empty) × (s.before ≡ 0) × (s.durable ≡ 0))
    → MatchResult r (λ f. (left : List Entry) × MayLeave (machine_of s) left × (f.leaves ≡ pages s.filed.m s.start (records left)))
    (λ e. (e ≡ Empty) × (s.before ≡ 0) × (s.durable ≡ 0))
found_left s (Ok f) (inl kept) = (take (cut s.cuts s.durable) s.entries, inl refl, kept)
found_left s (Ok f) (inr beyond) = (
  take (cut s.cuts (length s.cuts)) s.entries,
  inr refl,
  beyond.1 ∙ ap (λ k. pages s.filed.m s.start (records (take (cut s.cuts k) s.entries))) (sym beyond.0),
)
found_left s (Err e) none = none

found_now : (s : Kept) (r : Result Finding RecoverCause)
    → MatchResult r (λ f. f.leaves ≡ leaves_at s s.durable) (λ e. (e ≡ Empty) × (s.before ≡ 0) × (s.durable ≡ 0))
    → MatchResult r (λ f. (left : List Entry) × MayLeave (machine_of s) left × (f.leaves ≡ pages s.filed.m s.start (records left)))
    (λ e. (e ≡ Empty) × (s.before ≡ 0) × (s.durable ≡ 0))
found_now s (Ok f) kept = (take (cut s.cuts s.durable) s.entries, inl refl, kept)
found_now s (Err e) none = none

pub may_leave : (s : Kept) → IsSound s → MayBeStopped s
may_leave s h = elim (fails_or_works s.log.is_failed) [
  | inl failed ↦ found_left s (recovery (logs.boxes s.log)) (stop_found s h failed)
  | inr works ↦ found_now s (recovery (logs.boxes s.log)) (whole_found s h works)
]
