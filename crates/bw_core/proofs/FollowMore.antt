-- Each step follows, and so do several.

use Rattle.std.proofs.Common.{◌≡◌, ℕ, zero, suc, ◌+◌, ◌≤◌, ◌<◌, inl, inr, Bool, true, false, Result, Ok, Err, Option, Some, None, List, [], ◌∷◌, ◌++◌}
use Rattle.std.proofs.Common.{length, drop, refl, sym, ap}
use Rattle.std.proofs.Common.{◌∙◌, subst}
use Rattle.std.proofs.Common.{append_assoc, append-nil, arith, length-append}
use Rattle.std.specs.Prelude.{nat_le}
use Rattle.std.proofs.lemmas.Bool.{leb-true, leb-false}
use Rattle.bw_record.specs.declared.block.Place.{Place}
use Rattle.bw_buffer.specs.Filling.{Filling}
use Rattle.bw_log.specs.Contents.{roster}
use Rattle.bw_log.specs.Contents as logs
use Rattle.bw_log.specs.Appends.{IsSameLog}
use Rattle.bw_history.specs.declared.entry.Entry.{Entry}
use Rattle.bw_terms.specs.declared.fault.StoreFault.{StoreFault}
use Rattle.bw_core.specs.Kept.{Filed, Kept, with_frame, with_stop}
use Rattle.bw_core.specs.Taken.{taken, taken_all}
use Rattle.bw_record.specs.declared.record.Record.{Record}
use Rattle.bw_ring.specs.declared.lane.Lane.{Lane}
use Rattle.bw_core.specs.Taking.{MakesRoom, Took, TakeLeaves, Refuses, RefusesNext}
use Rattle.bw_terms.specs.declared.fault.StoreFault.TheVariants.{NoMemory, BadConfig, NoSegment, Device, Failed, Spent, NoPage, NothingOld}
use Rattle.bw_core.specs.Faults.{Flushed, Broken, FlushAnswers, FlushLeaves, flush_refusal}
use Rattle.bw_core.proofs.Refusing.{failed_flush, failed_record}
use Rattle.bw_core.specs.Reading.{HasRead, with_log}
use Rattle.bw_core.specs.Following.{Continues, Follows, HasBoxes, Turned, Takes, TookInTurn, TookGroups, groups_since, RefusedAfter, TookSome, RefusedAt}
use Rattle.bw_ring.specs.Marks.{Marked, marked}
use Rattle.bw_core.specs.Fitting.{back_for}
use Rattle.bw_history.specs.History.{entered, ends_in}
use Rattle.bw_history.proofs.Grouped.{ends_more, ends_one, length_marked}

-- what no call takes back, where these entries and cuts are added
pub grows_on : (s : Kept) (floor : ℕ) (entries : List Entry) (cuts : List ℕ) (durable : ℕ) (filed : Filed) (newest : List Place) (making : Filling)
    (log : logs.Contents) (entries_more : List Entry) (cuts_more : List ℕ)
    → filed.m ≡ s.filed.m → s.floor ≤ floor → entries ≡ s.entries ++ entries_more → cuts ≡ s.cuts ++ cuts_more → s.durable ≤ durable
    → Continues s (record s {
      floor = floor;
      entries = entries;
      cuts = cuts;
      durable = durable;
      filed = filed;
      newest = newest;
      making = making;
      log = log;
    })
grows_on s floor entries cuts durable filed newest making log entries_more cuts_more limit low history cut risen = record {
  rings = refl;
  start = refl;
  before = refl;
  m = limit;
  edge = refl;
  entries_more = entries_more;
  history = history;
  cuts_more = cuts_more;
  cuts = cut;
  appended = risen;
  floor = low;
}

-- no record more and no cut: the log may have changed
pub stays_on : (s : Kept) (log : logs.Contents) → Follows s (record s { log = log })
stays_on s log = record {
  continues = grows_on s s.floor s.entries s.cuts s.durable s.filed s.newest s.making log [] []
      refl (omega arith) (sym (append-nil s.entries)) (sym (append-nil s.cuts)) (omega arith);
  floor = refl;
}

pub follows_as : (old new : Kept) → new ≡ old → Turned 0 old new
follows_as old new e = record {
  follows = record {
    continues = record {
      rings = ap (λ (s : Kept). s.rings) e;
      start = ap (λ (s : Kept). s.start) e;
      before = ap (λ (s : Kept). s.before) e;
      m = ap (λ (s : Kept). s.filed.m) e;
      edge = ap (λ (s : Kept). s.edge) e;
      entries_more = [];
      history = ap (λ (s : Kept). s.entries) e ∙ sym (append-nil old.entries);
      cuts_more = [];
      cuts = ap (λ (s : Kept). s.cuts) e ∙ sym (append-nil old.cuts);
      appended = (let k = ap (λ (s : Kept). s.durable) e in omega arith);
      floor = (let k = ap (λ (s : Kept). s.floor) e in omega arith);
    };
    floor = ap (λ (s : Kept). s.floor) e;
  };
  boxes = record { same = ap (λ (s : Kept). roster s.log) e };
  grew = ap (λ (s : Kept). length s.entries) e ∙ omega arith;
}

pub continue_then : (a b c : Kept) → Continues a b → Continues b c → Continues a c
continue_then a b c f g =
    let low = f.appended in
    let high = g.appended in
    let low_floor = f.floor in
    let high_floor = g.floor in
    record {
      rings = g.rings ∙ f.rings;
      start = g.start ∙ f.start;
      before = g.before ∙ f.before;
      m = g.m ∙ f.m;
      edge = g.edge ∙ f.edge;
      entries_more = f.entries_more ++ g.entries_more;
      history = g.history ∙ ap (λ (es : List Entry). es ++ g.entries_more) f.history ∙ append_assoc a.entries f.entries_more g.entries_more;
      cuts_more = f.cuts_more ++ g.cuts_more;
      cuts = g.cuts ∙ ap (λ (cs : List ℕ). cs ++ g.cuts_more) f.cuts ∙ append_assoc a.cuts f.cuts_more g.cuts_more;
      appended = omega arith;
      floor = omega arith;
    }

pub follow_then : (a b c : Kept) → Follows a b → Follows b c → Follows a c
follow_then a b c f g =
    record { continues = continue_then a b c f.continues g.continues; floor = g.floor ∙ f.floor }

pub follows_then : {n k : ℕ} (a b c : Kept) → Turned n a b → Turned k b c → Turned (n + k) a c
follows_then {n} {k} a b c x y =
    let one = x.grew in
    let two = y.grew in
    record {
      follows = follow_then a b c x.follows y.follows;
      boxes = record { same = y.boxes.same ∙ x.boxes.same };
      grew = omega arith;
    }

-- one cut more, whether its frame was appended or not
cut_turned : (old : Kept) (durable : ℕ) (making : Filling) (log : logs.Contents) → old.durable ≤ durable → IsSameLog old.log log
    → Turned 0 old (record old { cuts = old.cuts ++ length old.entries ∷ []; durable = durable; making = making; log = log })
cut_turned old durable making log risen same = record {
  follows = record {
    continues = grows_on old old.floor old.entries (old.cuts ++ length old.entries ∷ []) durable old.filed old.newest making log
        [] (length old.entries ∷ []) refl (omega arith) (sym (append-nil old.entries)) refl risen;
    floor = refl;
  };
  boxes = record { same = same.leases };
  grew = omega arith;
}

follows_flushed : (old new : Kept) (number : ℕ) → Flushed old number new → Turned 0 old new
follows_flushed old new number f =
    let step : Turned 0 old (with_frame old f.fresh f.log) = cut_turned old (old.durable + 1) f.fresh f.log (omega arith) f.same in
    follows_then old (with_frame old f.fresh f.log) new step (follows_as (with_frame old f.fresh f.log) new f.is)

follows_broken : (old new : Kept) (lease : ℕ) → Broken lease old new → Turned 0 old new
follows_broken old new lease b =
    let step : Turned 0 old (with_stop old b.log) =
    cut_turned old old.durable (record old.making { is_sealed = true }) b.log (omega arith) b.same in
    follows_then old (with_stop old b.log) new step (follows_as (with_stop old b.log) new b.is)

follows_may : (group : List Record) (old new : Kept) → MakesRoom group old new → Turned 0 old new
follows_may group old new (inl e) = follows_as old new e
follows_may group old new (inr f) = follows_flushed old new f.2.0 f.2.1

-- records taken one after the other
all_turned : (s : Kept) (lane : ℕ) (ms : List Marked) → Turned (length ms) s (taken_all s lane ms)
all_turned s lane [] = follows_as s s refl
all_turned s lane (m ∷ ms) =
    let now = taken s lane m (back_for s m.item) in
    let step : Turned 1 s now = record {
      follows = record {
        continues = grows_on s s.floor now.entries s.cuts s.durable now.filed now.newest now.making s.log
            (record { writer = lane; more = m.more; item = m.item } ∷ []) []
            refl (omega arith) refl (sym (append-nil s.cuts)) (omega arith);
        floor = refl;
      };
      boxes = record { same = refl };
      grew = length-append s.entries (record { writer = lane; more = m.more; item = m.item } ∷ []);
    } in
    let both = follows_then s now (taken_all now lane ms) step (all_turned now lane ms) in
    record { follows = both.follows; boxes = both.boxes; grew = (let g = both.grew in omega arith) }

follows_took : (lane : ℕ) (old new : Kept) (t : Took lane old new) → Turned (length t.group) old new
follows_took lane old new t =
    let count = length_marked t.group in
    let all = all_turned t.middle lane (marked t.group) in
    let last = follows_then t.middle (taken_all t.middle lane (marked t.group)) new all
    (follows_as (taken_all t.middle lane (marked t.group)) new t.is) in
    let both = follows_then old t.middle new (follows_may t.group old t.middle t.flushes) last in
    record { follows = both.follows; boxes = both.boxes; grew = (let g = both.grew in omega arith) }

-- a read of the boxes
pub follows_read : (old new : Kept) → HasRead old new → Turned 0 old new
follows_read old new r =
    (let step : Turned 0 old (with_log old new.log) = record {
      follows = stays_on old new.log;
      boxes = record { same = r.kept.leases };
      grew = omega arith;
    } in
    follows_then old (with_log old new.log) new step (follows_as (with_log old new.log) new r.is))

-- a flush, whatever its answer
pub follows_left : (old new : Kept) (r : Result (Option ℕ) StoreFault) → FlushLeaves old r new → Turned 0 old new
follows_left old new (Ok None) left = follows_as old new left.0
follows_left old new (Ok (Some number)) left = follows_flushed old new number left
follows_left old new (Err (Device lease)) left = follows_broken old new lease left
follows_left old new (Err NoMemory) left = follows_as old new left
follows_left old new (Err BadConfig) left = follows_as old new left
follows_left old new (Err NoSegment) left = follows_as old new left
follows_left old new (Err Failed) left = follows_as old new left
follows_left old new (Err Spent) left = follows_as old new left
follows_left old new (Err NoPage) left = follows_as old new left
follows_left old new (Err NothingOld) left = follows_as old new left

-- a group that was refused, whatever the cause
pub follows_refused : (away : ℕ → Bool) (group : List Record) (old new : Kept) (cause : StoreFault) → Refuses away group old cause new → Turned 0 old new
follows_refused away group old new NoMemory r = follows_may group old new r.1
follows_refused away group old new BadConfig r = absurd r
follows_refused away group old new NoSegment r = follows_as old new r.0
follows_refused away group old new (Device lease) (works, inl broken) = follows_broken old new lease broken.2
follows_refused away group old new (Device lease) (works, inr unread) = follows_read old new unread.read
follows_refused away group old new Failed r = follows_as old new r.0
follows_refused away group old new Spent (works, inl spent) = follows_may group old new spent.0
follows_refused away group old new Spent (works, inr unread) = follows_as old new unread.0
follows_refused away group old new NoPage r = absurd r
follows_refused away group old new NothingOld r = absurd r

-- ---- takes one after the other

-- the entries that came, joined
drop_behind : {A : Type 0} (xs ys : List A) → drop (length xs) (xs ++ ys) ≡ ys
drop_behind [] ys = refl
drop_behind (x ∷ xs) ys = drop_behind xs ys

came : (old new : Kept) (more : List Entry) → new.entries ≡ old.entries ++ more → groups_since old new ≡ ends_in more
came old new more is =
    ap (λ (es : List Entry). ends_in (drop (length old.entries) es)) is ∙ ap ends_in (drop_behind old.entries more)

since_then : (a b c : Kept) → Continues a b → Continues b c → groups_since a c ≡ groups_since a b + groups_since b c
since_then a b c f g =
    let all = came a c (f.entries_more ++ g.entries_more) (g.history ∙ ap (λ (es : List Entry). es ++ g.entries_more) f.history
    ∙ append_assoc a.entries f.entries_more g.entries_more) in
    let one = came a b f.entries_more f.history in
    let two = came b c g.entries_more g.history in
    let sum = ends_more f.entries_more g.entries_more in
    omega arith

since_none : (a b : Kept) → b.entries ≡ a.entries → groups_since a b ≡ 0
since_none a b e = came a b [] (e ∙ sym (append-nil a.entries))

pub in_turn_as : (old new : Kept) → new ≡ old → TookInTurn 0 old new
in_turn_as old new e =
    let none = since_none old new (ap (λ (s : Kept). s.entries) e) in
    record {
      turned = follows_as old new e;
      each = subst (λ (g : ℕ). Takes g old new) (sym none) e;
      few = (omega arith, omega arith);
      works = λ failed. (refl, e);
    }

takes_then : (n k : ℕ) (a b c : Kept) → Takes n a b → Takes k b c → Takes (n + k) a c
takes_then n zero a b c x y =
    let sum : n ≡ n + 0 = omega arith in
    subst (λ (m : ℕ). Takes m a c) sum (subst (λ (s : Kept). Takes n a s) (sym y) x)
takes_then n (suc k) a b c x y =
    let sum : suc (n + k) ≡ n + suc k = omega arith in
    subst (λ (m : ℕ). Takes m a c) sum (y.0, takes_then n k a b y.0 x y.1, y.2)

pub in_turn_then : {n k : ℕ} (a b c : Kept) → TookInTurn n a b → TookInTurn k b c → TookInTurn (n + k) a c
in_turn_then {n} {k} a b c x y =
    let sum = since_then a b c x.turned.follows.continues y.turned.follows.continues in
    record {
      turned = follows_then a b c x.turned y.turned;
      each = subst (λ (g : ℕ). Takes g a c) (sym sum) (takes_then (groups_since a b) (groups_since b c) a b c x.each y.each);
      few = (
        (let p = x.few.0 in let q = y.few.0 in omega arith),
        (let p = x.few.1 in let q = y.few.1 in omega arith),
      );
      works = λ failed. (
          let last = y.works failed in
          let first = x.works (subst (λ (s : Kept). s.log.is_failed ≡ true) last.1 failed) in
          let none = first.0 in
          let no_more = last.0 in
          (omega arith, last.1 ∙ first.1));
    }

-- what a group adds to the history
pub all_entries : (s : Kept) (lane : ℕ) (ms : List Marked) → (taken_all s lane ms).entries ≡ s.entries ++ entered lane ms
all_entries s lane [] = sym (append-nil s.entries)
all_entries s lane (m ∷ ms) =
    all_entries (taken s lane m (back_for s m.item)) lane ms
    ∙ append_assoc s.entries (record { writer = lane; more = m.more; item = m.item } ∷ []) (entered lane ms)

all_works : (s : Kept) (lane : ℕ) (ms : List Marked) → (taken_all s lane ms).log ≡ s.log
all_works s lane [] = refl
all_works s lane (m ∷ ms) = all_works (taken s lane m (back_for s m.item)) lane ms

may_entries : (group : List Record) (old new : Kept) → MakesRoom group old new → new.entries ≡ old.entries
may_entries group old new (inl e) = ap (λ (s : Kept). s.entries) e
may_entries group old new (inr f) = ap (λ (s : Kept). s.entries) f.2.1.is

pub took_entries : (lane : ℕ) (old new : Kept) (t : Took lane old new) → new.entries ≡ old.entries ++ entered lane (marked t.group)
took_entries lane old new t =
    ap (λ (s : Kept). s.entries) t.is ∙ all_entries t.middle lane (marked t.group)
    ∙ ap (λ (es : List Entry). es ++ entered lane (marked t.group)) (may_entries t.group old t.middle t.flushes)

one_group : (lane : ℕ) (old new : Kept) (t : Took lane old new) → groups_since old new ≡ 1
one_group lane old new t = came old new (entered lane (marked t.group)) (took_entries lane old new t) ∙ ends_one lane t.group t.few.0

in_turn_took : (lane : ℕ) (old new : Kept) (t : Took lane old new) → TookInTurn (length t.group) old new
in_turn_took lane old new t =
    let one = one_group lane old new t in
    let few = t.few in
    let least = few.0 in
    let most = few.1 in
    record {
      turned = follows_took lane old new t;
      each = subst (λ (g : ℕ). Takes g old new) (sym one) (old, refl, (lane, t));
      few = (omega arith, omega arith);
      works = λ failed. (
          let works = t.works in
          let same = ap (λ (s : Kept). s.log.is_failed) t.is in
          let kept = ap (λ (l : logs.Contents). l.is_failed) (all_works t.middle lane (marked t.group)) in
          absurd cc);
    }

took_more : {n : ℕ} (lane : ℕ) (a b c : Kept) → TookInTurn n a b → (t : Took lane b c) → TookInTurn (n + length t.group) a c
took_more lane a b c x t = in_turn_then a b c x (in_turn_took lane b c t)

pub took_none : {g n : ℕ} (a b c : Kept) → TookGroups g n a b → c ≡ b → TookGroups g n a c
took_none {g} {n} a b c x e = subst (λ (s : Kept). TookGroups g n a s) (sym e) x

pub took_fault : {n : ℕ} (lane : ℕ) (lanes : List Lane) (away : ℕ → Bool) (a b c : Kept) (fault : StoreFault) → TookInTurn n a b
    → RefusesNext lane lanes away b fault c → RefusedAfter n a lanes away fault c
took_fault lane lanes away a b c fault x r = record { middle = b; took = x; lane = lane; refuses = r }

-- one group more, of so many records
pub group_more : {g n : ℕ} (lane k : ℕ) (a b c : Kept) → TookGroups g n a b → (t : Took lane b c) × (length t.group ≡ k) → TookGroups (g + 1) (n + k) a c
group_more {g} {n} lane k a b c x t =
    let one = in_turn_took lane b c t.0 in
    let sum = since_then a b c x.0.turned.follows.continues one.turned.follows.continues in
    let last = one_group lane b c t.0 in
    let first = x.1 in (
      subst (λ (j : ℕ). TookInTurn (n + j) a c) t.1 (took_more lane a b c x.0 t.0),
      omega arith,
    )

pub group_more_by : {g n : ℕ} (lane k : ℕ) (lanes : List Lane) (away : ℕ → Bool) (a b c : Kept) (o : Option ℕ) → o ≡ Some k → TookGroups g n a b
    → TakeLeaves lane lanes away b (Ok o) c → TookGroups (g + 1) (n + k) a c
group_more_by lane k lanes away a b c o is x t = group_more lane k a b c x (subst (λ (p : Option ℕ). TakeLeaves lane lanes away b (Ok p) c) is t)

pub none_more_by : {g n : ℕ} (lane : ℕ) (lanes : List Lane) (away : ℕ → Bool) (a b c : Kept) (o : Option ℕ) → o ≡ None → TookGroups g n a b
    → TakeLeaves lane lanes away b (Ok o) c → TookGroups g n a c
none_more_by lane lanes away a b c o is x t = took_none a b c x (subst (λ (p : Option ℕ). TakeLeaves lane lanes away b (Ok p) c) is t)

pub still_within : (n k limit : ℕ) → (n ≡ limit → ⊥) → n ≤ limit → k ≤ n + 1 → k ≤ limit
still_within n k limit ne le more = (elim (nat_le (n + 1) limit) as (λ b. nat_le (n + 1) limit ≡ b → k ≤ limit) [
  | true ↦ λ e. (let h = leb-true _ _ e in omega arith)
  | false ↦ λ e. (let h = leb-false _ _ e in absurd (ne (omega arith)))
] refl)

nothing_came : (es : List Entry) → length es ≡ 0 → ends_in es ≡ 0
nothing_came [] none = refl
nothing_came (e ∷ es) none = absurd (omega arith)

-- no group was taken by the call that refused one
refused_since : (a b c : Kept) → Continues a b → Turned 0 b c → groups_since a c ≡ groups_since a b
refused_since a b c f t =
    let sum = since_then a b c f t.follows.continues in
    let more = t.follows.continues.entries_more in
    let grew = t.grew in
    let all = ap length t.follows.continues.history ∙ length-append b.entries more in
    let none : length more ≡ 0 = omega arith in
    let last = came b c more t.follows.continues.history ∙ nothing_came more none in
    omega arith

pub group_fault : {g n : ℕ} (lane : ℕ) (lanes : List Lane) (away : ℕ → Bool) (a b c : Kept) (fault : StoreFault) → TookGroups g n a b
    → RefusesNext lane lanes away b fault c → RefusedAfter n a lanes away fault c × (groups_since a c < g + 1)
group_fault lane lanes away a b c fault x r =
    let same = refused_since a b c x.0.turned.follows.continues (follows_refused away r.group b c fault r.refuses) in
    let so_far = x.1 in
    (took_fault lane lanes away a b c fault x.0 r, omega arith)

-- a group more, and one that was refused, are within a limit that was not reached
pub refused_within : {n : ℕ} (g limit : ℕ) (lanes : List Lane) (away : ℕ → Bool) (a c : Kept) (fault : StoreFault) → (g ≡ limit → ⊥) → g ≤ limit
    → RefusedAfter n a lanes away fault c × (groups_since a c < g + 1) → RefusedAfter n a lanes away fault c × (groups_since a c < limit)
refused_within g limit lanes away a c fault ne le r =
    let most = still_within g (g + 1) limit ne le (omega arith) in
    let low = r.1 in
    (r.0, omega arith)

-- none so far
pub no_groups : (old new : Kept) → new ≡ old → TookGroups 0 0 old new
no_groups old new e = (in_turn_as old new e, since_none old new (ap (λ (s : Kept). s.entries) e))

pub refused_then : {n k : ℕ} (lanes : List Lane) (away : ℕ → Bool) (a b c : Kept) (cause : StoreFault) → TookInTurn n a b → RefusedAfter k b lanes away cause c
    → RefusedAfter (n + k) a lanes away cause c
refused_then lanes away a b c cause x r =
    record { middle = r.middle; took = in_turn_then a b r.middle x r.took; lane = r.lane; refuses = r.refuses }

pub refused_turned : {n : ℕ} (lanes : List Lane) (away : ℕ → Bool) (old new : Kept) (cause : StoreFault) → RefusedAfter n old lanes away cause new
    → Turned n old new
refused_turned {n} lanes away old new cause r =
    (let all : Turned (n + 0) old new =
    follows_then old r.middle new r.took.turned (follows_refused away r.refuses.group r.middle new cause r.refuses.refuses)
    in record { follows = all.follows; boxes = all.boxes; grew = (let g = all.grew in omega arith) })

pub any_then : (lane : ℕ) (a b c : Kept) → TookSome a b → Took lane b c → TookSome a c
any_then lane a b c x t = (x.0 + length t.group, took_more lane a b c x.1 t)

pub some_then : (a b c : Kept) → TookSome a b → TookSome b c → TookSome a c
some_then a b c x y = (x.0 + y.0, in_turn_then a b c x.1 y.1)

pub some_refused : (lanes : List Lane) (away : ℕ → Bool) (a b c : Kept) (cause : StoreFault) → TookSome a b → RefusedAt b lanes away cause c
    → RefusedAt a lanes away cause c
some_refused lanes away a b c cause x r = (x.0 + r.0, refused_then lanes away a b c cause x.1 r.1)

pub some_fault : (lane : ℕ) (lanes : List Lane) (away : ℕ → Bool) (a b c : Kept) (cause : StoreFault) → TookSome a b → RefusesNext lane lanes away b cause c
    → RefusedAt a lanes away cause c
some_fault lane lanes away a b c cause x r = (x.0, took_fault lane lanes away a b c cause x.1 r)

pub refused_follows : (lanes : List Lane) (away : ℕ → Bool) (old new : Kept) (cause : StoreFault) → RefusedAt old lanes away cause new → Follows old new
refused_follows lanes away old new cause r = (refused_turned lanes away old new cause r.1).follows

pub refused_boxes : (lanes : List Lane) (away : ℕ → Bool) (old new : Kept) (cause : StoreFault) → RefusedAt old lanes away cause new → HasBoxes old new
refused_boxes lanes away old new cause r = (refused_turned lanes away old new cause r.1).boxes

-- if an append failed before, no record is taken
none_taken : (n : ℕ) (old new : Kept) → old.log.is_failed ≡ true → Takes n old new → (n ≡ 0) × (new ≡ old)
none_taken zero old new failed x = (refl, x)
none_taken (suc n) old new failed x =
    let before = none_taken n old x.0 failed x.1 in
    let same = ap (λ (s : Kept). s.log.is_failed) before.1 in
    let works = x.2.1.worked in absurd cc

-- and the cause is Failed
pub failed_at : (lanes : List Lane) (away : ℕ → Bool) (old new : Kept) (cause : StoreFault) → old.log.is_failed ≡ true → RefusedAt old lanes away cause new
    → cause ≡ Failed
failed_at lanes away old new cause failed r =
    let before = none_taken (groups_since old r.1.middle) old r.1.middle failed r.1.took.each in
    failed_record away r.1.refuses.group r.1.middle new cause (ap (λ (s : Kept). s.log.is_failed) before.1 ∙ failed) r.1.refuses.refuses

-- also if nothing waits
still_failed : (old middle : Kept) → old.log.is_failed ≡ true → TookSome old middle → middle.log.is_failed ≡ true
still_failed old middle failed x = ap (λ (s : Kept). s.log.is_failed) (none_taken (groups_since old middle) old middle failed x.1.each).1 ∙ failed

pub failed_flushes : (old middle : Kept) (cause : StoreFault) → old.log.is_failed ≡ true → TookSome old middle
    → FlushAnswers (flush_refusal middle) (Err cause) → cause ≡ Failed
failed_flushes old middle cause failed x answers =
    let e = failed_flush false middle (Err cause) (still_failed old middle failed x) answers in cc

pub failed_never : (old middle : Kept) (o : Option ℕ) → old.log.is_failed ≡ true → TookSome old middle → FlushAnswers (flush_refusal middle) (Ok o) → ⊥
failed_never old middle o failed x answers =
    let e = failed_flush false middle (Ok o) (still_failed old middle failed x) answers in absurd cc

-- some records were taken, and then a frame was appended if anything waited
flushed_turned : (old middle new : Kept) (r : Result (Option ℕ) StoreFault) → TookSome old middle → FlushLeaves middle r new → (n : ℕ) × Turned n old new
flushed_turned old middle new r x left = (x.0 + 0, follows_then old middle new x.1.turned (follows_left middle new r left))

pub flushed_follows : (old middle new : Kept) (r : Result (Option ℕ) StoreFault) → TookSome old middle → FlushLeaves middle r new → Follows old new
flushed_follows old middle new r x left = (flushed_turned old middle new r x left).1.follows

pub flushed_boxes : (old middle new : Kept) (r : Result (Option ℕ) StoreFault) → TookSome old middle → FlushLeaves middle r new → HasBoxes old new
flushed_boxes old middle new r x left = (flushed_turned old middle new r x left).1.boxes
