-- An append as a whole: what it asks for, and what each of its ends leaves.

use Rattle.std.proofs.Common.{is_none, ◌≡◌, ◌⊎◌, ℕ, zero, suc, ◌+◌, ◌-◌, ◌/◌, ◌^◌, ◌<◌, ◌≤◌, ◌&&◌, ◌||◌, inl, inr, Bool, true, false, if◌then◌else◌, nat_lt}
use Rattle.std.proofs.Common.{nat_le, Option, Some, None, IfSome, List, [], ◌∷◌, ◌++◌, length, map, refl, sym, ap, subst, ◌∙◌, append_assoc, arith}
use Rattle.std.proofs.Common.{length-append}
use Rattle.std.proofs.lemmas.List.{length-map}
use Rattle.std.proofs.lemmas.Bool.{ltb-false, leb-true, leb-false, or_parts, and_parts, cases_Bool, not-false}
use Rattle.std.specs.List.{slice_get}
use Rattle.bw_codec.specs.Grammar.{frame_bytes, header_bytes}
use Rattle.bw_record.specs.declared.block.Frame.{Frame}
use Rattle.bw_page.specs.Standing.{Stand}
use Rattle.bw_device.specs.Holding.{Holding, appended}
use Rattle.bw_buffer.proofs.Holding.{few_blocks}
use Rattle.bw_log.specs.Places.{AreLinked}
use Rattle.bw_log.specs.Contents.{Contents, image, limits_of, IsSound, counted, boxes, roster, rooms_of}
use Rattle.bw_log.specs.Appends.{header_of, begun, last_of, with_last, with_first, has_room, wants_segment, roomy, spares_wanted, is_worn, is_spent, refusal}
use Rattle.bw_log.specs.Appends.{torn, MayFollow, LeftBehind, Appended, Stopped, Rose, IsSameLog, Answers, Checks, OnDevice, AfterAppend}
use Rattle.std.specs.Prelude.{Result, Ok, Err, MatchResult}
use Rattle.bw_codec.proofs.Heading.{length-header}
use Rattle.bw_log.specs.Segments.{Limits, AreLive, frames_of}
use Rattle.bw_log.specs.PageTable.{HaveLines, grown_to, top_page}
use Rattle.bw_log.specs.declared.places.PageAt.{PageAt}
use Rattle.bw_log.specs.Appending.{OfDevice, Beginnable, SpareTorn, FramePut, FrameTorn, with_frame}
use Rattle.bw_log.proofs.Asked.{live_number}
use Rattle.bw_log.specs.declared.fault.LogFault.{LogFault}
use Rattle.bw_log.specs.declared.fault.LogFault.TheVariants.{NoMemory, BadConfig, NoSegment, Device, Failed, Spent, NoPage}
use Rattle.bw_log.proofs.Reread.{length-frame}
use Rattle.bw_log.proofs.Ends.{last_is}
use Rattle.bw_log.proofs.Torn.{some_is}
use Rattle.bw_log.proofs.Fields.{field_last, field_first, both_fields, field_moved}
use Rattle.bw_log.proofs.Stepped.{ends, torn_contents, last_of_at, Begins, begun_is, begun_sound, begun_counts, Puts, put_counts, put_sound, torn_sound}
use Rattle.bw_log.proofs.Stepped.{spare_sound, put_lines, length-grown, spares_empty}

-- ---- what is granted

let_through : {A : Type 0} (t : Bool) (x : A) (o : Option A) → (if t then Some x else o) ≡ None → (t ≡ false) × (o ≡ None)
let_through true x o e = absurd cc
let_through false x o e = (refl, e)

-- a frame of this length may be appended, memory and the device aside
pub record Granted (c : Contents) (len : ℕ) (care : Bool) : Type 0 where
  pub works : c.is_failed ≡ false
  pub spares : wants_segment c len ≡ true → 0 < length c.spares
  pub number : wants_segment c len ≡ true → c.number + length c.live < 2 ^ 64
  pub first : wants_segment c len ≡ true → is_worn (slice_get c.spares 0) ≡ false
  pub last : wants_segment c len ≡ false → is_worn (last_of c.live) ≡ false

pub granted : (c : Contents) (len : ℕ) (care : Bool) → refusal c len care ≡ None → Granted c len care
granted c len care e =
    let works = let_through c.is_failed Failed
    (if wants_segment c len && nat_lt (length c.spares) (spares_wanted care) then Some NoSegment else if is_spent c len then Some Spent else None) e in
    let some = let_through (wants_segment c len && nat_lt (length c.spares) (spares_wanted care)) NoSegment
    (if is_spent c len then Some Spent else None) works.1 in
    let fresh = let_through (is_spent c len) Spent None some.1 in
    let wanted : (care : Bool) → 1 ≤ spares_wanted care = λ k. elim k as (λ b. 1 ≤ spares_wanted b) [ true ↦ omega arith | false ↦ omega arith ] in
    let counts = or_parts (is_none c.next) (if wants_segment c len then nat_le (2 ^ 64) (c.number + length c.live) || is_worn (slice_get c.spares 0) else
    is_worn (last_of c.live)) fresh.0 in
    let spent_if : wants_segment c len ≡ true → (nat_le (2 ^ 64) (c.number + length c.live) || is_worn (slice_get c.spares 0)) ≡ false =
    λ w. rw w at counts.1 in
    record {
      works = works.0;
      spares = λ w. (let few : nat_lt (length c.spares) (spares_wanted care) ≡ false = rw w at some.0
          in let h = ltb-false (length c.spares) (spares_wanted care) few in let k = wanted care in omega arith);
      number = λ w. leb-false (2 ^ 64) (c.number + length c.live)
          (or_parts (nat_le (2 ^ 64) (c.number + length c.live)) (is_worn (slice_get c.spares 0)) (spent_if w)).0;
      first = λ w. (or_parts (nat_le (2 ^ 64) (c.number + length c.live)) (is_worn (slice_get c.spares 0)) (spent_if w)).1;
      last = λ w. rw w at counts.1;
    }

-- no refusal is the device's
pub refusals : (c : Contents) (len lease : ℕ) (care : Bool) → refusal c len care ≡ Some (Device lease) → ⊥
refusals c len lease care e =
    elim c.is_failed as (λ t. (if t then Some Failed else if wants_segment c len && nat_lt (length c.spares) (spares_wanted care) then Some NoSegment else if
    is_spent c len then Some Spent else None) ≡ Some (Device lease) → ⊥) [
      | true ↦ λ h. cc
      | false ↦ λ h. elim (wants_segment c len && nat_lt (length c.spares) (spares_wanted care)) as
          (λ t. (if t then Some NoSegment else if is_spent c len then Some Spent else None) ≡ Some (Device lease) → ⊥) [
            | true ↦ λ k. cc
            | false ↦ λ k. elim (is_spent c len) as (λ t. (if t then Some Spent else None) ≡ Some (Device lease) → ⊥) [ true ↦ λ j. cc | false ↦ λ j. cc ] k
          ] h
    ] e

-- ---- the two ways

pub record Starts (c : Contents) (x : Frame) (care : Bool) : Type 0 where
  pub sound : IsSound c
  pub follows : MayFollow c x
  pub none : refusal c (length (frame_bytes x)) care ≡ None
  pub grants : Granted c (length (frame_bytes x)) care

-- the first spare, and the others
pub record Front (c : Contents) : Type 0 where
  pub first : Holding
  pub others : List Holding
  pub split : c.spares ≡ first ∷ others

front : (spares : List Holding) → 0 < length spares → (s : Holding) × (ss : List Holding) × (spares ≡ s ∷ ss)
front [] some = absurd (omega arith)
front (s ∷ ss) some = (s, ss, refl)

pub begins : (c : Contents) (x : Frame) (care : Bool) → Starts c x care → wants_segment c (length (frame_bytes x)) ≡ true
    → (s : Holding) × (ss : List Holding) × Begins c s ss
begins c x care st w =
    let f = front c.spares (st.grants.spares w) in
    (f.0, f.1, record { sound = st.sound; works = st.grants.works; first = f.2; number = st.grants.number w })

pub begin_fits : (c : Contents) (s : Holding) (ss : List Holding) → Begins c s ss → IfSome (slice_get c.spares 0) (λ h. length h.bytes + 24 ≤ h.room)
begin_fits c s ss b =
    let empty = (spares_empty c s ss b).0 in
    let none : length s.bytes ≡ 0 = ap (λ (l : List ℕ). length l) empty.0 in
    let room = empty.1.0 in
    let limits = b.sound.holds.limits in
    subst (λ (l : List Holding). IfSome (slice_get l 0) (λ h. length h.bytes + 24 ≤ h.room)) (sym b.first) (omega arith)

not_worn : (h : Holding) → is_worn (Some h) ≡ false → h.failed < 2 ^ 64 - 1
not_worn h fresh = leb-false (2 ^ 64 - 1) h.failed fresh

pub begin_countable : (c : Contents) (s : Holding) (ss : List Holding) → Begins c s ss → is_worn (slice_get c.spares 0) ≡ false
    → IfSome (slice_get c.spares 0) (λ h. h.failed < 2 ^ 64 - 1)
begin_countable c s ss b fresh =
    subst (λ (l : List Holding). IfSome (slice_get l 0) (λ h. h.failed < 2 ^ 64 - 1)) (sym b.first)
    (not_worn s (subst (λ (l : List Holding). is_worn (slice_get l 0) ≡ false) b.first fresh))

-- the same frame may follow once a segment was begun
follows_begun : (c : Contents) (x : Frame) (s : Holding) (ss : List Holding) → Begins c s ss → MayFollow c x → MayFollow (begun c) x
follows_begun c x s ss b f =
    let d : Contents = record c { live = c.live ++ appended s (header_bytes (header_of c)) ∷ []; spares = ss; is_open = true } in
    let same : begun c ≡ d = begun_is c s ss b in
    let counts : counted c ≡ counted d = sym (begun_counts c s ss b) ∙ ap counted same in
    let there : MayFollow d x = record {
      number = f.number;
      lawful = f.lawful;
      links = subst (λ (l : List Frame). AreLinked (l ++ x ∷ [])) counts f.links;
      leaves = f.leaves;
      stands = subst (λ (l : List Frame). Stand c.m (l ++ x ∷ []) f.leaves) counts f.stands;
    } in
    subst (λ (e : Contents). MayFollow e x) (sym same) there

pub puts_begun : (c : Contents) (x : Frame) (s : Holding) (ss : List Holding) → Begins c s ss → MayFollow c x
    → Puts (begun c) x c.live (appended s (header_bytes (header_of c)))
puts_begun c x s ss b f =
    let same = sym (begun_is c s ss b) in
    record {
      sound = begun_sound c s ss b;
      works = subst (λ (e : Contents). e.is_failed ≡ false) same b.works;
      takes = subst (λ (e : Contents). e.is_open ≡ true) same refl;
      last = subst (λ (e : Contents). e.live ≡ c.live ++ appended s (header_bytes (header_of c)) ∷ []) same refl;
      follows = follows_begun c x s ss b f;
    }

-- the current segment takes the frame
open_with_room : (c : Contents) (len : ℕ) → wants_segment c len ≡ false → (c.is_open ≡ true) × (has_room len (last_of c.live) ≡ true)
open_with_room c len w = and_parts c.is_open (has_room len (last_of c.live)) (not-false (c.is_open && has_room len (last_of c.live)) w)

live_some : (len : ℕ) (live : List Holding) → has_room len (last_of live) ≡ true → 0 < length live
live_some len [] room = absurd cc
live_some len (h ∷ hs) room = omega arith

pub puts_here : (c : Contents) (x : Frame) (care : Bool) → Starts c x care → wants_segment c (length (frame_bytes x)) ≡ false
    → (older : List Holding) × (h : Holding) × Puts c x older h
puts_here c x care st w =
    let room = open_with_room c (length (frame_bytes x)) w in
    let e = ends c.live (live_some (length (frame_bytes x)) c.live room.1) in
    (e.older, e.newest, record { sound = st.sound; works = st.grants.works; takes = room.0; last = e.split; follows = st.follows })

-- ---- leases

begun_leases : (c : Contents) (s : Holding) (ss : List Holding) → Begins c s ss → roster (begun c) ≡ roster c
begun_leases c s ss b = ap roster (begun_is c s ss b)
    ∙ field_moved (λ (h : Holding). h.lease) c.live ss c.spares s (appended s (header_bytes (header_of c))) refl b.first

begun_rooms : (c : Contents) (s : Holding) (ss : List Holding) → Begins c s ss → rooms_of (begun c) ≡ rooms_of c
begun_rooms c s ss b = ap rooms_of (begun_is c s ss b)
    ∙ field_moved (λ (h : Holding). h.room) c.live ss c.spares s (appended s (header_bytes (header_of c))) refl b.first

-- ---- a box that failed, among those before a segment was begun

pub record SameAt (hs : List Holding) (at : ℕ) (h : Holding) : Type 0 where
  pub box : Holding
  pub is : slice_get hs at ≡ Some box
  pub lease : box.lease ≡ h.lease
  pub failed : box.failed ≡ h.failed

same_at : (live : List Holding) (s t : Holding) (ss : List Holding) (at : ℕ) (h : Holding) → s.lease ≡ t.lease → s.failed ≡ t.failed
    → slice_get (live ++ t ∷ ss) at ≡ Some h → SameAt (live ++ s ∷ ss) at h
same_at [] s t ss zero h lease failed is = let e =
    some_is is in record { box = s; is = refl; lease = lease ∙ ap (λ (k : Holding). k.lease) e; failed = failed ∙ ap (λ (k : Holding). k.failed) e }
same_at [] s t ss (suc i) h lease failed is = record { box = h; is = is; lease = refl; failed = refl }
same_at (l ∷ ls) s t ss zero h lease failed is = record { box = h; is = is; lease = refl; failed = refl }
same_at (l ∷ ls) s t ss (suc i) h lease failed is = let r =
    same_at ls s t ss i h lease failed is in record { box = r.box; is = r.is; lease = r.lease; failed = r.failed }

rose_begun : (c : Contents) (s : Holding) (ss : List Holding) (lease : ℕ) (new : List Holding) → Begins c s ss → Rose lease (boxes (begun c)) new
    → Rose lease (boxes c) new
rose_begun c s ss lease new b rose =
    let t = appended s (header_bytes (header_of c)) in
    let was : slice_get (c.live ++ t ∷ ss) rose.at ≡ Some rose.before =
    ap (λ (l : List Holding). slice_get l rose.at) (sym (ap boxes (begun_is c s ss b) ∙ append_assoc c.live (t ∷ []) ss)) ∙ rose.was in
    let same = same_at c.live s t ss rose.at rose.before refl refl was in
    record {
      at = rose.at;
      before = same.box;
      after = rose.after;
      was = ap (λ (l : List Holding). slice_get (c.live ++ l) rose.at) b.first ∙ same.is;
      is = rose.is;
      named = same.lease ∙ rose.named;
      counts = rose.counts ∙ ap (λ (n : ℕ). n + 1) (sym same.failed);
    }

-- ---- the ends of an append

pub record Ended (c : Contents) (x : Frame) (new : Contents) : Type 0 where
  pub sound : IsSound new
  pub same : IsSameLog c new

-- Ok
pub record EndedOk (c : Contents) (x : Frame) (new : Contents) : Type 0 where
  pub ended : Ended c x new
  pub appended : Appended c x new

-- a failure of the device
pub record EndedBadly (lease : ℕ) (c : Contents) (x : Frame) (new : Contents) : Type 0 where
  pub ended : Ended c x new
  pub rose : Rose lease (boxes c) (boxes new)
  pub stopped : Stopped c x new

roomy_here : (c : Contents) (len : ℕ) → wants_segment c len ≡ false → roomy c len ≡ c
roomy_here c len w = rw w refl

roomy_begun : (c : Contents) (len : ℕ) → wants_segment c len ≡ true → roomy c len ≡ begun c
roomy_begun c len w = rw w refl

-- ---- the log with room for the frame

-- what it is to the log before it
pub record Roomed (c : Contents) (x : Frame) (d : Contents) : Type 0 where
  pub older : List Holding
  pub newest : Holding
  pub puts : Puts d x older newest
  pub is : d ≡ roomy c (length (frame_bytes x))
  pub same : IsSameLog c d
  pub counts : counted d ≡ counted c
  pub rises : (lease : ℕ) (new : List Holding) → Rose lease (boxes d) new → Rose lease (boxes c) new

roomed_here : (c : Contents) (x : Frame) (care : Bool) → Starts c x care → wants_segment c (length (frame_bytes x)) ≡ false → Roomed c x c
roomed_here c x care st w =
    let p = puts_here c x care st w in
    record {
      older = p.0;
      newest = p.1;
      puts = p.2;
      is = sym (roomy_here c (length (frame_bytes x)) w);
      same = record { m = refl; f = refl; number = refl; old_to = refl; leases = refl; rooms = refl };
      counts = refl;
      rises = λ lease new rose. rose;
    }

roomed_begun : (c : Contents) (x : Frame) (care : Bool) → Starts c x care → wants_segment c (length (frame_bytes x)) ≡ true → Roomed c x (begun c)
roomed_begun c x care st w =
    let b = begins c x care st w in
    let is = begun_is c b.0 b.1 b.2 in
    record {
      older = c.live;
      newest = appended b.0 (header_bytes (header_of c));
      puts = puts_begun c x b.0 b.1 b.2 st.follows;
      is = sym (roomy_begun c (length (frame_bytes x)) w);
      same = record {
        m = ap (λ (e : Contents). e.m) is;
        f = ap (λ (e : Contents). e.f) is;
        number = ap (λ (e : Contents). e.number) is;
        old_to = ap (λ (e : Contents). e.old_to) is;
        leases = begun_leases c b.0 b.1 b.2;
        rooms = begun_rooms c b.0 b.1 b.2;
      };
      counts = begun_counts c b.0 b.1 b.2;
      rises = λ lease new rose. rose_begun c b.0 b.1 lease new b.2 rose;
    }

roomed : (c : Contents) (x : Frame) (care : Bool) → Starts c x care → Roomed c x (roomy c (length (frame_bytes x)))
roomed c x care st =
    elim (cases_Bool (wants_segment c (length (frame_bytes x)))) [
      | inl w ↦ subst (Roomed c x) (sym (roomy_begun c (length (frame_bytes x)) w)) (roomed_begun c x care st w)
      | inr w ↦ subst (Roomed c x) (sym (roomy_here c (length (frame_bytes x)) w)) (roomed_here c x care st w)
    ]

-- the last live box changed, and kept its lease and its room
last_changed : (c d new : Contents) (change : Holding → Holding) → ((h : Holding) → (change h).lease ≡ h.lease) → ((h : Holding) → (change h).room ≡ h.room)
    → IsSameLog c d → new.m ≡ d.m → new.f ≡ d.f → new.number ≡ d.number → new.old_to ≡ d.old_to → boxes new ≡ with_last change d.live ++ d.spares
    → IsSameLog c new
last_changed c d new change lease room same m f number old_to all = record {
  m = m ∙ same.m;
  f = f ∙ same.f;
  number = number ∙ same.number;
  old_to = old_to ∙ same.old_to;
  leases = ap (map (λ (h : Holding). h.lease)) all ∙ stays (λ (h : Holding). h.lease) lease ∙ same.leases;
  rooms = ap (map (λ (h : Holding). h.room)) all ∙ stays (λ (h : Holding). h.room) room ∙ same.rooms;
}
  where
    stays : (g : Holding → ℕ) → ((h : Holding) → g (change h) ≡ g h) → map g (with_last change d.live ++ d.spares) ≡ map g (d.live ++ d.spares)
    stays g keeps = both_fields g d.live d.spares (with_last change d.live) d.spares (field_last g change keeps d.live) refl

put_ok : (c d : Contents) (x : Frame) (new : Contents) → Roomed c x d → FramePut d x new → EndedOk c x new
put_ok c d x new r put =
    let there : EndedOk c x (with_frame d x) = record {
      ended = record {
        sound = put_sound d x r.older r.newest r.puts;
        same = last_changed c d (with_frame d x) (λ k. appended k (frame_bytes x)) (λ k. refl) (λ k. refl) r.same refl refl refl refl refl;
      };
      appended = record {
        takes = r.puts.takes;
        works = r.puts.works;
        next = refl;
        live = ap (λ (e : Contents). with_last (λ (k : Holding). appended k (frame_bytes x)) e.live) r.is;
        spares = ap (λ (e : Contents). e.spares) r.is;
        frames = put_counts d x r.older r.newest r.puts ∙ ap (λ (l : List Frame). l ++ x ∷ []) r.counts;
      };
    } in
    subst (EndedOk c x) (sym put.is) there

put_torn : (lease : ℕ) (c d : Contents) (x : Frame) (new : Contents) → Roomed c x d → FrameTorn lease d x new → EndedBadly lease c x new
put_torn lease c d x new r t =
    let sound = torn_sound d x t.kept r.older r.newest r.puts in
    record {
      ended = record {
        sound = subst IsSound (sym t.is) sound.0;
        same = subst (IsSameLog c) (sym t.is)
            (last_changed c d (torn_contents d x t.kept) (torn t.kept (frame_bytes x)) (λ k. refl) (λ k. refl) r.same refl refl refl refl refl);
      };
      rose = r.rises lease (boxes new) t.rose;
      stopped = record {
        kept = t.kept;
        where_it_stands = inr (
          ap (λ (e : Contents). e.live) t.is ∙ ap (λ (e : Contents). with_last (torn t.kept (frame_bytes x)) e.live) r.is,
          ap (λ (e : Contents). e.spares) t.is ∙ ap (λ (e : Contents). e.spares) r.is,
        );
        frames = ap counted t.is ∙ sound.1 ∙ r.counts;
        left = subst (LeftBehind c x) (sym t.is) (subst
            (λ (fs : List Frame). (frames_of (image (torn_contents d x t.kept)).bytes ≡ fs)
            ⊎ (frames_of (image (torn_contents d x t.kept)).bytes ≡ fs ++ x ∷ [])) r.counts sound.2);
        failed = ap (λ (e : Contents). e.is_failed) t.is;
      };
    }

pub torn_spare : (lease : ℕ) (c : Contents) (x : Frame) (care : Bool) (new : Contents) → Starts c x care → wants_segment c (length (frame_bytes x)) ≡ true
    → SpareTorn lease c new → EndedBadly lease c x new
torn_spare lease c x care new st w t =
    let sound = spare_sound c t.kept st.sound st.grants.works (st.grants.number w) in
    record {
      ended = record {
        sound = subst IsSound (sym t.is) sound.0;
        same = subst (IsSameLog c) (sym t.is) (record {
          m = refl;
          f = refl;
          number = refl;
          old_to = refl;
          leases = both_fields (λ (h : Holding). h.lease) c.live c.spares c.live
              (with_first (torn t.kept (header_bytes (header_of c))) c.spares) refl
              (field_first (λ (h : Holding). h.lease) (torn t.kept (header_bytes (header_of c))) (λ k. refl) c.spares);
          rooms = both_fields (λ (h : Holding). h.room) c.live c.spares c.live
              (with_first (torn t.kept (header_bytes (header_of c))) c.spares) refl
              (field_first (λ (h : Holding). h.room) (torn t.kept (header_bytes (header_of c))) (λ k. refl) c.spares);
        });
      };
      rose = t.rose;
      stopped = record {
        kept = t.kept;
        where_it_stands = inl (w, ap (λ (e : Contents). e.live) t.is, ap (λ (e : Contents). e.spares) t.is);
        frames = ap counted t.is ∙ sound.1;
        left = subst (LeftBehind c x) (sym t.is) (inl (sym (st.sound.holds.every st.grants.works)));
        failed = ap (λ (e : Contents). e.is_failed) t.is;
      };
    }

-- ---- what the frame's append asks of the log with room

live_limit : (l : Limits) (number : ℕ) (bytes : List (List ℕ)) → AreLive l number bytes → 0 < length bytes → number + length bytes ≤ 2 ^ 64
live_limit l number bytes live some = let last = live_number l number bytes (length bytes - 1) live (omega arith) in omega arith

-- the last box has room for the frame, and could count a failure
pub record Takes (d : Contents) (len : ℕ) : Type 0 where
  pub some : 0 < length d.live
  pub fits : IfSome (slice_get d.live (length d.live - 1)) (λ h. length h.bytes + len ≤ h.room)
  pub countable : IfSome (slice_get d.live (length d.live - 1)) (λ h. h.failed < 2 ^ 64 - 1)
  pub number : d.number + length d.live ≤ 2 ^ 64

takes_of : (d : Contents) (len : ℕ) (older : List Holding) (h : Holding) → d.live ≡ older ++ h ∷ [] → length h.bytes + len ≤ h.room → h.failed < 2 ^ 64 - 1
    → d.number + length d.live ≤ 2 ^ 64 → Takes d len
takes_of d len older h split fits fresh number =
    let last : slice_get d.live (length d.live - 1) ≡ Some h = sym (last_is d.live) ∙ ap last_of split ∙ last_of_at older h in
    record {
      some = (let size = ap (λ (l : List Holding). length l) split in omega (arith, size, length-append older (h ∷ [])));
      fits = subst (λ (o : Option Holding). IfSome o (λ h. length h.bytes + len ≤ h.room)) (sym last) fits;
      countable = subst (λ (o : Option Holding). IfSome o (λ h. h.failed < 2 ^ 64 - 1)) (sym last) fresh;
      number = number;
    }

takes_here : (c : Contents) (x : Frame) (care : Bool) → Starts c x care → wants_segment c (length (frame_bytes x)) ≡ false → Takes c (length (frame_bytes x))
takes_here c x care st w =
    let p = puts_here c x care st w in
    let last : last_of c.live ≡ Some p.1 = ap last_of p.2.last ∙ last_of_at p.0 p.1 in
    let room : has_room (length (frame_bytes x)) (Some p.1) ≡ true =
    ap (has_room (length (frame_bytes x))) (sym last) ∙ (open_with_room c (length (frame_bytes x)) w).1 in
    let fresh : is_worn (Some p.1) ≡ false = ap is_worn (sym last) ∙ st.grants.last w in
    let bytes = map (λ (h : Holding). h.bytes) c.live in
    let size = length-map c.live (λ (h : Holding). h.bytes) in
    let some : 0 < length c.live = (let s = ap (λ (l : List Holding). length l) p.2.last in omega (arith, s, length-append p.0 (p.1 ∷ []))) in
    let limit = live_limit (limits_of (image c) st.sound.holds.live.0) c.number bytes st.sound.holds.live.1 (omega arith) in
    takes_of c (length (frame_bytes x)) p.0 p.1 p.2.last (leb-true (length p.1.bytes + length (frame_bytes x)) p.1.room room) (not_worn p.1 fresh) (omega arith)

takes_begun : (c : Contents) (x : Frame) (care : Bool) → Starts c x care → wants_segment c (length (frame_bytes x)) ≡ true
    → Takes (begun c) (length (frame_bytes x))
takes_begun c x care st w =
    let b = begins c x care st w in
    let s = b.0 in
    let t = appended s (header_bytes (header_of c)) in
    let d : Contents = record c { live = c.live ++ t ∷ []; spares = b.1; is_open = true } in
    let empty = (spares_empty c s b.1 b.2).0 in
    let none : length s.bytes ≡ 0 = ap (λ (l : List ℕ). length l) empty.0 in
    let room = empty.1.0 in
    let law = st.follows.lawful.head.fits.1 in
    let fresh = not_worn s (subst (λ (l : List Holding). is_worn (slice_get l 0) ≡ false) b.2.first (st.grants.first w)) in
    let number = st.grants.number w in
    let fits : length t.bytes + length (frame_bytes x) ≤ t.room =
    omega (arith, length-header (header_of c), length-append s.bytes (header_bytes (header_of c)), length-frame x) in
    subst (λ (e : Contents). Takes e (length (frame_bytes x))) (sym (begun_is c s b.1 b.2))
    (takes_of d (length (frame_bytes x)) c.live t refl fits fresh (omega (arith, length-append c.live (t ∷ []))))

pub takes_roomy : (c : Contents) (x : Frame) (care : Bool) → Starts c x care → Takes (roomy c (length (frame_bytes x))) (length (frame_bytes x))
takes_roomy c x care st =
    elim (cases_Bool (wants_segment c (length (frame_bytes x)))) [
      | inl w ↦ subst (λ (d : Contents). Takes d (length (frame_bytes x))) (sym (roomy_begun c (length (frame_bytes x)) w)) (takes_begun c x care st w)
      | inr w ↦ subst (λ (d : Contents). Takes d (length (frame_bytes x))) (sym (roomy_here c (length (frame_bytes x)) w)) (takes_here c x care st w)
    ]

-- lines and room for the new pages
pub record Tables (pages : List PageAt) (x : Frame) : Type 0 where
  pub lines : HaveLines x.blocks (length (grown_to (top_page x.blocks) pages))
  pub few : length pages + (top_page x.blocks - length pages) ≤ length pages + length (frame_bytes x) / 8

pub tables_of : (d : Contents) (x : Frame) (older : List Holding) (h : Holding) → Puts d x older h → Tables d.pages x
tables_of d x older h p =
    let lines = put_lines d x older h p in
    let blocks = few_blocks x.blocks in
    let size = length-frame x in
    let reach = lines.reach in
    let few = lines.few in
    record {
      lines = subst (HaveLines x.blocks) (sym (length-grown (top_page x.blocks) d.pages ∙ lines.reach)) lines.lines;
      few = omega arith;
    }

-- ---- all ends at once

-- if nothing was to be refused, these answers are lawful
unrefused : (c : Contents) (x : Frame) (care : Bool) (r : Result (Unit {0}) LogFault) → Starts c x care → Answers None r
    → Answers (refusal c (length (frame_bytes x)) care) r
unrefused c x care r st told = subst (λ (o : Option LogFault). Answers o r) (sym st.none) told

bad_ends : (lease : ℕ) (c : Contents) (x : Frame) (care : Bool) (new : Contents) → Starts c x care → EndedBadly lease c x new
    → AfterAppend c x care (Err (Device lease)) new
bad_ends lease c x care new st e = record {
  sound = e.ended.sound;
  added = tt;
  log = e.ended.same;
  answers = unrefused c x care (Err (Device lease)) st tt;
  device = (e.rose, e.stopped);
}

pub put_ends : (c d : Contents) (x : Frame) (care : Bool) (new : Contents) (r : Result (Unit {0}) LogFault) → Starts c x care
    → d ≡ roomy c (length (frame_bytes x))
    → MatchResult r (λ _. FramePut d x new) (λ fault. OfDevice fault (λ lease. FrameTorn lease d x new)) → AfterAppend c x care r new
put_ends c d x care new (Ok u) st same end =
    let e = put_ok c d x new (subst (Roomed c x) (sym same) (roomed c x care st)) end in
    record { sound = e.ended.sound; added = e.appended; log = e.ended.same; answers = unrefused c x care (Ok u) st tt; device = tt }
put_ends c d x care new (Err NoMemory) st same end = absurd end
put_ends c d x care new (Err BadConfig) st same end = absurd end
put_ends c d x care new (Err NoSegment) st same end = absurd end
put_ends c d x care new (Err (Device lease)) st same end =
    bad_ends lease c x care new st (put_torn lease c d x new (subst (Roomed c x) (sym same) (roomed c x care st)) end)
put_ends c d x care new (Err Failed) st same end = absurd end
put_ends c d x care new (Err Spent) st same end = absurd end
put_ends c d x care new (Err NoPage) st same end = absurd end

-- a header that could not be appended
pub begin_ends : (c d : Contents) (x : Frame) (care : Bool) (new : Contents) (fault : LogFault) → Starts c x care → d ≡ c
    → OfDevice fault (λ lease. (wants_segment d (length (frame_bytes x)) ≡ true) × SpareTorn lease d new) → AfterAppend c x care (Err fault) new
begin_ends c d x care new NoMemory st same end = absurd end
begin_ends c d x care new BadConfig st same end = absurd end
begin_ends c d x care new NoSegment st same end = absurd end
begin_ends c d x care new (Device lease) st same end =
    let here : (wants_segment c (length (frame_bytes x)) ≡ true) × SpareTorn lease c new =
    subst (λ (k : Contents). (wants_segment k (length (frame_bytes x)) ≡ true) × SpareTorn lease k new) same end in
    bad_ends lease c x care new st (torn_spare lease c x care new st here.0 here.1)
begin_ends c d x care new Failed st same end = absurd end
begin_ends c d x care new Spent st same end = absurd end
begin_ends c d x care new NoPage st same end = absurd end

-- ---- as the code finds them: the log as it was, after the growths, and with room

pub starts_of : (old now : Contents) (x : Frame) (care : Bool) (len : ℕ) → IsSound old → MayFollow old x → now ≡ old → len ≡ length (frame_bytes x)
    → refusal now len care ≡ None → Starts old x care
starts_of old now x care len sound follows same size none =
    let here : refusal old (length (frame_bytes x)) care ≡ None =
    subst (λ (c : Contents). refusal c (length (frame_bytes x)) care ≡ None) same (subst (λ (n : ℕ). refusal now n care ≡ None) size none) in
    record { sound = sound; follows = follows; none = here; grants = granted old (length (frame_bytes x)) care here }

pub beginnable_of : (old now : Contents) (x : Frame) (care : Bool) (len : ℕ) → Starts old x care → now ≡ old → len ≡ length (frame_bytes x)
    → wants_segment now len ≡ true → Beginnable now
beginnable_of old now x care len st same size wants =
    let w : wants_segment old (length (frame_bytes x)) ≡ true =
    subst (λ (c : Contents). wants_segment c (length (frame_bytes x)) ≡ true) same (subst (λ (n : ℕ). wants_segment now n ≡ true) size wants) in
    let b = begins old x care st w in
    let there : Beginnable old = record {
      some = st.grants.spares w;
      fits = begin_fits old b.0 b.1 b.2;
      countable = begin_countable old b.0 b.1 b.2 (st.grants.first w);
      number = st.grants.number w;
    } in
    subst Beginnable (sym same) there

pub roomy_of : (old now d : Contents) (x : Frame) (len : ℕ) → now ≡ old → len ≡ length (frame_bytes x) → d ≡ roomy now len
    → d ≡ roomy old (length (frame_bytes x))
roomy_of old now d x len same size is = is ∙ ap (λ (n : ℕ). roomy now n) size ∙ ap (λ (c : Contents). roomy c (length (frame_bytes x))) same

-- the frame may be appended, and there is room for it
pub room_made : (old now d : Contents) (x : Frame) (care : Bool) (len : ℕ) → IsSound old → MayFollow old x → now ≡ old → len ≡ length (frame_bytes x)
    → refusal now len care ≡ None → d ≡ roomy now len → Starts old x care × (d ≡ roomy old (length (frame_bytes x)))
room_made old now d x care len sound follows same size none is =
    (starts_of old now x care len sound follows same size none, roomy_of old now d x len same size is)

pub takes_there : {X : Type 0} (v : X → Holding) (xs : List X) (old d : Contents) (x : Frame) (care : Bool) → Starts old x care
    → d ≡ roomy old (length (frame_bytes x)) → d.live ≡ map v xs
    → IfSome (slice_get (map v xs) (length xs - 1)) (λ h. length h.bytes + length (frame_bytes x) ≤ h.room)
    × IfSome (slice_get (map v xs) (length xs - 1)) (λ h. h.failed < 2 ^ 64 - 1) × (d.number + length xs ≤ 2 ^ 64) × (0 < length xs)
takes_there v xs old d x care st is live =
    let t = subst (λ (c : Contents). Takes c (length (frame_bytes x))) (sym is) (takes_roomy old x care st) in
    let size : length d.live ≡ length xs = ap (λ (l : List Holding). length l) live ∙ length-map xs v in
    let at : slice_get d.live (length d.live - 1) ≡ slice_get (map v xs) (length xs - 1) =
    ap (λ (l : List Holding). slice_get l (length d.live - 1)) live ∙ ap (λ (n : ℕ). slice_get (map v xs) (n - 1)) size in
    let number = t.number in
    let some = t.some in (
      subst (λ (o : Option Holding). IfSome o (λ h. length h.bytes + length (frame_bytes x) ≤ h.room)) at t.fits,
      subst (λ (o : Option Holding). IfSome o (λ h. h.failed < 2 ^ 64 - 1)) at t.countable,
      omega arith,
      omega arith,
    )

pub tables_there : (old d : Contents) (x : Frame) (care : Bool) → Starts old x care → d ≡ roomy old (length (frame_bytes x)) → Tables d.pages x
tables_there old d x care st is =
    let r = roomed old x care st in
    subst (λ (c : Contents). Tables c.pages x) (sym is) (tables_of (roomy old (length (frame_bytes x))) x r.older r.newest r.puts)

pub begin_ends_at : (old now : Contents) (x : Frame) (care : Bool) (new : Contents) (fault : LogFault) (len : ℕ) → Starts old x care → now ≡ old
    → len ≡ length (frame_bytes x) → OfDevice fault (λ lease. (wants_segment now len ≡ true) × SpareTorn lease now new) → AfterAppend old x care (Err fault) new
begin_ends_at old now x care new fault len st same size end =
    begin_ends old now x care new fault st same (subst (λ (n : ℕ). OfDevice fault (λ lease. (wants_segment now n ≡ true) × SpareTorn lease now new)) size end)

-- ---- a refusal before the device is asked

-- the log is what it was, whatever the fault
unasked : (o : Option LogFault) (P : ℕ → Type 0) (Q : Type 0) (fault : LogFault) → ((lease : ℕ) → o ≡ Some (Device lease) → ⊥) → Checks o (Err fault) → Q
    → OnDevice {A = Unit {0}} (Err fault) P Q
unasked o P Q NoMemory never told q = q
unasked o P Q BadConfig never told q = q
unasked o P Q NoSegment never told q = q
unasked None P Q (Device lease) never told q = elim told [ inl e ↦ absurd cc | inr e ↦ absurd cc ]
unasked (Some fault) P Q (Device lease) never told q = let e : Device lease ≡ fault = cc in absurd (never lease (ap (λ (x : LogFault). Some x) (sym e)))
unasked o P Q Failed never told q = q
unasked o P Q Spent never told q = q
unasked o P Q NoPage never told q = q

told_of : (o : Option LogFault) (fault : LogFault) → Checks o (Err fault) → Answers o (Err fault)
told_of (Some first) fault told = told
told_of None fault told = elim told [ inl e ↦ absurd cc | inr e ↦ subst (λ (r : Result (Unit {0}) LogFault). Answers None r) (sym e) tt ]

pub refused_ends : (old now : Contents) (x : Frame) (care : Bool) (fault : LogFault) (len : ℕ) → IsSound now → now ≡ old → len ≡ length (frame_bytes x)
    → Checks (refusal old len care) (Err fault) → AfterAppend old x care (Err fault) now
refused_ends old now x care fault len sound same size checks =
    let told = subst (λ (n : ℕ). Checks (refusal old n care) (Err fault)) size checks in
    record {
      sound = sound;
      added = tt;
      log = subst (IsSameLog old) (sym same) (record { m = refl; f = refl; number = refl; old_to = refl; leases = refl; rooms = refl });
      answers = told_of (refusal old (length (frame_bytes x)) care) fault told;
      device = unasked (refusal old (length (frame_bytes x)) care) (λ lease. Rose lease (boxes old) (boxes now) × Stopped old x now) (now ≡ old) fault
          (λ lease. refusals old (length (frame_bytes x)) lease care) told same;
    }
