-- The segments that a store began: what an append, a cleaning and `reopen` say of the newest one.

use Rattle.std.proofs.Common.{inl, inr, ◌≡◌, ◌⊎◌, ℕ, zero, suc, ◌+◌, ◌-◌, ◌<◌, ◌≤◌, Bool, true, false, if◌then◌else◌, Option, Some, None, List, [], ◌∷◌, ◌++◌}
use Rattle.std.proofs.Common.{length, map, drop, refl, sym, ap, ◌∙◌, subst, arith, length-append, length-drop}
use Rattle.std.specs.Prelude.{IfSome, slice_get}
use Rattle.std.specs.List.{AllByRecursion as All}
use Rattle.std.proofs.lemmas.List.{length-map}
use Rattle.bw_codec.specs.Grammar.{frame_bytes, header_bytes}
use Rattle.bw_record.specs.declared.block.Frame.{Frame}
use Rattle.bw_leaf.proofs.Sorted.{all-map}
use Rattle.bw_device.specs.Holding.{Holding, appended}
use Rattle.bw_device.specs.declared.memory.TheConstants.{MAX_CAPACITY}
use Rattle.bw_log.specs.Appends.{last_of, with_last, begun, begun_with, header_of, roomy, wants_segment, torn, Appended, Stopped}
use Rattle.bw_log.specs.Contents.{Contents, Image, IsRoomy, boxes, image, rooms_of}
use Rattle.bw_log.specs.Segments.{Limits, AreLive}
use Rattle.bw_log.specs.declared.fault.LogFault.{LogFault}
use Rattle.bw_log.specs.declared.fault.LogFault.TheVariants as log
use Rattle.bw_care.specs.Moving as care
use Rattle.bw_care.proofs.OwnSegments.{live_long}
use Rattle.bw_core.specs.declared.origin.Edge.{Edge}
use Rattle.bw_core.specs.Edges.{newest_number, IsEdge, IsBegun}
use Rattle.bw_core.specs.Reopened.{edge_at, edge_of}

pub some_map : {A : Type 0} (P Q : A → Type 0) → ((x : A) → P x → Q x) → (o : Option A) → IfSome o P → IfSome o Q
some_map P Q f None h = tt
some_map P Q f (Some x) h = f x h

some_any : {A : Type 0} (Q : A → Type 0) → ((x : A) → Q x) → (o : Option A) → IfSome o Q
some_any Q f None = tt
some_any Q f (Some x) = f x

-- ---- the last of some boxes, by the rooms of all

abbrev rooms : List Holding → List ℕ
rooms hs = map (λ h. h.room) hs

abbrev front : List ℕ → ℕ
front [] = 0
front (n ∷ ns) = n

abbrev back : List ℕ → List ℕ
back [] = []
back (n ∷ ns) = ns

last_all : (P : ℕ → Type 0) (xs ys bs : List Holding) → rooms (xs ++ ys) ≡ rooms bs → All (λ h. P h.room) bs → IfSome (last_of xs) (λ h. P h.room)
last_all P [] ys bs same are = tt
last_all P (x ∷ xs) ys [] same are = absurd cc
last_all P (x ∷ []) ys (b ∷ bs) same are = subst P (sym (ap front same)) are.0
last_all P (x ∷ y ∷ xs) ys (b ∷ bs) same are = last_all P (y ∷ xs) ys bs (ap back same) are.1

last_in : (P : ℕ → Type 0) (xs ys olds bs : List Holding) → rooms (xs ++ ys) ≡ rooms (olds ++ bs) → length olds ≤ length xs → All (λ h. P h.room) bs
    → (length olds ≡ length xs → IfSome (last_of olds) (λ h. P h.room)) → IfSome (last_of xs) (λ h. P h.room)
last_in P xs ys [] bs same more are last = last_all P xs ys bs same are
last_in P [] ys (o ∷ olds) bs same more are last = absurd (omega arith)
last_in P (x ∷ []) ys (o ∷ []) bs same more are last = subst P (sym (ap front same)) (last refl)
last_in P (x ∷ y ∷ xs) ys (o ∷ []) bs same more are last = last_all P (y ∷ xs) ys bs (ap back same) are
last_in P (x ∷ []) ys (o ∷ p ∷ olds) bs same more are last = absurd (omega arith)
last_in P (x ∷ y ∷ xs) ys (o ∷ p ∷ olds) bs same more are last =
    last_in P (y ∷ xs) ys (p ∷ olds) bs (ap back same) (omega arith) are (λ long. last (omega arith))

-- a log with the same boxes in a row, and no fewer live ones
pub begun_on : (edge : Edge) (old new : Contents) → All (IsRoomy old.f) old.spares → rooms_of new ≡ rooms_of old → new.number ≡ old.number → new.f ≡ old.f
    → length old.live ≤ length new.live → IsBegun edge old → IsBegun edge new
begun_on edge old new spares same number limit more was =
    last_in (λ r. (newest_number new ≡ edge.segment) ⊎ ((24 + new.f ≤ r) × (r ≤ MAX_CAPACITY))) new.live new.spares old.live old.spares same more
    (all-map (IsRoomy old.f) (λ h. (newest_number new ≡ edge.segment) ⊎ IsRoomy new.f h)
    (λ h roomy. inr (subst (λ (k : ℕ). IsRoomy k h) (sym limit) roomy)) old.spares spares)
    (λ long.
    some_map (λ (h : Holding). (newest_number old ≡ edge.segment) ⊎ IsRoomy old.f h) (λ h. (newest_number new ≡ edge.segment) ⊎ IsRoomy new.f h)
    (λ h is. elim is [
      | inl e ↦ inl ((let n : newest_number new ≡ newest_number old = omega arith in n) ∙ e)
      | inr roomy ↦ inr (subst (λ (k : ℕ). IsRoomy k h) (sym limit) roomy)
    ]) (last_of old.live) was)

-- ---- no fewer live segments

pub long_as : (change : Holding → Holding) (hs : List Holding) → length (with_last change hs) ≡ length hs
long_as change [] = refl
long_as change (h ∷ []) = refl
long_as change (h ∷ k ∷ hs) = ap suc (long_as change (k ∷ hs))

begun_more : (c : Contents) (ss : List Holding) → length c.live ≤ length (begun_with c ss).live
begun_more c [] = omega arith
begun_more c (h ∷ hs) = (let len = length-append c.live (appended h (header_bytes (header_of c)) ∷ []) in omega arith)

roomy_by : (c : Contents) (wants : Bool) → length c.live ≤ length (if wants then begun c else c).live
roomy_by c true = begun_more c c.spares
roomy_by c false = omega arith

more_live : (change : Holding → Holding) (c : Contents) (len : ℕ) → length c.live ≤ length (with_last change (roomy c len).live)
more_live change c len = (let same = long_as change (roomy c len).live in let more = roomy_by c (wants_segment c len) in omega arith)

pub appended_more : (old new : Contents) (x : Frame) → Appended old x new → length old.live ≤ length new.live
appended_more old new x a =
    (let live = ap (λ (hs : List Holding). length hs) a.live in
    let more = more_live (λ h. appended h (frame_bytes x)) old (length (frame_bytes x)) in omega arith)

pub stopped_more : (old new : Contents) (x : Frame) → Stopped old x new → length old.live ≤ length new.live
stopped_more old new x a = elim (a.where_it_stands) [
  | inl head ↦ (let live = ap (λ (hs : List Holding). length hs) head.1 in omega arith)
  | inr part ↦ (let live = ap (λ (hs : List Holding). length hs) part.0 in
      let more = more_live (torn a.kept (frame_bytes x)) old (length (frame_bytes x)) in omega arith)
]

-- ---- a cleaning

longer_rooms : (hs ks : List Holding) → care.AreLonger hs ks → rooms ks ≡ rooms hs
longer_rooms [] [] a = refl
longer_rooms [] (k ∷ ks) a = absurd a
longer_rooms (h ∷ hs) [] a = absurd a
longer_rooms (h ∷ hs) (k ∷ ks) a = let rest = longer_rooms hs ks a.1 in let one = ap (λ (x : Holding). x.room) a.0.1 in cc

-- what the boxes of a log stay
pub record StaysRow (old new : Contents) : Type 0 where
  pub rooms_are : rooms_of new ≡ rooms_of old
  pub number : new.number ≡ old.number
  pub limit : new.f ≡ old.f
  pub more : length old.live ≤ length new.live

pub row_then : (a b c : Contents) → StaysRow a b → StaysRow b c → StaysRow a c
row_then a b c x y =
    let one = x.more in
    let two = y.more in
    record { rooms_are = y.rooms_are ∙ x.rooms_are; number = y.number ∙ x.number; limit = y.limit ∙ x.limit; more = omega arith }

pub begun_stays : (edge : Edge) (old new : Contents) → All (IsRoomy old.f) old.spares → StaysRow old new → IsBegun edge old → IsBegun edge new
begun_stays edge old new spares x was = begun_on edge old new spares x.rooms_are x.number x.limit x.more was

pub moved_row : (last : ℕ) (old now : Contents) (ps rest : List ℕ) (frames : ℕ) → care.MovedBehind last old now ps rest frames → StaysRow old now
moved_row last old now ps rest frames x =
    record { rooms_are = longer_rooms (boxes old) (boxes now) x.boxes_grew; number = x.number; limit = x.f; more = x.older.many }

same_row : (old new : Contents) → new ≡ old → StaysRow old new
same_row old new e = record {
  rooms_are = ap rooms_of e;
  number = ap (λ (c : Contents). c.number) e;
  limit = ap (λ (c : Contents). c.f) e;
  more = (let long = ap (λ (c : Contents). length c.live) e in omega arith);
}

failed_more : (old new : Contents) → (image new ≡ image old) ⊎ care.IsTornBase old new → length old.live ≤ length new.live
failed_more old new (inl same) =
    (let long = ap (λ (i : Image). length i.bytes) same in
    let one = length-map old.live (λ (h : Holding). h.bytes) in
    let two = length-map new.live (λ (h : Holding). h.bytes) in omega arith)
failed_more old new (inr t) = stopped_more old new t.frame t.stopped

pub refused_row : (old new : Contents) (fault : LogFault) → care.Refused fault old new → StaysRow old new
refused_row old new log.NoMemory r = same_row old new r
refused_row old new log.BadConfig r = absurd r
refused_row old new log.NoSegment r = same_row old new r
refused_row old new (log.Device lease) r =
    record { rooms_are = r.same.rooms; number = r.same.number; limit = r.same.f; more = failed_more old new r.left }
refused_row old new log.Failed r = absurd r
refused_row old new log.Spent r = same_row old new r
refused_row old new log.NoPage r = absurd r

-- the first so many segments are given up, and not the newest
dropped_last : (k : ℕ) (hs : List Holding) → k < length hs → last_of (drop k hs) ≡ last_of hs
dropped_last zero hs less = refl
dropped_last (suc k) [] less = absurd (omega arith)
dropped_last (suc k) (h ∷ []) less = absurd (omega arith)
dropped_last (suc k) (h ∷ x ∷ hs) less = dropped_last k (x ∷ hs) (omega arith)

pub begun_dropped : (edge : Edge) (k : ℕ) (c new : Contents) → k < length c.live → new.live ≡ drop k c.live → new.number ≡ c.number + k → new.f ≡ c.f
    → IsBegun edge c → IsBegun edge new
begun_dropped edge k c new two live number limit was =
    let long = ap (λ (hs : List Holding). length hs) live in
    let less = length-drop k c.live in
    let newest : newest_number c ≡ newest_number new = omega arith in
    subst (λ (o : Option Holding). IfSome o (λ h. (newest_number new ≡ edge.segment) ⊎ IsRoomy new.f h)) (sym (ap last_of live ∙ dropped_last k c.live two))
    (some_map (λ (h : Holding). (newest_number c ≡ edge.segment) ⊎ IsRoomy c.f h) (λ h. (newest_number new ≡ edge.segment) ⊎ IsRoomy new.f h)
    (λ h is. elim is [
      | inl e ↦ inl (sym newest ∙ e)
      | inr roomy ↦ inr (subst (λ (k : ℕ). IsRoomy k h) (sym limit) roomy)
    ]) (last_of c.live) was)

-- ---- reopen

edged_at : (l : Limits) (number k i : ℕ) (hs : List Holding) → AreLive l number (map (λ h. h.bytes) hs) → IsEdge (edge_at k (slice_get hs i))
edged_at l number k i [] live = inl refl
edged_at l number k zero (h ∷ hs) live = inr (live_long l number h.bytes live.0)
edged_at l number k (suc i) (h ∷ hs) live = edged_at l (number + 1) k i hs live.1

pub edged_by : (c : Contents) (l : Limits) → AreLive l c.number (map (λ h. h.bytes) c.live) → IsEdge (edge_of c)
edged_by c l live = edged_at l c.number (newest_number c) (length c.live - 1) c.live live

last_there : (k : ℕ) (h : Holding) (hs : List Holding) → (edge_at k (slice_get (h ∷ hs) (length hs))).segment ≡ k
last_there k h [] = refl
last_there k h (x ∷ hs) = last_there k x hs

newest_there : (k : ℕ) (P : Holding → Type 0) (hs : List Holding) → IfSome (last_of hs) (λ h. (k ≡ (edge_at k (slice_get hs (length hs - 1))).segment) ⊎ P h)
newest_there k P [] = tt
newest_there k P (h ∷ hs) =
    let last : length (h ∷ hs) - 1 ≡ length hs = omega arith in
    let there = ap (λ (i : ℕ). (edge_at k (slice_get (h ∷ hs) i)).segment) last ∙ last_there k h hs in
    some_any (λ (x : Holding). (k ≡ (edge_at k (slice_get (h ∷ hs) (length (h ∷ hs) - 1))).segment) ⊎ P x) (λ x. inl (sym there)) (last_of (h ∷ hs))

pub begun_by : (c : Contents) → IsBegun (edge_of c) c
begun_by c = newest_there (newest_number c) (IsRoomy c.f) c.live
