-- Boxes that only grew, and the failure of one of them.

use Rattle.std.proofs.Common.{inl, ◌≡◌, ℕ, zero, suc, ◌+◌, ◌<◌, ◌≤◌, ◌&&◌, not, nat_lt, Bool, true, false, if◌then◌else◌, Option, Some, None, Ok, List, [], ◌∷◌}
use Rattle.std.proofs.Common.{◌++◌, length, map, slice_get, slice_set, refl, sym, ap, subst, ◌∙◌, append_assoc, append-nil, length-append, arith}
use Rattle.bw_codec.specs.Grammar.{frame_bytes, header_bytes}
use Rattle.bw_record.specs.declared.block.Frame.{Frame}
use Rattle.bw_device.specs.Holding.{Holding, appended, failed_once}
use Rattle.bw_log.specs.Contents.{Contents, image, boxes, roster, counted_in}
use Rattle.std.proofs.lemmas.List.{map-append}
use Rattle.bw_log.specs.Reads.{FailedRead}
use Rattle.bw_log.specs.Appends.{header_of, begun, begun_with, with_last, last_of, has_room, wants_segment, is_spent, refusal, roomy, Answers, Appended, Rose}
use Rattle.bw_log.specs.declared.fault.LogFault.{LogFault}
use Rattle.bw_log.specs.declared.fault.LogFault.TheVariants.{NoSegment, Failed, Spent}
use Rattle.bw_care.specs.Moving.{IsLonger, AreLonger, KeepsOlder, KeepsNewest, DeviceFailed}

-- ---- only bytes were added

longer_one : (h : Holding) → IsLonger h h
longer_one h = ([], ap (λ (b : List ℕ). record h { bytes = b }) (sym (append-nil h.bytes)))

longer_then : (h k l : Holding) → IsLonger h k → IsLonger k l → IsLonger h l
longer_then h k l a b =
    (a.0 ++ b.0, b.1 ∙ ap (λ (x : Holding). appended x b.0) a.1 ∙ ap (λ (r : List ℕ). record h { bytes = r }) (append_assoc h.bytes a.0 b.0))

pub longer_same : (hs : List Holding) → AreLonger hs hs
longer_same [] = tt
longer_same (h ∷ hs) = (longer_one h, longer_same hs)

pub longer_all : (hs ks ls : List Holding) → AreLonger hs ks → AreLonger ks ls → AreLonger hs ls
longer_all [] [] [] a b = tt
longer_all [] [] (l ∷ ls) a b = absurd b
longer_all [] (k ∷ ks) ls a b = absurd a
longer_all (h ∷ hs) [] ls a b = absurd a
longer_all (h ∷ hs) (k ∷ ks) [] a b = absurd b
longer_all (h ∷ hs) (k ∷ ks) (l ∷ ls) a b = (longer_then h k l a.0 b.0, longer_all hs ks ls a.1 b.1)

longer_two : (xs ys cs ds : List Holding) → AreLonger xs ys → AreLonger cs ds → AreLonger (xs ++ cs) (ys ++ ds)
longer_two [] [] cs ds a b = b
longer_two [] (y ∷ ys) cs ds a b = absurd a
longer_two (x ∷ xs) [] cs ds a b = absurd a
longer_two (x ∷ xs) (y ∷ ys) cs ds a b = (a.0, longer_two xs ys cs ds a.1 b)

longer_last : (piece : List ℕ) (hs : List Holding) → AreLonger hs (with_last (λ h. appended h piece) hs)
longer_last piece [] = tt
longer_last piece (h ∷ []) = ((piece, refl), tt)
longer_last piece (h ∷ k ∷ hs) = (longer_one h, longer_last piece (k ∷ hs))

longer_begun : (c : Contents) (spares : List Holding) → c.spares ≡ spares → AreLonger (boxes c) (boxes (begun_with c spares))
longer_begun c [] is = longer_same (boxes c)
longer_begun c (s ∷ ss) is =
    let t = appended s (header_bytes (header_of c)) in
    subst (λ (l : List Holding). AreLonger (c.live ++ l) ((c.live ++ t ∷ []) ++ ss)) (sym is)
    (subst (λ (l : List Holding). AreLonger (c.live ++ s ∷ ss) l) (sym (append_assoc c.live (t ∷ []) ss))
    (longer_two c.live c.live (s ∷ ss) (t ∷ ss) (longer_same c.live) ((header_bytes (header_of c), refl), longer_same ss)))

longer_roomy : (c : Contents) (len : ℕ) (t : Bool) → AreLonger (boxes c) (boxes (if t then begun c else c))
longer_roomy c len true = longer_begun c c.spares refl
longer_roomy c len false = longer_same (boxes c)

-- an append adds bytes to two boxes at most
pub appended_longer : (old : Contents) (x : Frame) (new : Contents) → Appended old x new → AreLonger (boxes old) (boxes new)
appended_longer old x new a =
    let len = length (frame_bytes x) in
    let then_roomy = roomy old len in
    let there : AreLonger (boxes then_roomy) (with_last (λ h. appended h (frame_bytes x)) then_roomy.live ++ then_roomy.spares) =
    longer_two then_roomy.live (with_last (λ h. appended h (frame_bytes x)) then_roomy.live) then_roomy.spares then_roomy.spares
    (longer_last (frame_bytes x) then_roomy.live) (longer_same then_roomy.spares) in
    longer_all (boxes old) (boxes then_roomy) (boxes new) (longer_roomy old len (wants_segment old len))
    (subst (λ (l : List Holding). AreLonger (boxes then_roomy) (l ++ new.spares)) (sym a.live)
    (subst (λ (l : List Holding). AreLonger (boxes then_roomy) (with_last (λ h. appended h (frame_bytes x)) then_roomy.live ++ l)) (sym a.spares) there))

-- ---- leases

leases_longer : (hs ks : List Holding) → AreLonger hs ks → map (λ h. h.lease) ks ≡ map (λ h. h.lease) hs
leases_longer [] [] a = refl
leases_longer [] (k ∷ ks) a = absurd a
leases_longer (h ∷ hs) [] a = absurd a
leases_longer (h ∷ hs) (k ∷ ks) a = let rest = leases_longer hs ks a.1 in let one = ap (λ (x : Holding). x.lease) a.0.1 in cc

pub same_roster : (old new : Contents) → AreLonger (boxes old) (boxes new) → roster new ≡ roster old
same_roster old new a = leases_longer (boxes old) (boxes new) a

-- ---- the older live segments

with_last_long : (change : Holding → Holding) (hs : List Holding) → length (with_last change hs) ≡ length hs
with_last_long change [] = refl
with_last_long change (h ∷ []) = refl
with_last_long change (h ∷ k ∷ hs) = let e = with_last_long change (k ∷ hs) in omega arith

with_last_at : (change : Holding → Holding) (hs : List Holding) (i : ℕ) → i + 1 < length hs → slice_get (with_last change hs) i ≡ slice_get hs i
with_last_at change [] i inside = absurd (omega arith)
with_last_at change (h ∷ []) i inside = absurd (omega arith)
with_last_at change (h ∷ k ∷ hs) zero inside = refl
with_last_at change (h ∷ k ∷ hs) (suc i) inside = with_last_at change (k ∷ hs) i (omega arith)

pub get_front : {A : Type 0} (xs ys : List A) (i : ℕ) → i < length xs → slice_get (xs ++ ys) i ≡ slice_get xs i
get_front [] ys i inside = absurd (omega arith)
get_front (x ∷ xs) ys zero inside = refl
get_front (x ∷ xs) ys (suc i) inside = get_front xs ys i (omega arith)

older_begun : (c : Contents) (spares : List Holding) → KeepsOlder c.live (begun_with c spares).live
older_begun c [] = record { many = omega arith; same = λ i inside. refl }
older_begun c (s ∷ ss) =
    record {
      many = omega (arith, length-append c.live (appended s (header_bytes (header_of c)) ∷ []));
      same = λ i inside. get_front c.live
          (appended s (header_bytes (header_of c)) ∷ []) i (omega arith);
    }

older_roomy : (c : Contents) (t : Bool) → KeepsOlder c.live (if t then begun c else c).live
older_roomy c true = older_begun c c.spares
older_roomy c false = record { many = omega arith; same = λ i inside. refl }

pub older_all : (a b c : List Holding) → KeepsOlder a b → KeepsOlder b c → KeepsOlder a c
older_all a b c x y =
    let m = x.many in let n = y.many in
    record { many = omega arith; same = λ i inside. y.same i (omega arith) ∙ x.same i inside }

pub older_same : (a : List Holding) → KeepsOlder a a
older_same a = record { many = omega arith; same = λ i inside. refl }

pub appended_older : (old : Contents) (x : Frame) (new : Contents) → Appended old x new → KeepsOlder old.live new.live
appended_older old x new a =
    let len = length (frame_bytes x) in
    let live = (roomy old len).live in
    let change : Holding → Holding = λ h. appended h (frame_bytes x) in
    let last : KeepsOlder live (with_last change live) =
    record { many = omega (arith, with_last_long change live); same = λ i inside. with_last_at change live i inside } in
    older_all old.live live new.live (older_roomy old (wants_segment old len)) (subst (KeepsOlder live) (sym a.live) last)

-- ---- the newest live segment, if it takes no frames

answered : (o : Option LogFault) (x : Unit {0}) → Answers o (Ok x) → o ≡ None
answered None x a = refl
answered (Some fault) x a = absurd cc

enough_by : (failed wants : Bool) (spares : List Holding) (rest : Option LogFault)
    → (if failed then Some Failed else if wants && nat_lt (length spares) 1 then Some NoSegment else rest) ≡ None → wants ≡ true → 1 ≤ length spares
enough_by true wants spares rest e is = absurd cc
enough_by false true [] rest e is = absurd cc
enough_by false true (s ∷ ss) rest e is = omega arith
enough_by false false spares rest e is = absurd cc

begun_at : (c : Contents) (spares new : List Holding) (change : Holding → Holding) → 1 ≤ length spares → new ≡ with_last change (begun_with c spares).live
    → (length c.live < length new) × ((i : ℕ) → i < length c.live → slice_get new i ≡ slice_get c.live i)
begun_at c [] new change some is = absurd (omega arith)
begun_at c (s ∷ ss) new change some is =
    let first = appended s (header_bytes (header_of c)) in
    let live = c.live ++ first ∷ [] in
    let long = length-append c.live (first ∷ []) in (
      omega (arith, long, ap (λ (l : List Holding). length l) is, with_last_long change live),
      λ i inside. ap (λ (l : List Holding). slice_get l i) is ∙ with_last_at change live i (omega (arith, long)) ∙ get_front c.live (first ∷ []) i inside,
    )

pub keeps_newest : (old : Contents) (x : Frame) (new : Contents) (u : Unit {0}) → Appended old x new
    → Answers (refusal old (length (frame_bytes x)) true) (Ok u) → KeepsNewest old new 1
keeps_newest old x new u a answers =
    let len = length (frame_bytes x) in
    let change : Holding → Holding = λ h. appended h (frame_bytes x) in
    let wants : old.is_open ≡ false → wants_segment old len ≡ true = λ shut. ap (λ (t : Bool). not (t && has_room len (last_of old.live))) shut in
    let told = answered (refusal old len true) u answers in
    let rest : Option LogFault = if is_spent old len then Some Spent else None in
    let at : old.is_open ≡ false → (length old.live < length new.live) × ((i : ℕ) → i < length old.live → slice_get new.live i ≡ slice_get old.live i) =
    (λ shut. begun_at old old.spares new.live change (enough_by old.is_failed (wants_segment old len) old.spares rest told (wants shut))
    (a.live ∙ ap (λ (t : Bool). with_last change (if t then begun old else old).live) (wants shut))) in
    record { closed = λ shut none. absurd (omega arith); begun = λ shut some. (at shut).0; all = λ shut i inside. (at shut).1 i inside }

-- ---- a failure

pub longer_at : (hs ks : List Holding) (i : ℕ) (k : Holding) → AreLonger hs ks → slice_get ks i ≡ Some k
    → (h : Holding) × (slice_get hs i ≡ Some h) × IsLonger h k
longer_at [] [] i k a is = absurd cc
longer_at [] (y ∷ ys) i k a is = absurd a
longer_at (x ∷ xs) [] i k a is = absurd a
longer_at (x ∷ xs) (y ∷ ys) zero k a is = let e : y ≡ k = cc in (x, refl, subst (IsLonger x) e a.0)
longer_at (x ∷ xs) (y ∷ ys) (suc i) k a is = longer_at xs ys i k a.1 is

-- a failure after bytes were added is one before
pub rose_since : (lease : ℕ) (old now new : List Holding) → AreLonger old now → Rose lease now new → Rose lease old new
rose_since lease old now new a r =
    let h = longer_at old now r.at r.before a r.was in
    record {
      at = r.at;
      before = h.0;
      after = r.after;
      was = h.1;
      is = r.is;
      named = sym (ap (λ (x : Holding). x.lease) h.2.1) ∙ r.named;
      counts = r.counts ∙ ap (λ (x : Holding). x.failed + 1) h.2.1;
    }

got_set : {A : Type 0} (xs : List A) (i : ℕ) (x y : A) → slice_get xs i ≡ Some x → slice_get (slice_set xs i y) i ≡ Some y
got_set [] i x y is = absurd cc
got_set (z ∷ zs) zero x y is = refl
got_set (z ∷ zs) (suc i) x y is = got_set zs i x y is

got_front : {A : Type 0} (xs ys : List A) (i : ℕ) (x : A) → slice_get xs i ≡ Some x → slice_get (xs ++ ys) i ≡ Some x
got_front [] ys i x is = absurd cc
got_front (z ∷ zs) ys zero x is = is
got_front (z ∷ zs) ys (suc i) x is = got_front zs ys i x is

set_maps : {A B : Type 0} (g : A → B) (xs : List A) (i : ℕ) (x y : A) → slice_get xs i ≡ Some x → g y ≡ g x → map g (slice_set xs i y) ≡ map g xs
set_maps g [] i x y is same = absurd cc
set_maps g (z ∷ zs) zero x y is same = let e : z ≡ x = cc in ap (λ b. b ∷ map g zs) (same ∙ ap g (sym e))
set_maps g (z ∷ zs) (suc i) x y is same = ap (λ l. g z ∷ l) (set_maps g zs i x y is same)

-- a read that failed
pub read_failed : (reads : ℕ → Type 0) (lease : ℕ) (old new : Contents) → FailedRead reads lease old new → DeviceFailed lease old new
read_failed reads lease old new r =
    let once = failed_once r.segment in
    let live = slice_set old.live r.at once in
    let then_log : Contents = record old { live = live } in
    let bytes : map (λ (h : Holding). h.bytes) live ≡ map (λ (h : Holding). h.bytes) old.live =
    set_maps (λ (h : Holding). h.bytes) old.live r.at r.segment once r.was refl in
    let leases : map (λ (h : Holding). h.lease) live ≡ map (λ (h : Holding). h.lease) old.live =
    set_maps (λ (h : Holding). h.lease) old.live r.at r.segment once r.was refl in
    subst (DeviceFailed lease old) (sym r.is) (record {
      left = inl (ap (λ (b : List (List ℕ)). record (image old) { bytes = b }) bytes);
      rose = record {
        at = r.at;
        before = r.segment;
        after = once;
        was = got_front old.live old.spares r.at r.segment r.was;
        is = got_front live old.spares r.at once (got_set old.live r.at r.segment once r.was);
        named = r.named;
        counts = refl;
      };
      counts = ap (λ (b : List (List ℕ)). counted_in (record (image old) { bytes = b })) bytes;
      same = record {
        m = refl;
        f = refl;
        number = refl;
        old_to = refl;
        leases = map-append (λ (h : Holding). h.lease) live old.spares ∙ ap (λ (l : List ℕ). l ++ map (λ (h : Holding). h.lease) old.spares) leases
            ∙ sym (map-append (λ (h : Holding). h.lease) old.live old.spares);
        rooms = map-append (λ (h : Holding). h.room) live old.spares
            ∙ ap (λ (l : List ℕ). l ++ map (λ (h : Holding). h.room) old.spares)
            (set_maps (λ (h : Holding). h.room) old.live r.at r.segment once r.was refl)
            ∙ sym (map-append (λ (h : Holding). h.room) old.live old.spares);
      };
    })
