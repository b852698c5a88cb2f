-- Frames read one after the other after a header.

use Rattle.std.proofs.Common.{◌≡◌, ◌≢◌, ℕ, zero, suc, ◌+◌, ◌-◌, ◌^◌, ◌<◌, ◌≤◌, Option, Some, None, Result, Ok, Err, IfOk, IfErr, List, [], ◌∷◌, ◌++◌, length}
use Rattle.std.proofs.Common.{take, drop, map, refl, sym, ap, subst, ◌∙◌, append_assoc, append-nil, arith, length-append, length-drop}
use Rattle.std.proofs.lemmas.List.{drop_at, take_at, drop-drop, map-append, take_all}
use Rattle.std.specs.List.{flat_map, AllByRecursion}
use Rattle.std.proofs.lemmas.Grind.{flat_map-append}
use Rattle.bw_log.proofs.Reread.{all-push}
use Rattle.bw_record.specs.Keys.{IsBytes}
use Rattle.bw_codec.specs.Grammar.{body_bytes_in, frame_bytes_in, head_bytes_in, IsFrameIn, IsTailIn, IsFront}
use Rattle.bw_codec.specs.Reading.{Says, Gives, front_at}
use Rattle.bw_codec.specs.Checking.{seen_of, IsSeen}
use Rattle.bw_codec.specs.declared.check.FrameSeen.{FrameSeen}
use Rattle.bw_codec.specs.declared.check.FrameSeen.TheVariants as seen
use Rattle.bw_record.specs.declared.block.Frame.{Frame}
use Rattle.bw_codec.specs.declared.head.FrameRead.{FrameRead}
use Rattle.bw_codec.specs.declared.head.Header.{Header}
use Rattle.bw_codec.specs.declared.head.FrameRead.TheVariants.{Whole, Tail}
use Rattle.bw_codec.specs.declared.fault.CodecFault.{CodecFault}
use Rattle.bw_codec.specs.declared.fault.CodecFault.TheVariants.{NoMemory, BadBytes}
use Rattle.bw_codec.proofs.FrontFormat.{is_front, front_is, length-head}
use Rattle.bw_found.specs.Lent.{IsBody}
use Rattle.bw_log.specs.Starts.{starts_of}
use Rattle.bw_log.specs.Segments.{frames_at, entry_of, entries_from}
use Rattle.bw_log.specs.declared.places.FrameAt.{FrameAt}
use Rattle.bw_log.proofs.Reread.{length-frame_in}
use Rattle.bw_care.specs.Scanning.{rest_of, fault_by}
use Rattle.bw_care.specs.Spelling.{IsSpelling, frame_by, frame_first}
use Rattle.bw_log.proofs.Adding.{entries_more}

-- ---- what `read_frame` answers is what reading gives

abbrev pub Only : ℕ → ℕ → ℕ → List ℕ → Result FrameRead CodecFault → Type 0
Only v m f bytes result = (read : FrameRead) → IsFront v m f bytes read → Gives (λ (x : FrameRead). x) result (Some read)

nothing_by : (v m f : ℕ) (bytes : List ℕ) (o : Option FrameRead) → front_at v m f bytes ≡ o → m < 2 ^ 16 → IsBytes bytes
    → Only v m f bytes (Err BadBytes) → o ≡ None
nothing_by v m f bytes None is small fits only = refl
nothing_by v m f bytes (Some read) is small fits only = only read (front_is v m f bytes read small fits is)

pub front_told : (v m f : ℕ) (bytes : List ℕ) (result : Result FrameRead CodecFault) → m < 2 ^ 16 → f < 2 ^ 32 → IsBytes bytes
    → IfOk result (IsFront v m f bytes)
    → Only v m f bytes result
    → Gives (λ (x : FrameRead). x) result (front_at v m f bytes)
front_told v m f bytes (Ok read) small limit fits found only = is_front v m f bytes read small limit found
front_told v m f bytes (Err NoMemory) small limit fits found only = tt
front_told v m f bytes (Err BadBytes) small limit fits found only = nothing_by v m f bytes (front_at v m f bytes) refl small fits only

-- ---- what `check_frame` answers is what reading gives, in short

abbrev pub OnlySeen : ℕ → ℕ → ℕ → List ℕ → Result FrameSeen CodecFault → Type 0
OnlySeen v m f bytes result = (read : FrameRead) → IsFront v m f bytes read → result ≡ Ok (seen_of read)

unseen_by : (v m f : ℕ) (bytes : List ℕ) (fault : CodecFault) (o : Option FrameRead) → front_at v m f bytes ≡ o → m < 2 ^ 16 → IsBytes bytes
    → OnlySeen v m f bytes (Err fault) → o ≡ None
unseen_by v m f bytes fault None is small fits only = refl
unseen_by v m f bytes fault (Some read) is small fits only = let no = only read (front_is v m f bytes read small fits is) in cc

pub unseen : (v m f : ℕ) (bytes : List ℕ) (result : Result FrameSeen CodecFault) → m < 2 ^ 16 → IsBytes bytes
    → OnlySeen v m f bytes result → IfErr result (λ fault. front_at v m f bytes ≡ None)
unseen v m f bytes (Ok told) small fits only = tt
unseen v m f bytes (Err fault) small fits only = unseen_by v m f bytes fault (front_at v m f bytes) refl small fits only

-- what is said of bytes that are known to be a frame or a tail
pub known_front : (v m f : ℕ) (bytes : List ℕ) (told : FrameSeen) → m < 2 ^ 16 → IsBytes bytes → front_at v m f bytes ≢ None
    → ((read : FrameRead) → IsFront v m f bytes read → told ≡ seen_of read) → IsSeen v m f bytes told
known_front v m f bytes told small fits some only = known_as (front_at v m f bytes) refl where
  known_as : (o : Option FrameRead) → front_at v m f bytes ≡ o → IsSeen v m f bytes told
  known_as None is = absurd (some is)
  known_as (Some read) is =
      let there = front_is v m f bytes read small fits is in
      record { read = read; there = there; is = only read there }

abbrev number_in : FrameSeen → ℕ
number_in (seen.Whole number used) = number
number_in seen.Tail = 0

abbrev used_in : FrameSeen → ℕ
used_in (seen.Whole number used) = used
used_in seen.Tail = 0

-- the frame that was answered
pub record IsWhole (v m f : ℕ) (bytes : List ℕ) (number used : ℕ) : Type 0 where
  pub frame : Frame
  pub number_is : frame.number ≡ number
  pub there : IsFront v m f bytes (Whole frame used)

whole_by : (v m f : ℕ) (bytes : List ℕ) (told : FrameSeen) (number used : ℕ) (read : FrameRead) → IsFront v m f bytes read → told ≡ seen_of read
    → told ≡ seen.Whole number used → IsWhole v m f bytes number used
whole_by v m f bytes told number used (Whole frame len) there is same =
    let one = sym is ∙ same in
    record { frame = frame; number_is = ap number_in one; there = subst (λ (n : ℕ). IsFront v m f bytes (Whole frame n)) (ap used_in one) there }
whole_by v m f bytes told number used Tail there is same = let no = sym is ∙ same in cc

tail_by : (v m f : ℕ) (bytes : List ℕ) (told : FrameSeen) (read : FrameRead) → IsFront v m f bytes read → told ≡ seen_of read
    → told ≡ seen.Tail → IsFront v m f bytes Tail
tail_by v m f bytes told (Whole frame len) there is same = let no = sym is ∙ same in cc
tail_by v m f bytes told Tail there is same = there

-- what is there is no fault
pub never_bad : {X : Type 0} (fault : CodecFault) (x : X) → fault ≡ BadBytes → Says fault (Some x) → ⊥
never_bad NoMemory x bad says = cc
never_bad BadBytes x bad says = cc

-- ---- steps

abbrev pub behind : List Frame → List Frame × List ℕ → List Frame × List ℕ
behind fs x = (fs ++ x.0, x.1)

step_whole : (k : Header) (n : ℕ) (bytes : List ℕ) (done : List Frame) (frame : Frame) (used : ℕ) → front_at k.version k.m k.f bytes ≡ Some (Whole frame used)
    → behind done (frames_at (suc n) k.version k.m k.f bytes) ≡ behind (done ++ frame ∷ []) (frames_at n k.version k.m k.f (drop used bytes))
unfolding frames_at
step_whole k n bytes done frame used front =
    rw (front, append_assoc done (frame ∷ []) (frames_at n k.version k.m k.f (drop used bytes)).0, frames_at) refl

step_tail : (k : Header) (n : ℕ) (bytes : List ℕ) → front_at k.version k.m k.f bytes ≡ Some Tail → frames_at n k.version k.m k.f bytes ≡ ([], bytes)
unfolding frames_at
step_tail k zero bytes front = refl
step_tail k (suc n) bytes front = rw (front, frames_at) refl

step_bad : (k : Header) (n : ℕ) (bytes : List ℕ) → front_at k.version k.m k.f bytes ≡ None → frames_at n k.version k.m k.f bytes ≡ ([], bytes)
unfolding frames_at
step_bad k zero bytes front = refl
step_bad k (suc n) bytes front = rw (front, frames_at) refl

-- ---- the loop: frames were read up to an offset

pub record IsReadTo (k : Header) (bytes : List ℕ) (at : ℕ) (done : List Frame) (told : List FrameAt) : Type 0 where
  pub from : 24 ≤ at
  pub within : at ≤ length bytes
  pub few : length done + 24 ≤ at
  pub read : frames_at (length bytes) k.version k.m k.f (drop 24 bytes) ≡ behind done (frames_at (length bytes - length done) k.version k.m k.f (drop at bytes))
  pub stands : at ≡ 24 + length (flat_map (frame_bytes_in k.version) done)
  pub lines : told ≡ map (λ e. e.0) (entries_from k.version 0 24 done)
  pub laws : AllByRecursion (IsFrameIn k.version k.m k.f) done
  pub parts : drop 24 bytes ≡ flat_map (frame_bytes_in k.version) done ++ drop at bytes

pub read_none : (k : Header) (bytes : List ℕ) → 24 ≤ length bytes → IsReadTo k bytes 24 [] []
read_none k bytes long = record {
  from = omega arith;
  within = long;
  few = omega arith;
  read = ap (λ (n : ℕ). behind [] (frames_at n k.version k.m k.f (drop 24 bytes))) (omega arith);
  stands = refl;
  lines = refl;
  laws = tt;
  parts = refl;
}

flat_more : (v : ℕ) (fs : List Frame) (x : Frame) → length (flat_map (frame_bytes_in v) (fs ++ x ∷ [])) ≡ length (flat_map (frame_bytes_in v) fs) +
    length (frame_bytes_in v x)
flat_more v [] x = omega (arith, length-append (frame_bytes_in v x) [])
flat_more v (f ∷ fs) x = omega (
  arith,
  flat_more v fs x,
  length-append (frame_bytes_in v f) (flat_map (frame_bytes_in v) (fs ++ x ∷ [])),
  length-append (frame_bytes_in v f) (flat_map (frame_bytes_in v) fs),
)

-- a frame that is read fits the bytes and the limit
pub fits_there : (k : Header) (at : ℕ) (bytes : List ℕ) (frame : Frame) (used : ℕ) → at ≤ length bytes
    → IsFront k.version k.m k.f (drop at bytes) (Whole frame used)
    → (at + used ≤ length bytes) × (20 ≤ used) × (used ≤ k.f)
fits_there k at bytes frame used within front =
    let size = ap (λ (b : List ℕ). length b) front.2 in
    let fits = front.0.head.fits in
    let all : length (drop at bytes) ≡ used + length front.1 = omega (arith, size, front.3, length-append (frame_bytes_in k.version frame) front.1) in
    (omega (arith, all, length-drop at bytes), omega (arith, front.3, length-frame_in k.version frame), omega (arith, front.3, length-frame_in k.version frame))

parts_more : (v : ℕ) (bytes : List ℕ) (at : ℕ) (frames : List Frame) (frame : Frame) (used : ℕ) (rest : List ℕ)
    → drop 24 bytes ≡ flat_map (frame_bytes_in v) frames ++ drop at bytes → drop at bytes ≡ frame_bytes_in v frame ++ rest
    → used ≡ length (frame_bytes_in v frame)
    → drop 24 bytes ≡ flat_map (frame_bytes_in v) (frames ++ frame ∷ []) ++ drop (at + used) bytes
parts_more v bytes at frames frame used rest parts here size =
    let beyond : rest ≡ drop (at + used) bytes =
    sym (drop_at (frame_bytes_in v frame) rest used (sym size)) ∙ ap (λ (b : List ℕ). drop used b) (sym here) ∙ drop-drop used at bytes in
    let all : flat_map (frame_bytes_in v) (frames ++ frame ∷ []) ≡ flat_map (frame_bytes_in v) frames ++ frame_bytes_in v frame =
    flat_map-append (frame_bytes_in v) frames (frame ∷ []) ∙ ap (λ (b : List ℕ). flat_map (frame_bytes_in v) frames ++ b)
    (append-nil (frame_bytes_in v frame)) in
    parts ∙ ap (λ (b : List ℕ). flat_map (frame_bytes_in v) frames ++ b) (here ∙ ap (λ (b : List ℕ). frame_bytes_in v frame ++ b) beyond)
    ∙ sym (append_assoc (flat_map (frame_bytes_in v) frames) (frame_bytes_in v frame) (drop (at + used) bytes))
    ∙ ap (λ (b : List ℕ). b ++ drop (at + used) bytes) (sym all)

pub read_more : (k : Header) (bytes : List ℕ) (at : ℕ) (frames : List Frame) (lines : List FrameAt) (frame : Frame) (used : ℕ)
    → IsReadTo k bytes at frames lines
    → front_at k.version k.m k.f (drop at bytes) ≡ Some (Whole frame used) → IsFront k.version k.m k.f (drop at bytes) (Whole frame used)
    → IsReadTo k bytes (at + used) (frames ++ frame ∷ []) (lines ++ record
    { number = frame.number; segment = 0; at = at; len = used; starts = starts_of k.version frame } ∷ [])
read_more k bytes at frames lines frame used r front there =
    let fits = fits_there k at bytes frame used r.within there in
    let first : FrameAt × Frame → FrameAt = λ e. e.0 in
    let fuel : suc (length bytes - length (frames ++ frame ∷ [])) ≡ length bytes - length frames =
    (let w = r.within in let w2 = r.few in omega (arith, length-append frames (frame ∷ []))) in
    let step = step_whole k (length bytes - length (frames ++ frame ∷ [])) (drop at bytes) frames frame used front in
    record {
      from = (let w = r.from in omega arith);
      within = fits.0;
      few = (let w = r.few in let u = fits.1 in omega (arith, length-append frames (frame ∷ [])));
      read = r.read ∙ ap (λ (n : ℕ). behind frames (frames_at n k.version k.m k.f (drop at bytes))) (sym fuel) ∙ step
          ∙ ap (λ (b : List ℕ). behind (frames ++ frame ∷ []) (frames_at (length bytes - length (frames ++ frame ∷ [])) k.version k.m k.f b))
          (drop-drop used at bytes);
      stands = (let s = r.stands in let t = flat_more k.version frames frame in omega (arith, there.3));
      lines = ap (λ (l : List FrameAt). l ++ record { number = frame.number; segment = 0; at = at; len = used; starts = starts_of k.version frame } ∷
          []) r.lines
          ∙ ap (λ (l : FrameAt). map first (entries_from k.version 0 24 frames) ++ l ∷ [])
          (λ i. record { number = frame.number; segment = 0; at = r.stands i; len = there.3 i; starts = starts_of k.version frame })
          ∙ sym (map-append first (entries_from k.version 0 24 frames)
          ((entry_of k.version 0 (24 + length (flat_map (frame_bytes_in k.version) frames)) frame, frame) ∷ []))
          ∙ ap (map first) (sym (entries_more k.version 0 24 frames frame));
      laws = all-push (IsFrameIn k.version k.m k.f) frames frame r.laws there.0;
      parts = parts_more k.version bytes at frames frame used there.1 r.parts there.2 there.3;
    }

-- where the loop ends
pub record Ends (k : Header) (bytes : List ℕ) (at : ℕ) (done : List Frame) : Type 0 where
  pub frames : done ≡ (frames_at (length bytes) k.version k.m k.f (drop 24 bytes)).0
  pub rest : rest_of k bytes ≡ drop at bytes
  pub len : length bytes - length (rest_of k bytes) ≡ at

ends_by : (k : Header) (bytes : List ℕ) (at : ℕ) (frames : List Frame) (lines : List FrameAt) → IsReadTo k bytes at frames lines
    → frames_at (length bytes - length frames) k.version k.m k.f (drop at bytes) ≡ ([], drop at bytes) → Ends k bytes at frames
unfolding rest_of
ends_by k bytes at frames lines r none =
    let all : frames_at (length bytes) k.version k.m k.f (drop 24 bytes) ≡ behind frames ([], drop at bytes) = r.read ∙ ap (behind frames) none in
    let rest : rest_of k bytes ≡ drop at bytes = ap (λ (x : List Frame × List ℕ). x.1) all in
    record {
      frames = sym (append-nil frames) ∙ sym (ap (λ (x : List Frame × List ℕ). x.0) all);
      rest = rest;
      len = (let w = r.within in omega (arith, ap (λ (b : List ℕ). length b) rest, length-drop at bytes));
    }

pub ends_tail : (k : Header) (bytes : List ℕ) (at : ℕ) (frames : List Frame) (lines : List FrameAt) → IsReadTo k bytes at frames lines
    → front_at k.version k.m k.f (drop at bytes) ≡ Some Tail → Ends k bytes at frames
ends_tail k bytes at frames lines r front = ends_by k bytes at frames lines r (step_tail k (length bytes - length frames) (drop at bytes) front)

pub ends_bad : (k : Header) (bytes : List ℕ) (at : ℕ) (frames : List Frame) (lines : List FrameAt) → IsReadTo k bytes at frames lines
    → front_at k.version k.m k.f (drop at bytes) ≡ None → Ends k bytes at frames
ends_bad k bytes at frames lines r front = ends_by k bytes at frames lines r (step_bad k (length bytes - length frames) (drop at bytes) front)

-- the answers
pub tail_lawful : (k : Header) (bytes : List ℕ) (at : ℕ) (frames : List Frame) → Ends k bytes at frames → front_at k.version k.m k.f (drop at bytes) ≡ Some Tail
    → fault_by (length bytes - length (rest_of k bytes)) (front_at k.version k.m k.f (rest_of k bytes)) ≡ None
tail_lawful k bytes at frames e front =
    ap (λ (b : List ℕ). fault_by (length bytes - length (rest_of k bytes)) (front_at k.version k.m k.f b)) e.rest
    ∙ ap (fault_by (length bytes - length (rest_of k bytes))) front

pub bad_there : (k : Header) (bytes : List ℕ) (at : ℕ) (frames : List Frame) → Ends k bytes at frames → front_at k.version k.m k.f (drop at bytes) ≡ None
    → fault_by (length bytes - length (rest_of k bytes)) (front_at k.version k.m k.f (rest_of k bytes)) ≡ Some at
bad_there k bytes at frames e front =
    ap (λ (b : List ℕ). fault_by (length bytes - length (rest_of k bytes)) (front_at k.version k.m k.f b)) e.rest
    ∙ ap (fault_by (length bytes - length (rest_of k bytes))) front ∙ ap (λ (n : ℕ). Some n) e.len

pub tail_len : (k : Header) (bytes : List ℕ) (at : ℕ) (frames : List Frame) → Ends k bytes at frames → length bytes - at ≡ length (rest_of k bytes)
tail_len k bytes at frames e = sym (ap (λ (b : List ℕ). length b) e.rest ∙ length-drop at bytes)

-- the bytes from an offset on, as a slice has them
from_here : (bytes : List ℕ) (at : ℕ) → take (length bytes - at) (drop at bytes) ≡ drop at bytes
from_here bytes at = take_all (length bytes - at) (drop at bytes) (omega (arith, length-drop at bytes))

pub front_from : (k : Header) (bytes : List ℕ) (at : ℕ) (read again : FrameRead)
    → front_at k.version k.m k.f (take (length bytes - at) (drop at bytes)) ≡ Some read
    → read ≡ again → front_at k.version k.m k.f (drop at bytes) ≡ Some again
front_from k bytes at read again is same = ap (front_at k.version k.m k.f) (sym (from_here bytes at)) ∙ is ∙ ap (λ (r : FrameRead). Some r) same

pub there_from : (k : Header) (bytes : List ℕ) (at : ℕ) (read again : FrameRead)
    → IsFront k.version k.m k.f (take (length bytes - at) (drop at bytes)) read → read ≡ again
    → IsFront k.version k.m k.f (drop at bytes) again
there_from k bytes at read again there same =
    subst (λ (b : List ℕ). IsFront k.version k.m k.f b again) (from_here bytes at)
    (subst (IsFront k.version k.m k.f (take (length bytes - at) (drop at bytes))) same there)

-- what was answered in short stands at the front of the bytes, too
pub whole_from : (k : Header) (bytes : List ℕ) (at : ℕ) (told : FrameSeen) (number used : ℕ)
    → IsSeen k.version k.m k.f (take (length bytes - at) (drop at bytes)) told → told ≡ seen.Whole number used
    → IsWhole k.version k.m k.f (drop at bytes) number used
whole_from k bytes at told number used s same =
    subst (λ (b : List ℕ). IsWhole k.version k.m k.f b number used) (from_here bytes at)
    (whole_by k.version k.m k.f (take (length bytes - at) (drop at bytes)) told number used s.read s.there s.is same)

pub tail_from : (k : Header) (bytes : List ℕ) (at : ℕ) (told : FrameSeen)
    → IsSeen k.version k.m k.f (take (length bytes - at) (drop at bytes)) told → told ≡ seen.Tail
    → IsFront k.version k.m k.f (drop at bytes) Tail
tail_from k bytes at told s same =
    subst (λ (b : List ℕ). IsFront k.version k.m k.f b Tail) (from_here bytes at)
    (tail_by k.version k.m k.f (take (length bytes - at) (drop at bytes)) told s.read s.there s.is same)

pub unseen_from : (k : Header) (bytes : List ℕ) (at : ℕ) → front_at k.version k.m k.f (take (length bytes - at) (drop at bytes)) ≡ None
    → front_at k.version k.m k.f (drop at bytes) ≡ None
unseen_from k bytes at none = ap (front_at k.version k.m k.f) (sym (from_here bytes at)) ∙ none

-- the bytes of the frame that was answered
pub spelled_from : (k : Header) (bytes : List ℕ) (at number used : ℕ) (w : IsWhole k.version k.m k.f (drop at bytes) number used) → k.m < 2 ^ 16
    → IsSpelling k.version k.m k.f w.frame (take (at + used - at) (drop at bytes))
spelled_from k bytes at number used w small =
    let n : at + used - at ≡ used = omega arith in
    record {
      small = small;
      law = w.there.0;
      parts = ap (λ (i : ℕ). take i (drop at bytes)) n ∙ ap (λ (b : List ℕ). take used b) w.there.2
          ∙ take_at (frame_bytes_in k.version w.frame) w.there.1 used (sym w.there.3);
    }

pub len_from : (k : Header) (bytes : List ℕ) (at number used : ℕ) (w : IsWhole k.version k.m k.f (drop at bytes) number used) → k.m < 2 ^ 16
    → length (take (at + used - at) (drop at bytes)) ≡ used
len_from k bytes at number used w small =
    ap (λ (b : List ℕ). length b) (spelled_from k bytes at number used w small).parts ∙ sym w.there.3

-- the body of that frame
pub body_there : (k : Header) (bytes : List ℕ) (at number used : ℕ) (w : IsWhole k.version k.m k.f (drop at bytes) number used) → k.m < 2 ^ 16
    → IsBody k.version k.m w.frame.blocks (take (at + used - (at + 20)) (drop (at + 20) bytes))
body_there k bytes at number used w small =
    let v = k.version in
    let f = w.frame in
    let body = body_bytes_in v f.blocks in
    let head = head_bytes_in v f.number (length body) (length f.blocks) in
    let rest = w.there.1 in
    let len : length head ≡ 20 = length-head v f.number (length body) (length f.blocks) in
    let behind : drop (at + 20) bytes ≡ body ++ rest =
    sym (drop-drop 20 at bytes) ∙ ap (λ (b : List ℕ). drop 20 b) (w.there.2 ∙ append_assoc head body rest) ∙ drop_at head (body ++ rest) 20 len in
    let size : at + used - (at + 20) ≡ length body = omega (arith, w.there.3, length-frame_in v f) in
    record {
      small = small;
      lawful = w.there.0.blocks;
      there = ap (λ (b : List ℕ). take (at + used - (at + 20)) b) behind ∙ take_at body rest (at + used - (at + 20)) (sym size);
    }

-- it is the one that these bytes begin with
first_there : (k : Header) (bytes : List ℕ) (at number used : ℕ) (w : IsWhole k.version k.m k.f (drop at bytes) number used) → k.m < 2 ^ 16 → k.f < 2 ^ 32
    → frame_first k (take (at + used - at) (drop at bytes)) ≡ w.frame
first_there k bytes at number used w small limit =
    let slice = take (at + used - at) (drop at bytes) in
    let s = spelled_from k bytes at number used w small in
    ap frame_by
    (is_front k.version k.m k.f slice (Whole w.frame (length (frame_bytes_in k.version w.frame))) small limit
    (s.law, [], s.parts ∙ sym (append-nil (frame_bytes_in k.version w.frame)), refl))

pub first_spelled : (k : Header) (bytes : List ℕ) (at number used : ℕ) (w : IsWhole k.version k.m k.f (drop at bytes) number used) → k.m < 2 ^ 16
    → k.f < 2 ^ 32
    → IsSpelling k.version k.m k.f (frame_first k (take (at + used - at) (drop at bytes))) (take (at + used - at) (drop at bytes))
first_spelled k bytes at number used w small limit =
    subst (λ (x : Frame). IsSpelling k.version k.m k.f x (take (at + used - at) (drop at bytes)))
    (sym (first_there k bytes at number used w small limit)) (spelled_from k bytes at number used w small)

-- and its line
pub line_from : (k : Header) (bytes : List ℕ) (at number used : ℕ) (line : FrameAt) (w : IsWhole k.version k.m k.f (drop at bytes) number used) → k.m < 2 ^ 16
    → k.f < 2 ^ 32
    → line ≡ record {
      number = number;
      segment = 0;
      at = at;
      len = length (take (at + used - at) (drop at bytes));
      starts = starts_of k.version (frame_first k (take (at + used - at) (drop at bytes)));
    } → line ≡ record { number = w.frame.number; segment = 0; at = at; len = used; starts = starts_of k.version w.frame }
line_from k bytes at number used line w small limit is =
    let len = len_from k bytes at number used w small in
    let first = first_there k bytes at number used w small limit in
    let same = sym w.number_is in
    is ∙ (λ i. record { number = same i; segment = 0; at = at; len = len i; starts = starts_of k.version (first i) })

pub none_from : (k : Header) (bytes : List ℕ) (at : ℕ) (fault : CodecFault) → Says fault (front_at k.version k.m k.f (take (length bytes - at) (drop at bytes)))
    → fault ≡ BadBytes → front_at k.version k.m k.f (drop at bytes) ≡ None
none_from k bytes at fault says is = ap (front_at k.version k.m k.f) (sym (from_here bytes at))
    ∙ subst (λ (x : CodecFault). Says x (front_at k.version k.m k.f (take (length bytes - at) (drop at bytes)))) is says

pub ends_parts : (k : Header) (bytes : List ℕ) (at : ℕ) (frames : List Frame) (lines : List FrameAt) → IsReadTo k bytes at frames lines
    → Ends k bytes at frames → drop 24 bytes ≡ flat_map (frame_bytes_in k.version) frames ++ rest_of k bytes
ends_parts k bytes at frames lines r e = r.parts ∙ ap (λ (b : List ℕ). flat_map (frame_bytes_in k.version) frames ++ b) (sym e.rest)

pub ends_torn : (k : Header) (bytes : List ℕ) (at : ℕ) (frames : List Frame) → Ends k bytes at frames → IsFront k.version k.m k.f (drop at bytes) Tail
    → IsTailIn k.version k.f (rest_of k bytes)
ends_torn k bytes at frames e there = subst (IsTailIn k.version k.f) (sym e.rest) there
