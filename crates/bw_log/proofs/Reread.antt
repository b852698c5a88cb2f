-- What a segment's bytes spell is read again.

use Rattle.std.proofs.Common.{◌≡◌, ℕ, zero, suc, ◌+◌, ◌^◌, ◌<◌, ◌≤◌, ◌==◌, ◌⊎◌, inl, inr, Bool, true, false, nat_le, if◌then◌else◌, Some, List, []}
use Rattle.std.proofs.Common.{◌∷◌, ◌++◌, length, take, drop, refl, sym, ap, subst, ◌∙◌}
use Rattle.std.proofs.Common.{append_assoc, append-nil, arith, length-append}
use Rattle.std.proofs.lemmas.List.{drop_at, take_all}
use Rattle.std.proofs.lemmas.Bool.{cases_lt, lt-leb}
use Rattle.std.proofs.lemmas.Grind.{flat_map-append}
use Rattle.std.specs.List.{flat_map, AllByRecursion}
use Rattle.bw_record.specs.Version.{latest, greatest_limit}
use Rattle.bw_codec.specs.Bytes.{number_bytes}
use Rattle.bw_codec.specs.Grammar.{segment_word, body_bytes, body_bytes_in, head_bytes_in, frame_bytes_in, frame_bytes, header_bytes, IsFrameIn}
use Rattle.bw_codec.specs.Grammar.{IsFrame, IsHeader, IsTailIn, IsWhole}
use Rattle.bw_codec.specs.Reading.{front_at, heading_of, version_in}
use Rattle.bw_record.specs.declared.block.Frame.{Frame}
use Rattle.bw_codec.specs.declared.head.Header.{Header}
use Rattle.bw_codec.specs.declared.head.FrameRead.TheVariants.{Whole, Tail}
use Rattle.bw_codec.specs.declared.head.HeaderRead.TheVariants as heading
use Rattle.bw_codec.proofs.FrontFormat.{is_front, beginnings_are_tails, length-head}
use Rattle.bw_codec.proofs.Heading.{header_again, length-header}
use Rattle.bw_log.specs.Segments.{Limits, frames_at, segment_frames, header_with, header_in, version_at, limit_at, IsLive, IsClean}

pub all-push : {X : Type 0} (P : X → Type 0) (xs : List X) (x : X) → AllByRecursion P xs → P x → AllByRecursion P (xs ++ x ∷ [])
all-push P [] x all one = (one, tt)
all-push P (y ∷ ys) x all one = (all.0, all-push P ys x all.1 one)

-- ---- frames

pub length-frame_in : (v : ℕ) (x : Frame) → length (frame_bytes_in v x) ≡ 20 + length (body_bytes_in v x.blocks)
length-frame_in v x =
    let body = body_bytes_in v x.blocks in
    omega (arith, length-head v x.number (length body) (length x.blocks), length-append (head_bytes_in v x.number (length body) (length x.blocks)) body)

pub length-frame : (x : Frame) → length (frame_bytes x) ≡ 20 + length (body_bytes x.blocks)
length-frame x = length-frame_in latest x

-- there are no more frames than bytes
pub frames_few : (v : ℕ) → (fs : List Frame) → length fs ≤ length (flat_map (frame_bytes_in v) fs)
frames_few v [] = omega arith
frames_few v (x ∷ fs) = omega (arith, frames_few v fs, length-frame_in v x, length-append (frame_bytes_in v x) (flat_map (frame_bytes_in v) fs))

-- frames spelled one after the other, and a tail, are read as they are
pub frames_read : (v : ℕ) → (n m f : ℕ) (fs : List Frame) (torn : List ℕ) → m < 2 ^ 16 → f < 2 ^ 32 → AllByRecursion (IsFrameIn v m f) fs
    → IsTailIn v f torn → length fs ≤ n
    → frames_at n v m f (flat_map (frame_bytes_in v) fs ++ torn) ≡ (fs, torn)
unfolding frames_at
frames_read v zero m f [] torn small limit laws tail few = refl
frames_read v (suc n) m f [] torn small limit laws tail few = rw (is_front v m f torn Tail small limit tail, frames_at) refl
frames_read v zero m f (x ∷ fs) torn small limit laws tail few = absurd (omega arith)
frames_read v (suc n) m f (x ∷ fs) torn small limit laws tail few =
    let rest = flat_map (frame_bytes_in v) fs ++ torn in
    let parts : flat_map (frame_bytes_in v) (x ∷ fs) ++ torn ≡ frame_bytes_in v x ++ rest = append_assoc (frame_bytes_in v x)
    (flat_map (frame_bytes_in v) fs) torn in
    let front : front_at v m f (flat_map (frame_bytes_in v) (x ∷ fs) ++ torn) ≡ Some (Whole x (length (frame_bytes_in v x))) =
    is_front v m f (flat_map (frame_bytes_in v) (x ∷ fs) ++ torn) (Whole x (length (frame_bytes_in v x))) small limit (laws.0, rest, parts, refl) in
    let left : drop (length (frame_bytes_in v x)) (flat_map (frame_bytes_in v) (x ∷ fs) ++ torn) ≡ rest =
    ap (λ (b : List ℕ). drop (length (frame_bytes_in v x)) b) parts ∙ drop_at (frame_bytes_in v x) rest (length (frame_bytes_in v x)) refl in
    let others = frames_read v n m f fs torn small limit laws.1 tail (omega arith) in
    rw (front, left, others, frames_at) refl

-- ---- a segment

-- each frame limit has a number of four bytes
limited : (v : ℕ) → greatest_limit v < 2 ^ 32
limited v = elim (v == 1) as (λ t. (if t then 65536 else 262144) < 2 ^ 32) [ true ↦ omega arith | false ↦ omega arith ]

-- what its first bytes are read as
pub whole_header : (bytes : List ℕ) (h : Header) (fs : List Frame) (torn : List ℕ) → IsWhole bytes h fs torn → heading_of bytes ≡ heading.Whole h
whole_header bytes h fs torn w = ap heading_of w.parts ∙ header_again h (flat_map (frame_bytes_in h.version) fs ++ torn) w.lawful

-- the same bytes have one header
pub one_header : (bytes : List ℕ) (h k : Header) (fs gs : List Frame) (torn rest : List ℕ) → IsWhole bytes h fs torn → IsWhole bytes k gs rest → h ≡ k
one_header bytes h k fs gs torn rest a b =
    (let same : heading.Whole h ≡ heading.Whole k = sym (whole_header bytes h fs torn a) ∙ whole_header bytes k gs rest b in cc)

pub segment_read : (bytes : List ℕ) (h : Header) (fs : List Frame) (torn : List ℕ) → IsWhole bytes h fs torn → segment_frames bytes ≡ fs
unfolding segment_frames
segment_read bytes h fs torn w =
    let rest = flat_map (frame_bytes_in h.version) fs ++ torn in
    let ms = w.lawful.m in
    let small : h.f < 2 ^ 32 = (let fl = w.lawful.f.1 in let all = limited h.version in omega arith) in
    let head : heading_of bytes ≡ heading.Whole h = ap heading_of w.parts ∙ header_again h rest w.lawful in
    let left : drop 24 bytes ≡ rest = ap (λ (b : List ℕ). drop 24 b) w.parts ∙ drop_at (header_bytes h) rest 24 (length-header h) in
    let size = ap (λ (b : List ℕ). length b) w.parts in
    let few : length fs ≤ length bytes = omega (
      arith,
      size,
      frames_few h.version fs,
      length-append (header_bytes h) rest,
      length-append
          (flat_map (frame_bytes_in h.version) fs) torn,
    ) in
    let read = frames_read h.version (length bytes) h.m h.f fs torn (omega arith) small w.each w.tail few in
    rw (head, left, read, segment_frames) refl

pub no_bytes_are_a_tail : (v f : ℕ) → IsTailIn v f []
no_bytes_are_a_tail v f = inl (omega arith, refl)

-- only a header
pub header_is_clean : (m f number : ℕ) → IsHeader (header_with number m f)
    → (segment_frames (header_bytes (header_with number m f)) ≡ [])
    × IsClean m f number (header_bytes (header_with number m f))
header_is_clean m f number lawful =
    let h : Header = header_with number m f in
    let whole : IsWhole (header_bytes h) h [] [] =
    record { lawful = lawful; each = tt; tail = no_bytes_are_a_tail latest f; parts = sym (append-nil (header_bytes h)) } in
    let read = segment_read (header_bytes h) h [] [] whole in
    (read, subst (λ (fs : List Frame). IsWhole (header_bytes h) h fs []) (sym read) whole)

-- a frame more
pub clean_more : (m f number : ℕ) (bytes : List ℕ) (x : Frame) → IsClean m f number bytes → IsFrame m f x
    → (segment_frames (bytes ++ frame_bytes x) ≡ segment_frames bytes ++ x ∷ []) × IsClean m f number (bytes ++ frame_bytes x)
clean_more m f number bytes x clean law =
    let h : Header = header_with number m f in
    let fs = segment_frames bytes in
    let more : flat_map frame_bytes (fs ++ x ∷ []) ≡ flat_map frame_bytes fs ++ frame_bytes x =
    flat_map-append frame_bytes fs (x ∷ []) ∙ ap (λ (b : List ℕ). flat_map frame_bytes fs ++ b) (append-nil (frame_bytes x)) in
    let old : bytes ≡ header_bytes h ++ flat_map frame_bytes fs =
    clean.parts ∙ ap (λ (b : List ℕ). header_bytes h ++ b) (append-nil (flat_map frame_bytes fs)) in
    let parts : bytes ++ frame_bytes x ≡ header_bytes h ++ (flat_map frame_bytes (fs ++ x ∷ []) ++ []) =
    ap (λ (b : List ℕ). b ++ frame_bytes x) old ∙ append_assoc (header_bytes h) (flat_map frame_bytes fs) (frame_bytes x)
    ∙ ap (λ (b : List ℕ). header_bytes h ++ b) (sym more ∙ sym (append-nil (flat_map frame_bytes (fs ++ x ∷ [])))) in
    let whole : IsWhole (bytes ++ frame_bytes x) h (fs ++ x ∷ []) [] =
    record { lawful = clean.lawful; each = all-push (IsFrame m f) fs x clean.each law; tail = clean.tail; parts = parts } in
    let read = segment_read (bytes ++ frame_bytes x) h (fs ++ x ∷ []) [] whole in
    (read, subst (λ (gs : List Frame). IsWhole (bytes ++ frame_bytes x) h gs []) (sym read) whole)

-- where the next frame stands
pub clean_len : (m f number : ℕ) (bytes : List ℕ) → IsClean m f number bytes → length bytes ≡ 24 + length (flat_map frame_bytes (segment_frames bytes))
clean_len m f number bytes clean =
    let h : Header = header_with number m f in
    let fs = segment_frames bytes in
    let size = ap (λ (b : List ℕ). length b) clean.parts in
    omega (arith, size, length-header h, length-append (header_bytes h) (flat_map frame_bytes fs ++ []), length-append (flat_map frame_bytes fs) [])

-- ---- live segments

-- a header of version 2, frames and a tail
abbrev pub IsNew : ℕ → ℕ → ℕ → List ℕ → Type 0
IsNew m f number bytes = (torn : List ℕ) × IsWhole bytes (header_with number m f) (segment_frames bytes) torn

-- the header of a segment after the old ones
pub header_new : (l : Limits) (number : ℕ) → l.old_to < number → header_in l number ≡ header_with number l.m l.f
header_new l number new =
    ap (λ (t : Bool). let h : Header = record { version = if t then 1 else latest; number = number; m = l.m; f = if t then l.old_f else l.f } in h)
    (lt-leb number l.old_to new)

pub new_is_live : (l : Limits) (number : ℕ) (bytes : List ℕ) → header_in l number ≡ header_with number l.m l.f → IsNew l.m l.f number bytes
    → IsLive l number bytes
new_is_live l number bytes same new =
    record { torn = new.0; whole = subst (λ (h : Header). IsWhole bytes h (segment_frames bytes) new.0) (sym same) new.1 }

pub clean_is_new : (m f number : ℕ) (bytes : List ℕ) → IsClean m f number bytes → IsNew m f number bytes
clean_is_new m f number bytes clean = ([], clean)

-- a live segment that takes frames has such a header
pub clean_header : (l : Limits) (number : ℕ) (bytes : List ℕ) → IsLive l number bytes → IsClean l.m l.f number bytes
    → header_in l number ≡ header_with number l.m l.f
clean_header l number bytes live clean =
    one_header bytes (header_in l number) (header_with number l.m l.f) (segment_frames bytes) (segment_frames bytes) live.torn [] live.whole clean

-- the version of a segment, by its first bytes
pub new_version : (m f number : ℕ) (bytes : List ℕ) → IsNew m f number bytes → version_in bytes ≡ latest
new_version m f number bytes new = ap version_in new.1.parts

pub live_version : (l : Limits) (number : ℕ) (bytes : List ℕ) → IsLive l number bytes → version_in bytes ≡ version_at l.old_to number
live_version l number bytes live =
    let rest = number_bytes 8 number ++ (number_bytes 2 l.m ++ (number_bytes 2 0 ++ number_bytes 4 (limit_at l number))) in
    let more = flat_map (frame_bytes_in (version_at l.old_to number)) (segment_frames bytes) ++ live.torn in
    ap version_in live.whole.parts
    ∙ elim (nat_le number l.old_to) as (λ t. version_in ((segment_word (if t then 1 else latest) ++ rest) ++ more) ≡ (if t then 1 else latest)) [
      | true ↦ refl
      | false ↦ refl
    ]

-- a frame that is torn: the frames are those before, or one more where all of its bytes are there
pub clean_torn : (m f number : ℕ) (bytes : List ℕ) (x : Frame) (n : ℕ) → IsClean m f number bytes → IsFrame m f x
    → IsNew m f number (bytes ++ take n (frame_bytes x))
    × ((segment_frames (bytes ++ take n (frame_bytes x)) ≡ segment_frames bytes) ⊎ (bytes ++ take n (frame_bytes x) ≡ bytes ++ frame_bytes x))
clean_torn m f number bytes x n clean law =
    let h : Header = header_with number m f in
    let fs = segment_frames bytes in
    elim (cases_lt n (length (frame_bytes x))) [
      | inl short ↦ (
          let torn = take n (frame_bytes x) in
          let parts : bytes ++ torn ≡ header_bytes h ++ (flat_map frame_bytes fs ++ torn) =
          ap (λ (b : List ℕ). b ++ torn) (clean.parts ∙ ap (λ (b : List ℕ). header_bytes h ++ b) (append-nil (flat_map frame_bytes fs)))
          ∙ append_assoc (header_bytes h) (flat_map frame_bytes fs) torn in
          let whole : IsWhole (bytes ++ torn) h fs torn =
          record { lawful = clean.lawful; each = clean.each; tail = beginnings_are_tails latest m f x n law short; parts = parts } in
          let read = segment_read (bytes ++ torn) h fs torn whole in
          ((torn, subst (λ (gs : List Frame). IsWhole (bytes ++ torn) h gs torn) (sym read) whole), inl read))
      | inr whole ↦ (
          let same : bytes ++ take n (frame_bytes x) ≡ bytes ++ frame_bytes x = ap (λ (b : List ℕ). bytes ++ b) (take_all n (frame_bytes x) whole) in
          (subst (IsNew m f number) (sym same) (clean_is_new m f number (bytes ++ frame_bytes x) (clean_more m f number bytes x clean law).1), inr same))
    ]
