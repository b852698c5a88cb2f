-- The table of frames against the bytes: each line says where its frame stands.

use Rattle.std.proofs.Common.{◌≡◌, ℕ, zero, suc, ◌+◌, ◌<◌, Bool, true, false, if◌then◌else◌, List, [], ◌∷◌, ◌++◌, length, map, get_or, refl, sym, ap, subst}
use Rattle.std.proofs.Common.{◌∙◌, append_assoc, arith, length-append}
use Rattle.std.specs.List.{filter, flat_map, AllByRecursion}
use Rattle.std.proofs.lemmas.List.{map-append, length-map, get_or_at}
use Rattle.bw_codec.specs.Grammar.{frame_bytes_in, IsFrameIn}
use Rattle.bw_codec.specs.Reading.{version_in}
use Rattle.bw_record.specs.declared.block.Frame.{Frame}
use Rattle.bw_codec.specs.declared.head.Header.{Header}
use Rattle.bw_log.specs.Starts.{starts_of}
use Rattle.bw_log.specs.Segments.{Limits, header_in, version_at, limit_at, segment_frames, frames_of, entries_from, entries, AreLive, IsLive, is_before_next}
use Rattle.bw_log.specs.Contents.{Contents, Image, image, limits_of, IsImage, IsSound, counted, counted_in}
use Rattle.bw_log.specs.Walking.{StandsAt}
use Rattle.bw_log.specs.declared.places.FrameAt.{FrameAt}
use Rattle.bw_codec.proofs.Heading.{length-header}
use Rattle.bw_log.proofs.Reread.{live_version}
use Rattle.bw_codec.specs.Grammar.{header_bytes}

-- ---- lists

pub all_append : {Y : Type 0} (P : Y → Type 0) (xs ys : List Y) → AllByRecursion P xs → AllByRecursion P ys → AllByRecursion P (xs ++ ys)
all_append P [] ys a b = b
all_append P (x ∷ xs) ys a b = (a.0, all_append P xs ys a.1 b)

pub all_mapped : {Y : Type 0} (P Q : Y → Type 0) (xs : List Y) → ((y : Y) → P y → Q y) → AllByRecursion P xs → AllByRecursion Q xs
all_mapped P Q [] f a = tt
all_mapped P Q (x ∷ xs) f a = (f x a.0, all_mapped P Q xs f a.1)

pub all_kept_by : {Y : Type 0} (P : Y → Type 0) (x : Y) (ys : List Y) (t : Bool) → P x → AllByRecursion P ys → AllByRecursion P (if t then x ∷ ys else ys)
all_kept_by P x ys true one all = (one, all)
all_kept_by P x ys false one all = all

pub all_filtered : {Y : Type 0} (P : Y → Type 0) (test : Y → Bool) (xs : List Y) → AllByRecursion P xs → AllByRecursion P (filter test xs)
all_filtered P test [] a = tt
all_filtered P test (x ∷ xs) a = all_kept_by P x (filter test xs) (test x) a.0 (all_filtered P test xs a.1)

pub all_between : {Y : Type 0} (P : Y → Type 0) (xs : List Y) (y : Y) (ys : List Y) → AllByRecursion P (xs ++ y ∷ ys) → P y
all_between P [] y ys a = a.0
all_between P (x ∷ xs) y ys a = all_between P xs y ys a.1

mapped_by : {A B : Type 0} (g : A → B) (x : A) (xs : List A) (t : Bool) → (if t then g x ∷ map g xs else map g xs) ≡ map g (if t then x ∷ xs else xs)
mapped_by g x xs true = refl
mapped_by g x xs false = refl

pub filter_mapped : {A B : Type 0} (test : B → Bool) (g : A → B) (xs : List A) → filter test (map g xs) ≡ map g (filter (λ x. test (g x)) xs)
filter_mapped test g [] = refl
filter_mapped {A} {B} test g (x ∷ xs) =
    ap (λ (ys : List B). if test (g x) then g x ∷ ys else ys) (filter_mapped test g xs) ∙ mapped_by g x (filter (λ y. test (g y)) xs) (test (g x))

-- an element and what stands before and beyond it
pub record SplitAt {Y : Type 0} (xs : List Y) (k : ℕ) : Type 0 where
  pub before : List Y
  pub item : Y
  pub beyond : List Y
  pub split : xs ≡ before ++ item ∷ beyond
  pub index : length before ≡ k

pub split_at : {Y : Type 0} (xs : List Y) (k : ℕ) → k < length xs → SplitAt xs k
split_at [] k inside = absurd (omega arith)
split_at (x ∷ xs) zero inside = record { before = []; item = x; beyond = xs; split = refl; index = refl }
split_at {Y} (x ∷ xs) (suc k) inside =
    let s = split_at xs k (omega arith) in
    record { before = x ∷ s.before; item = s.item; beyond = s.beyond; split = ap (λ (ys : List Y). x ∷ ys) s.split; index = ap suc s.index }

-- ---- one segment

-- a line of the table and its frame, in these bytes
pub record InSegment (v m f segment : ℕ) (bytes : List ℕ) (e : FrameAt × Frame) : Type 0 where
  pub names : e.0.segment ≡ segment
  pub front : List ℕ
  pub back : List ℕ
  pub parts : bytes ≡ front ++ (frame_bytes_in v e.1 ++ back)
  pub at : e.0.at ≡ length front
  pub len : e.0.len ≡ length (frame_bytes_in v e.1)
  pub lawful : IsFrameIn v m f e.1
  pub numbered : e.0.number ≡ e.1.number
  pub begins : e.0.starts ≡ starts_of v e.1

in_segment : (v m f segment : ℕ) (bytes front : List ℕ) (fs : List Frame) (torn : List ℕ) → bytes ≡ front ++ (flat_map (frame_bytes_in v) fs ++ torn)
    → AllByRecursion (IsFrameIn v m f) fs
    → AllByRecursion (InSegment v m f segment bytes) (entries_from v segment (length front) fs)
in_segment v m f segment bytes front [] torn parts lawful = tt
in_segment v m f segment bytes front (x ∷ xs) torn parts lawful =
    let here : bytes ≡ front ++ (frame_bytes_in v x ++ (flat_map (frame_bytes_in v) xs ++ torn)) =
    parts ∙ ap (λ (r : List ℕ). front ++ r) (append_assoc (frame_bytes_in v x) (flat_map (frame_bytes_in v) xs) torn) in
    let next : bytes ≡ (front ++ frame_bytes_in v x) ++ (flat_map (frame_bytes_in v) xs ++ torn) =
    here ∙ sym (append_assoc front (frame_bytes_in v x) (flat_map (frame_bytes_in v) xs ++ torn)) in (
      record {
        names = refl;
        front = front;
        back = flat_map (frame_bytes_in v) xs ++ torn;
        parts = here;
        at = refl;
        len = refl;
        lawful = lawful.0;
        numbered = refl;
        begins = refl;
      },
      subst (λ (n : ℕ). AllByRecursion (InSegment v m f segment bytes) (entries_from v segment n xs)) (length-append front (frame_bytes_in v x))
          (in_segment v m f segment bytes (front ++ frame_bytes_in v x) xs torn next lawful.1),
    )

-- a line says where its frame stands in a segment of a log
abbrev pub InLive : Limits → ℕ → List ℕ → FrameAt × Frame → Type 0
InLive l number bytes e = InSegment (version_at l.old_to number) l.m (limit_at l number) number bytes e

live_segment : (l : Limits) (number : ℕ) (bytes : List ℕ) → IsLive l number bytes
    → AllByRecursion (InLive l number bytes) (entries_from (version_in bytes) number 24 (segment_frames bytes))
live_segment l number bytes live =
    let h : Header = header_in l number in
    subst (λ (v : ℕ). AllByRecursion (InLive l number bytes) (entries_from v number 24 (segment_frames bytes))) (sym (live_version l number bytes live))
    (subst (λ (n : ℕ). AllByRecursion (InLive l number bytes) (entries_from h.version number n (segment_frames bytes))) (length-header h)
    (in_segment h.version h.m h.f number bytes (header_bytes h) (segment_frames bytes) live.torn live.whole.parts live.whole.each))

-- ---- all live segments

pub record IsEntry (l : Limits) (number : ℕ) (live : List (List ℕ)) (e : FrameAt × Frame) : Type 0 where
  pub older : List (List ℕ)
  pub bytes : List ℕ
  pub newer : List (List ℕ)
  pub split : live ≡ older ++ bytes ∷ newer
  pub stands : InLive l (number + length older) bytes e

entries_behind : (l : Limits) (number : ℕ) (older live all : List (List ℕ)) → all ≡ older ++ live → AreLive l (number + length older) live
    → AllByRecursion (IsEntry l number all) (entries (number + length older) live)
entries_behind l number older [] all split are = tt
entries_behind l number older (b ∷ bs) all split are =
    let n = number + length older in
    let more : number + length (older ++ b ∷ []) ≡ n + 1 = omega (arith, length-append older (b ∷ [])) in
    let next : all ≡ (older ++ b ∷ []) ++ bs = split ∙ sym (append_assoc older (b ∷ []) bs) in
    all_append (IsEntry l number all) (entries_from (version_in b) n 24 (segment_frames b)) (entries (n + 1) bs)
    (all_mapped (InLive l n b) (IsEntry l number all) (entries_from (version_in b) n 24 (segment_frames b))
    (λ e here. record { older = older; bytes = b; newer = bs; split = split; stands = here }) (live_segment l n b are.0))
    (subst (λ (k : ℕ). AllByRecursion (IsEntry l number all) (entries k bs)) more
    (entries_behind l number (older ++ b ∷ []) bs all next (subst (λ (k : ℕ). AreLive l k bs) (sym more) are.1)))

pub are_entries : (l : Limits) (number : ℕ) (live : List (List ℕ)) → AreLive l number live → AllByRecursion (IsEntry l number live) (entries number live)
are_entries l number live are =
    let same : number + length {A = List ℕ} [] ≡ number = omega arith in
    subst (λ (k : ℕ). AllByRecursion (IsEntry l number live) (entries k live)) same
    (entries_behind l number [] live live refl (subst (λ (k : ℕ). AreLive l k live) (sym same) are))

-- ---- counted frames are those of the counted lines

pub frames_in : (v segment at : ℕ) (fs : List Frame) → map (λ e. e.1) (entries_from v segment at fs) ≡ fs
frames_in v segment at [] = refl
frames_in v segment at (f ∷ fs) = ap (λ (r : List Frame). f ∷ r) (frames_in v segment (at + length (frame_bytes_in v f)) fs)

pub frames_of_entries : (number : ℕ) (live : List (List ℕ)) → map (λ e. e.1) (entries number live) ≡ frames_of live
frames_of_entries number [] = refl
frames_of_entries number (b ∷ bs) =
    let second : FrameAt × Frame → Frame = λ e. e.1 in
    map-append second (entries_from (version_in b) number 24 (segment_frames b)) (entries (number + 1) bs)
    ∙ ap (λ (r : List Frame). r ++ map second (entries (number + 1) bs)) (frames_in (version_in b) number 24 (segment_frames b))
    ∙ ap (λ (r : List Frame). segment_frames b ++ r) (frames_of_entries (number + 1) bs)

abbrev pub counted_entries : Image → List (FrameAt × Frame)
counted_entries i = filter (λ e. is_before_next i.next e.1.number) (entries i.number i.bytes)

pub counted_is : (i : Image) → counted_in i ≡ map (λ e. e.1) (counted_entries i)
counted_is i =
    ap (filter (λ (f : Frame). is_before_next i.next f.number)) (sym (frames_of_entries i.number i.bytes))
    ∙ filter_mapped (λ (f : Frame). is_before_next i.next f.number) (λ (e : FrameAt × Frame). e.1) (entries i.number i.bytes)

-- ---- a line of the table

-- the k-th counted frame, and where it stands
pub record LineAt (i : Image) (k : ℕ) (line : FrameAt) : Type 0 where
  pub limits : Limits
  pub of_old : limits.old_to ≡ i.old_to
  pub of_pages : limits.m ≡ i.m
  pub frame : Frame
  pub stands : StandsAt (counted_in i) k frame
  pub entry : IsEntry limits i.number i.bytes (line, frame)

pub line_at : (i : Image) (k : ℕ) (line : FrameAt) → IsImage i → k < length i.frames → line ≡ get_or i.frames k line → LineAt i k line
line_at i k line holds inside is =
    let first : FrameAt × Frame → FrameAt = λ e. e.0 in
    let second : FrameAt × Frame → Frame = λ e. e.1 in
    let limits = limits_of i holds.live.0 in
    let es = counted_entries i in
    let s = split_at es k (omega (arith, ap (λ (l : List FrameAt). length l) holds.listed, length-map es first)) in
    let lines : i.frames ≡ map first s.before ++ s.item.0 ∷ map first s.beyond =
    holds.listed ∙ ap (map first) s.split ∙ map-append first s.before (s.item ∷ s.beyond) in
    let same : line ≡ s.item.0 = is ∙ ap (λ (l : List FrameAt). get_or l k line) lines
    ∙ get_or_at (map first s.before) s.item.0 (map first s.beyond) line k (length-map s.before first ∙ s.index) in
    let frames : counted_in i ≡ map second s.before ++ s.item.1 ∷ map second s.beyond =
    counted_is i ∙ ap (map second) s.split ∙ map-append second s.before (s.item ∷ s.beyond) in
    let all = all_filtered (IsEntry limits i.number i.bytes) (λ e. is_before_next i.next e.1.number) (entries i.number i.bytes)
    (are_entries limits i.number i.bytes holds.live.1) in
    let one : IsEntry limits i.number i.bytes s.item =
    all_between (IsEntry limits i.number i.bytes) s.before s.item s.beyond (subst (AllByRecursion (IsEntry limits i.number i.bytes)) s.split all) in
    record {
      limits = limits;
      of_old = refl;
      of_pages = refl;
      frame = s.item.1;
      stands = record { before = map second s.before; beyond = map second s.beyond; split = frames; index = length-map s.before second ∙ s.index };
      entry = subst (λ (l : FrameAt). IsEntry limits i.number i.bytes (l, s.item.1)) (sym same) one;
    }

pub listed_length : (i : Image) → IsImage i → length i.frames ≡ length (counted_in i)
listed_length i holds =
    let es = counted_entries i in
    ap (λ (l : List FrameAt). length l) holds.listed ∙ length-map es (λ (e : FrameAt × Frame). e.0) ∙ sym (length-map es (λ (e : FrameAt × Frame). e.1))
    ∙ ap (λ (l : List Frame). length l) (sym (counted_is i))

-- ---- each counted frame

-- what each lawful frame has, whatever its format, each frame of live segments has
each_live : (P : Frame → Type 0) → ((v m f : ℕ) (x : Frame) → IsFrameIn v m f x → P x) → (l : Limits) (number : ℕ) (bytes : List (List ℕ))
    → AreLive l number bytes → AllByRecursion P (frames_of bytes)
each_live P lawful l number [] live = tt
each_live P lawful l number (b ∷ bs) live =
    let v = version_at l.old_to number in
    all_append P (segment_frames b) (frames_of bs)
    (all_mapped (IsFrameIn v l.m (limit_at l number)) P (segment_frames b) (lawful v l.m (limit_at l number)) live.0.whole.each)
    (each_live P lawful l (number + 1) bs live.1)

pub each_counted : (P : Frame → Type 0) → ((v m f : ℕ) (x : Frame) → IsFrameIn v m f x → P x) → (c : Contents) → IsSound c → AllByRecursion P (counted c)
each_counted P lawful c sound =
    all_filtered P (λ f. is_before_next c.next f.number) (frames_of (image c).bytes)
    (each_live P lawful (limits_of (image c) sound.holds.live.0) c.number (image c).bytes sound.holds.live.1)
