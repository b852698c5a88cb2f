-- What a failed append left, as the box that it changed says it.

use Rattle.std.proofs.Common.{◌≡◌, ℕ, ◌+◌, ◌-◌, ◌<◌, Option, Some, None, IfSome, List, [], ◌∷◌, ◌++◌, length, set, refl, sym, ap, subst, ◌∙◌, append_assoc}
use Rattle.std.proofs.Common.{arith, length-append}
use Rattle.std.specs.List.{slice_get}
use Rattle.std.proofs.lemmas.List.{set_at}
use Rattle.bw_device.specs.Holding.{Holding, appended, IsTorn, torn_at}
use Rattle.bw_device.specs.Boxes.{ChangedAt}
use Rattle.std.specs.Prelude.{map, true, nat_lt, ◌^◌}
use Rattle.std.specs.Option.{SomeIff}
use Rattle.std.proofs.lemmas.Bool.{cond-true, cond-false, le-ltb, lt-ltb}
use Rattle.bw_log.specs.Starts.{starts_of}
use Rattle.bw_log.specs.Segments.{header_with, following, entry_of}
use Rattle.bw_log.specs.PageTable.{noted_all, grown_to, top_page}
use Rattle.bw_log.specs.declared.places.FrameAt.{FrameAt}
use Rattle.bw_log.specs.declared.places.PageAt.{PageAt}
use Rattle.std.proofs.lemmas.List.{length-map}
use Rattle.bw_record.specs.Version.{latest}
use Rattle.bw_codec.specs.Grammar.{header_bytes, frame_bytes}
use Rattle.bw_record.specs.declared.block.Frame.{Frame}
use Rattle.bw_log.specs.Contents.{Contents}
use Rattle.bw_log.specs.Appending.{SpareTorn, FramePut, FrameTorn, with_frame, length_of}
use Rattle.bw_log.specs.Appends.{header_of, with_first, with_last, torn, last_of, Rose}
use Rattle.bw_log.proofs.Stepped.{ends, with_last_at, last_of_at}

get_at : {X : Type 0} (xs : List X) (y : X) (ys : List X) → slice_get (xs ++ y ∷ ys) (length xs) ≡ Some y
get_at [] y ys = refl
get_at (x ∷ xs) y ys = get_at xs y ys

pub some_is : {X : Type 0} {a b : X} → Some a ≡ Some b → a ≡ b
some_is e = cc

-- one box among others failed once more
rose_at : (xs ys : List Holding) (h k : Holding) (lease : ℕ) → h.lease ≡ lease → k.failed ≡ h.failed + 1 → Rose lease (xs ++ h ∷ ys) (xs ++ k ∷ ys)
rose_at xs ys h k lease named counts = record
    { at = length xs; before = h; after = k; was = get_at xs h ys; is = get_at xs k ys; named = named; counts = counts }

-- the first spare has a beginning of a piece
pub record FirstTorn (live spares new : List Holding) (piece : List ℕ) (lease : ℕ) : Type 0 where
  pub kept : ℕ
  pub is : new ≡ with_first (torn kept piece) spares
  pub rose : Rose lease (live ++ spares) (live ++ new)

pub first_torn : (live spares new : List Holding) (piece : List ℕ) (lease : ℕ) → ChangedAt (λ h k. IsTorn h piece k) 0 spares new
    → IfSome (slice_get new 0) (λ h. lease ≡ h.lease) → FirstTorn live spares new piece lease
first_torn live [] new piece lease c told = absurd (let e = c.was in cc)
first_torn live (s ∷ ss) new piece lease c told =
    let before : s ≡ c.before = some_is c.was in
    let n = c.steps.0 in
    let after : c.after ≡ torn_at n s piece = c.steps.1 ∙ ap (λ (h : Holding). torn_at n h piece) (sym before) in
    let is : new ≡ torn_at n s piece ∷ ss = c.is ∙ ap (λ (h : Holding). h ∷ ss) after in
    let named : lease ≡ s.lease = subst (λ (hs : List Holding). IfSome (slice_get hs 0) (λ h. lease ≡ h.lease)) is told in
    record {
      kept = n;
      is = is;
      rose = subst (λ (hs : List Holding). Rose lease (live ++ s ∷ ss) (live ++ hs)) (sym is)
          (rose_at live ss s (torn_at n s piece) lease (sym named) refl);
    }

-- the last live segment has a beginning of a piece
pub record LastTorn (live spares new : List Holding) (piece : List ℕ) (lease : ℕ) : Type 0 where
  pub kept : ℕ
  pub is : new ≡ with_last (torn kept piece) live
  pub rose : Rose lease (live ++ spares) (new ++ spares)

-- the last of a list changed
last_changed : (step : Holding → Holding → Type 0) (live new older : List Holding) (h : Holding) (i : ℕ) → live ≡ older ++ h ∷ [] → i ≡ length live - 1
    → ChangedAt step i live new → (k : Holding) × (new ≡ older ++ k ∷ []) × step h k
last_changed step live new older h i split at c =
    let place : i ≡ length older = (let size = ap (λ (l : List Holding). length l) split in omega (arith, size, length-append older (h ∷ []))) in
    let there : slice_get live i ≡ Some h = ap (λ (l : List Holding). slice_get l i) split ∙ ap (λ (n : ℕ). slice_get (older ++ h ∷ []) n) place
    ∙ get_at older h [] in
    let before : h ≡ c.before = some_is (sym there ∙ c.was) in
    let is : new ≡ older ++ c.after ∷ [] = c.is ∙ ap (λ (l : List Holding). set l i c.after) split ∙ set_at older h [] c.after i (sym place) in
    (c.after, is, subst (λ (x : Holding). step x c.after) (sym before) c.steps)

pub last_appended : (live new : List Holding) (piece : List ℕ) (i : ℕ) → 0 < length live → i ≡ length live - 1
    → ChangedAt (λ h k. k ≡ appended h piece) i live new → new ≡ with_last (λ h. appended h piece) live
last_appended live new piece i some at c =
    let e = ends live some in
    let l = last_changed (λ h k. k ≡ appended h piece) live new e.older e.newest i e.split at c in
    l.1 ∙ ap (λ (k : Holding). e.older ++ k ∷ []) l.2
    ∙ sym (ap (with_last (λ h. appended h piece)) e.split ∙ with_last_at (λ h. appended h piece) e.older e.newest)

pub last_torn : (live spares new : List Holding) (piece : List ℕ) (lease i : ℕ) → 0 < length live → i ≡ length live - 1
    → ChangedAt (λ h k. IsTorn h piece k) i live new → IfSome (slice_get new i) (λ h. lease ≡ h.lease) → LastTorn live spares new piece lease
last_torn live spares new piece lease i some at c told =
    let e = ends live some in
    let l = last_changed (λ h k. IsTorn h piece k) live new e.older e.newest i e.split at c in
    let n = l.2.0 in
    let torn_one = torn_at n e.newest piece in
    let is : new ≡ e.older ++ torn_one ∷ [] = l.1 ∙ ap (λ (k : Holding). e.older ++ k ∷ []) l.2.1 in
    let place : i ≡ length e.older = (let size = ap (λ (x : List Holding). length x) e.split in omega (arith, size, length-append e.older (e.newest ∷ []))) in
    let there : slice_get new i ≡ Some torn_one =
    ap (λ (x : List Holding). slice_get x i) is ∙ ap (λ (k : ℕ). slice_get (e.older ++ torn_one ∷ []) k) place ∙ get_at e.older torn_one [] in
    let named : lease ≡ e.newest.lease = subst (λ (o : Option Holding). IfSome o (λ h. lease ≡ h.lease)) there told in
    let rose : Rose lease ((e.older ++ e.newest ∷ []) ++ spares) ((e.older ++ torn_one ∷ []) ++ spares) =
    subst (λ (x : List Holding). Rose lease x ((e.older ++ torn_one ∷ []) ++ spares)) (sym (append_assoc e.older (e.newest ∷ []) spares))
    (subst (λ (x : List Holding). Rose lease (e.older ++ e.newest ∷ spares) x) (sym (append_assoc e.older (torn_one ∷ []) spares))
    (rose_at e.older spares e.newest torn_one lease (sym named) refl)) in
    record {
      kept = n;
      is = is ∙ sym (ap (with_last (torn n piece)) e.split ∙ with_last_at (torn n piece) e.older e.newest);
      rose = subst (λ (x : List Holding). Rose lease (x ++ spares) (new ++ spares)) (sym e.split)
          (subst (λ (x : List Holding). Rose lease ((e.older ++ e.newest ∷ []) ++ spares) (x ++ spares)) (sym is) rose);
    }

-- ---- of a log

pub spare_told : (old : Contents) (spares : List Holding) (piece : List ℕ) (lease : ℕ) → piece ≡ header_bytes (header_of old)
    → ChangedAt (λ h k. IsTorn h piece k) 0 old.spares spares → IfSome (slice_get spares 0) (λ h. lease ≡ h.lease)
    → SpareTorn lease old (record old { spares = spares; is_failed = true })
spare_told old spares piece lease is changed told =
    let t = first_torn old.live old.spares spares piece lease changed told in
    record {
      kept = t.kept;
      is = ap (λ (s : List Holding). let c : Contents = record old { spares = s; is_failed = true } in c)
          (t.is ∙ ap (λ (b : List ℕ). with_first (torn t.kept b) old.spares) is);
      rose = t.rose;
    }

pub frame_told : (old : Contents) (live : List Holding) (x : Frame) (piece : List ℕ) (lease i : ℕ) → 0 < length old.live → i ≡ length old.live - 1
    → piece ≡ frame_bytes x → ChangedAt (λ h k. IsTorn h piece k) i old.live live → IfSome (slice_get live i) (λ h. lease ≡ h.lease)
    → FrameTorn lease old x (record old { live = live; is_failed = true })
frame_told old live x piece lease i some at is changed told =
    let t = last_torn old.live old.spares live piece lease i some at changed told in
    record {
      kept = t.kept;
      is = ap (λ (l : List Holding). let c : Contents = record old { live = l; is_failed = true } in c)
          (t.is ∙ ap (λ (b : List ℕ). with_last (torn t.kept b) old.live) is);
      rose = t.rose;
    }

-- a header's bytes, from the parts of a log
pub header_is : {X : Type 0} (v : X → Holding) (old : Contents) (xs : List X) (number count : ℕ) (cells : List ℕ) → old.live ≡ map v xs → count ≡ length xs
    → number ≡ old.number + count → cells ≡ header_bytes (header_with number old.m old.f) → cells ≡ header_bytes (header_of old)
header_is v old xs number count cells live size at is =
    let same : number ≡ old.number + length old.live =
    at ∙ ap (λ (n : ℕ). old.number + n) (size ∙ sym (length-map xs v) ∙ ap (λ (l : List Holding). length l) (sym live)) in
    is ∙ ap (λ (n : ℕ). header_bytes (header_with n old.m old.f)) same

pub begin_told : {X : Type 0} (v : X → Holding) (old : Contents) (xs : List X) (spares : List Holding) (number count : ℕ) (cells : List ℕ) (lease : ℕ)
    → old.live ≡ map v xs → count ≡ length xs → number ≡ old.number + count → cells ≡ header_bytes (header_with number old.m old.f)
    → ChangedAt (λ h k. IsTorn h cells k) 0 old.spares spares → IfSome (slice_get spares 0) (λ h. lease ≡ h.lease)
    → SpareTorn lease old (record old { spares = spares; is_failed = true })
begin_told v old xs spares number count cells lease live size at is changed told =
    spare_told old spares cells lease (header_is v old xs number count cells live size at is) changed told

-- the number after a frame's, as the code finds it
pub next_told : (n : ℕ) (o : Option ℕ) → SomeIff o (n + 1 < 2 ^ 64) (n + 1) → o ≡ following n
next_told n None iff = sym (cond-false (nat_lt (n + 1) (2 ^ 64)) (Some (n + 1)) None (le-ltb (n + 1) (2 ^ 64) (omega (arith, iff))))
next_told n (Some y) iff = ap (λ (k : ℕ). Some k) iff.1 ∙ sym (cond-true (nat_lt (n + 1) (2 ^ 64)) (Some (n + 1)) None (lt-ltb (n + 1) (2 ^ 64) iff.0))

-- the frame stands, and the tables say so
pub put_done : (old : Contents) (live : List Holding) (x : Frame) (piece : List ℕ) (i at : ℕ) (next : Option ℕ) (frames : List FrameAt)
    (grown pages : List PageAt)
    → 0 < length old.live → i ≡ length old.live - 1 → piece ≡ frame_bytes x → ChangedAt (λ h k. k ≡ appended h piece) i old.live live
    → IfSome (slice_get old.live i) (λ h. at ≡ length h.bytes)
    → frames ≡ old.frames ++ (record { number = x.number; segment = old.number + i; at = at; len = length piece; starts = starts_of latest x }) ∷ []
    → grown ≡ grown_to (top_page x.blocks) old.pages → pages ≡ noted_all x.number 0 x.blocks grown → next ≡ following x.number
    → FramePut old x (record old { live = live; next = next; frames = frames; pages = pages })
put_done old live x piece i at next frames grown pages some place is changed told frames_is grown_is pages_is next_is =
    let e = ends old.live some in
    let spot : i ≡ length e.older = (let size = ap (λ (l : List Holding). length l) e.split in omega (arith, size, length-append e.older (e.newest ∷ []))) in
    let there : slice_get old.live i ≡ Some e.newest =
    ap (λ (l : List Holding). slice_get l i) e.split ∙ ap (λ (n : ℕ). slice_get (e.older ++ e.newest ∷ []) n) spot ∙ get_at e.older e.newest [] in
    let at_is : at ≡ length_of (last_of old.live) =
    subst (λ (o : Option Holding). IfSome o (λ h. at ≡ length h.bytes)) there told
    ∙ sym (ap (λ (l : List Holding). length_of (last_of l)) e.split ∙ ap length_of (last_of_at e.older e.newest)) in
    let line : ◌≡◌ {A = FrameAt} (record { number = x.number; segment = old.number + i; at = at; len = length piece; starts = starts_of latest x })
    (entry_of latest (old.number + (length old.live - 1)) (length_of (last_of old.live)) x) =
    λ k. record { number = x.number; segment = old.number + place k; at = at_is k; len = length (is k); starts = starts_of latest x } in
    let live_is : live ≡ with_last (λ h. appended h (frame_bytes x)) old.live =
    last_appended old.live live piece i some place changed ∙ ap (λ (b : List ℕ). with_last (λ h. appended h b) old.live) is in
    let frames_all : frames ≡ (with_frame old x).frames = frames_is ∙ ap (λ (l : FrameAt). old.frames ++ l ∷ []) line in
    let pages_all : pages ≡ (with_frame old x).pages = pages_is ∙ ap (noted_all x.number 0 x.blocks) grown_is in
    record { is = λ k. record old { live = live_is k; next = next_is k; frames = frames_all k; pages = pages_all k } }

pub some_there : {X : Type 0} (v : X → Holding) (xs : List X) → 0 < length xs → 0 < length (map v xs)
some_there v xs some = omega (arith, length-map xs v)

pub last_there : {X : Type 0} (v : X → Holding) (xs : List X) (n : ℕ) → n ≡ length xs → n - 1 ≡ length (map v xs) - 1
last_there v xs n same = omega (arith, length-map xs v)

pub next_is : (n k : ℕ) (o : Option ℕ) → n ≡ k → o ≡ following n → o ≡ following k
next_is n k o same is = is ∙ ap following same
