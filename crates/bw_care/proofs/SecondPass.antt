-- The second pass, as far as it went.

use Rattle.std.proofs.Common.{◌≡◌, ℕ, zero, suc, ◌+◌, ◌-◌, ◌<◌, Option, Some, None, Result, Err, IfErr, List, [], ◌∷◌, ◌++◌, length, drop, map}
use Rattle.std.proofs.Common.{slice_get, get_or, IfSome, refl, sym, ap, subst, ◌∙◌, append_assoc, append-nil, arith}
use Rattle.std.specs.BTreeMap as tree
use Rattle.std.proofs.lemmas.List.{length-map}
use Rattle.bw_codec.specs.Reading.{front_at, heading_of}
use Rattle.bw_record.specs.declared.block.Place.{Place}
use Rattle.bw_record.specs.declared.block.Block.{Block}
use Rattle.bw_record.specs.declared.block.Frame.{Frame}
use Rattle.bw_codec.specs.declared.head.Header.{Header}
use Rattle.bw_codec.specs.declared.head.HeaderRead.TheVariants as heading
use Rattle.bw_device.specs.Holding.{Holding}
use Rattle.bw_log.specs.Places.{all_placed, bad_link}
use Rattle.bw_log.specs.Segments.{frames_at, segment_frames, frames_of}
use Rattle.bw_log.specs.declared.places.FrameAt.{FrameAt}
use Rattle.bw_care.specs.Behind.{frames_behind, EndsInTail}
use Rattle.bw_care.specs.Forward.{IsFramed, AreReady, ForwardStops, IsForward}
use Rattle.bw_care.specs.Planned.{as_cause}
use Rattle.bw_lines.specs.Reading.{IsRead, LinkFaultIs}
use Rattle.bw_lines.specs.declared.links.Line.{Line}
use Rattle.bw_lines.specs.declared.links.ReadFault.{ReadFault}
use Rattle.bw_lines.specs.declared.links.ReadFault.TheVariants as read
use Rattle.bw_lines.specs.declared.cause.RecoverCause.{RecoverCause}
use Rattle.bw_care.proofs.FrontsRead.{IsReadTo, ends_bad, bad_there}
use Rattle.bw_care.proofs.PassSoFar.{there_is}
use Rattle.bw_lines.proofs.FramesJoined.{placed_join}

-- ---- one segment

-- the frames that were read, one more, and the rest
pub frames_around : (head : Header) (bytes : List ℕ) (at : ℕ) (seen : List Frame) (told : List FrameAt) (frame : Frame)
    → IsReadTo head bytes at (seen ++ frame ∷ []) told → (more : List Frame) × (seen ++ frame ∷ more ≡ frames_behind head bytes)
frames_around head bytes at seen told frame r =
    let more = (frames_at (length bytes - length (seen ++ frame ∷ [])) head.version head.m head.f (drop at bytes)).0 in
    (more, sym (append_assoc seen (frame ∷ []) more) ∙ sym (ap (λ (x : List Frame × List ℕ). x.0) r.read))

-- bytes that end in a tail have nothing else after their frames
pub never_bad : (head : Header) (bytes : List ℕ) (at : ℕ) (seen : List Frame) (told : List FrameAt) → EndsInTail head bytes → IsReadTo head bytes at seen told
    → front_at head.version head.m head.f (drop at bytes) ≡ None → ⊥
never_bad head bytes at seen told ends r none =
    let bad = bad_there head bytes at seen (ends_bad head bytes at seen told r none) none in
    (let e : Some at ≡ None = sym bad ∙ ends in absurd cc)

-- a segment's frames stand after the header that is read
pub framed_header : (bytes : List ℕ) (h : Header) (x : IsFramed bytes) → heading_of bytes ≡ heading.Whole h → x.header ≡ h
framed_header bytes h x is = (let e : heading.Whole x.header ≡ heading.Whole h = sym x.read ∙ is in cc)

pub never_headless : (bytes : List ℕ) → IsFramed bytes → heading_of bytes ≡ heading.Bad → ⊥
never_headless bytes x is = (let e : heading.Whole x.header ≡ heading.Bad = sym x.read ∙ is in absurd cc)

-- ---- one box

-- a wrong link stops it, and no box has changed
pub link_stops_here : (first : ℕ) (blocks : List (Place × Block)) (old new : List Holding) (fault : ReadFault) (cause : RecoverCause) → new ≡ old
    → LinkFaultIs (bad_link first [] blocks) fault → cause ≡ as_cause fault → ForwardStops first blocks old cause new
link_stops_here first blocks old new read.NoMemory cause same wrong is = subst (λ (c : RecoverCause). ForwardStops first blocks old c new) (sym is) same
link_stops_here first blocks old new (read.BadLink p) cause same wrong is =
    subst (λ (c : RecoverCause). ForwardStops first blocks old c new) (sym is) (same, wrong)

some_told : (P : Holding → Type 0) (o : Option Holding) (h : Holding) → o ≡ Some h → IfSome o P → P h
some_told P (Some k) h is told = (let same : k ≡ h = cc in subst P same told)
some_told P None h is told = absurd cc

-- the bytes that a box lends are its own
pub lent_is : {R : Type 0} (now : R → List ℕ) (old hs : List Holding) (i : ℕ) (lent : Option R) (bytes : R) → hs ≡ old → i < length old
    → IfSome lent (λ b. IfSome (slice_get hs i) (λ h. now b ≡ h.bytes)) → lent ≡ Some bytes
    → (h : Holding) × (slice_get old i ≡ Some h) × (now bytes ≡ h.bytes)
lent_is now old hs i lent bytes same inside told is =
    let there = there_is old i inside in
    let of_bytes = subst (λ o. IfSome o (λ b. IfSome (slice_get hs i) (λ h. now b ≡ h.bytes))) is told in (
      there.0,
      there.1,
      some_told (λ h. now bytes ≡ h.bytes) (slice_get old i) there.0 there.1
          (subst (λ l. IfSome (slice_get l i) (λ h. now bytes ≡ h.bytes)) same of_bytes),
    )

-- what is known of the box is known of them
pub framed_lent : {R : Type 0} (now : R → List ℕ) (old hs : List Holding) (i : ℕ) (lent : Option R) (bytes : R) → hs ≡ old → i < length old
    → IfSome lent (λ b. IfSome (slice_get hs i) (λ h. now b ≡ h.bytes)) → lent ≡ Some bytes
    → IfSome (slice_get old i) (λ h. IsFramed h.bytes) → IsFramed (now bytes)
framed_lent now old hs i lent bytes same inside told is framed =
    let b = lent_is now old hs i lent bytes same inside told is in
    subst IsFramed (sym b.2) (some_told (λ h. IsFramed h.bytes) (slice_get old i) b.0 b.1 framed)

-- and what they were found to say it says
pub found_lent : {R : Type 0} (now : R → List ℕ) (P : List ℕ → Type 0) (old hs : List Holding) (i : ℕ) (lent : Option R) (bytes : R) → hs ≡ old
    → i < length old → IfSome lent (λ b. IfSome (slice_get hs i) (λ h. now b ≡ h.bytes)) → lent ≡ Some bytes → P (now bytes)
    → IfSome (slice_get old i) (λ h. P h.bytes)
found_lent now P old hs i lent bytes same inside told is one =
    let b = lent_is now old hs i lent bytes same inside told is in
    subst (λ o. IfSome o (λ h. P h.bytes)) (sym b.1) (subst P b.2 one)

-- what was found in the box stops it
pub box_stops : (first : ℕ) (done rest : List (Place × Block)) (old new : List Holding) (was is : tree.BTreeMap ℕ Line) (o : Option Holding) (h : Holding)
    (found : Result (Unit {0}) ReadFault) (fault : ReadFault) (cause : RecoverCause) → o ≡ Some h
    → IfSome o (λ k. IsForward first k.bytes was found is) → found ≡ Err fault → new ≡ old → IsRead first done was → cause ≡ as_cause fault
    → ForwardStops first (done ++ (all_placed (segment_frames h.bytes) ++ rest)) old cause new
box_stops first done rest old new was is o h found fault cause there told err same read cause_is =
    let f = some_told (λ k. IsForward first k.bytes was found is) o h there told in
    link_stops_here first (done ++ (all_placed (segment_frames h.bytes) ++ rest)) old new fault cause same
    (subst (λ (r : Result (Unit {0}) ReadFault). IfErr r (LinkFaultIs (bad_link first [] (done ++ (all_placed (segment_frames h.bytes) ++ rest))))) err
    (f.fault done rest read)) cause_is

pub stops_there : (first : ℕ) (blocks all : List (Place × Block)) (old now new : List Holding) (cause : RecoverCause) → blocks ≡ all → now ≡ old
    → ForwardStops first blocks now cause new → ForwardStops first all old cause new
stops_there first blocks all old now new cause same boxes s =
    subst (λ (l : List Holding). ForwardStops first all l cause new) boxes (subst (λ (l : List (Place × Block)). ForwardStops first l now cause new) same s)

-- ---- all boxes

got_inside : (hs : List Holding) (i : ℕ) (h : Holding) → slice_get hs i ≡ Some h → i < length hs
got_inside [] i h is = absurd cc
got_inside (k ∷ hs) zero h is = omega arith
got_inside (k ∷ hs) (suc i) h is = (let less = got_inside hs i h is in omega arith)

pub place_inside : {X : Type 0} (v : X → Holding) (xs : List X) (old : List Holding) (place : ℕ) (h : Holding) → map v xs ≡ old
    → slice_get old place ≡ Some h → place < length xs
place_inside v xs old place h same there =
    let less = got_inside old place h there in
    omega (arith, ap (λ (l : List Holding). length l) same, length-map xs v)

-- the next segment that is ready
pub record Next (boxes : List Holding) (place : ℕ) (places : List ℕ) (hs : List Holding) : Type 0 where
  pub here : Holding
  pub rest : List Holding
  pub is : hs ≡ here ∷ rest
  pub at : slice_get boxes place ≡ Some here
  pub framed : IsFramed here.bytes
  pub ready : AreReady boxes places rest

pub next_ready : (boxes : List Holding) (places : List ℕ) (n : ℕ) (hs : List Holding) → n < length places
    → AreReady boxes (drop n places) hs → Next boxes (get_or places n 0) (drop (n + 1) places) hs
next_ready boxes [] n hs inside ready = absurd (omega arith)
next_ready boxes (p ∷ ps) zero [] inside ready = absurd ready
next_ready boxes (p ∷ ps) zero (h ∷ hs) inside ready =
    record { here = h; rest = hs; is = refl; at = ready.0; framed = ready.1; ready = ready.2 }
next_ready boxes (p ∷ ps) (suc n) hs inside ready =
    let next : suc (n + 1) ≡ suc n + 1 = omega arith in
    subst (λ (k : ℕ). Next boxes (get_or ps n 0) (drop k (p ∷ ps)) hs) next (next_ready boxes ps n hs (omega arith) ready)

-- one more segment was read
pub segment_more : (seen : List Holding) (h : Holding)
    → all_placed (frames_of (map (λ x. x.bytes) seen)) ++ all_placed (segment_frames h.bytes)
    ≡ all_placed (frames_of (map (λ x. x.bytes) (seen ++ h ∷ [])))
segment_more [] h = sym (placed_join (segment_frames h.bytes) [] ∙ append-nil (all_placed (segment_frames h.bytes)))
segment_more (k ∷ seen) h =
    ap (λ (l : List (Place × Block)). l ++ all_placed (segment_frames h.bytes))
    (placed_join (segment_frames k.bytes) (frames_of (map (λ x. x.bytes) seen)))
    ∙ append_assoc (all_placed (segment_frames k.bytes)) (all_placed (frames_of (map (λ x. x.bytes) seen))) (all_placed (segment_frames h.bytes))
    ∙ ap (λ (l : List (Place × Block)). all_placed (segment_frames k.bytes) ++ l) (segment_more seen h)
    ∙ sym (placed_join (segment_frames k.bytes) (frames_of (map (λ x. x.bytes) (seen ++ h ∷ []))))

-- the blocks of all, around one segment
pub segments_around : (seen : List Holding) (h : Holding) (rest : List Holding)
    → all_placed (frames_of (map (λ x. x.bytes) seen)) ++ (all_placed (segment_frames h.bytes) ++ all_placed (frames_of (map (λ x. x.bytes) rest)))
    ≡ all_placed (frames_of (map (λ x. x.bytes) (seen ++ h ∷ rest)))
segments_around [] h rest = sym (placed_join (segment_frames h.bytes) (frames_of (map (λ x. x.bytes) rest)))
segments_around (k ∷ seen) h rest =
    ap (λ (l : List (Place × Block)). l ++ (all_placed (segment_frames h.bytes) ++ all_placed (frames_of (map (λ x. x.bytes) rest))))
    (placed_join (segment_frames k.bytes) (frames_of (map (λ x. x.bytes) seen)))
    ∙ append_assoc (all_placed (segment_frames k.bytes)) (all_placed (frames_of (map (λ x. x.bytes) seen)))
    (all_placed (segment_frames h.bytes) ++ all_placed (frames_of (map (λ x. x.bytes) rest)))
    ∙ ap (λ (l : List (Place × Block)). all_placed (segment_frames k.bytes) ++ l) (segments_around seen h rest)
    ∙ sym (placed_join (segment_frames k.bytes) (frames_of (map (λ x. x.bytes) (seen ++ h ∷ rest))))
