-- What a read of one box leaves of the log.

use Rattle.std.proofs.Common.{◌≡◌, ℕ, Bool, true, false, if◌then◌else◌, MatchOption, None, nat_le, le-leb, ◌+◌, ◌-◌, ◌<◌, ◌≤◌, List, [], ◌∷◌, ◌++◌}
use Rattle.std.proofs.Common.{length, zero, suc, ◌^◌}
use Rattle.std.proofs.Common.{take, drop, length-append, map, get_or, set, slice_get, Option, Some, IfSome, refl, sym, ap, subst, ◌∙◌, arith}
use Rattle.std.specs.List.{AllByRecursion}
use Rattle.std.proofs.lemmas.List.{get_or-set_same, length-set, take_at, drop_at, take_all}
use Rattle.std.proofs.lemmas.Option.{slice_get-get_or, slice_get_within, get_or_from_slice_get}
use Rattle.std.proofs.Math.Seq.{map-set_same}
use Rattle.bw_device.specs.Holding.{Holding, failed_once}
use Rattle.bw_device.specs.Boxes.{ChangedAt}
use Rattle.bw_log.proofs.Asked.{found}
use Rattle.bw_log.proofs.Fields.{both_fields, bounded_same}
use Rattle.bw_log.specs.Contents.{Contents, image, counted, counted_in, AreTorn, IsImage, IsSound, IsBounded}
use Rattle.bw_log.specs.Reads.{IsKept, FailedRead, StopsAt, IsLineIn}
use Rattle.bw_log.specs.Starts.{starts_of}
use Rattle.bw_log.specs.Walking.{StandsAt}
use Rattle.bw_log.specs.declared.places.FrameAt.{FrameAt}
use Rattle.bw_log.specs.declared.fault.LogFault.{LogFault}
use Rattle.bw_log.specs.declared.fault.LogFault.TheVariants.{NoMemory, BadConfig, NoSegment, Device, Failed, Spent, NoPage}
use Rattle.bw_codec.specs.Grammar.{frame_bytes_in, IsFrameIn}
use Rattle.bw_log.specs.Segments.{version_at, limit_at}
use Rattle.bw_record.specs.declared.block.Frame.{Frame}
use Rattle.bw_log.proofs.Entries.{line_at}

-- only the list of live segments changed
abbrev pub with_live : Contents → List Holding → Contents
with_live c live = record c { live = live }

pub failed_read : (old : Contents) (live : List Holding) (at lease : ℕ) → ChangedAt (λ h k. k ≡ failed_once h) at old.live live
    → IfSome (slice_get live at) (λ h. lease ≡ h.lease)
    → FailedRead (λ i. i ≡ at) lease old (with_live old live)
failed_read old live at lease changed named =
    let inside : at < length old.live = slice_get_within old.live at changed.before changed.was in
    let there : slice_get live at ≡ Some changed.after =
    ap (λ (l : List Holding). slice_get l at) changed.is
    ∙ slice_get-get_or (set old.live at changed.after) at changed.before (omega (arith, length-set old.live at changed.after))
    ∙ ap (λ (h : Holding). Some h) (get_or-set_same old.live at changed.after changed.before inside) in
    let lease_is : lease ≡ changed.after.lease = subst (λ (o : Option Holding). IfSome o (λ h. lease ≡ h.lease)) there named in
    record {
      at = at;
      read = refl;
      segment = changed.before;
      was = changed.was;
      named = ap (λ (h : Holding). h.lease) (sym changed.steps) ∙ sym lease_is;
      is = ap (with_live old) (changed.is ∙ ap (set old.live at) changed.steps);
    }

-- what a failed read leaves, of boxes
pub failed_box : {X : Type 0} (v : X → Holding) (old : Contents) (ys zs : List X) (at lease : ℕ)
    → ChangedAt (λ h k. k ≡ failed_once h) at old.live (map v ys) → zs ≡ ys
    → IfSome (slice_get (map v zs) at) (λ h. lease ≡ h.lease) → FailedRead (λ i. i ≡ at) lease old (with_live old (map v ys))
failed_box {X} v old ys zs at lease changed same named =
    failed_read old (map v ys) at lease changed (subst (λ (l : List X). IfSome (slice_get (map v l) at) (λ h. lease ≡ h.lease)) same named)

-- ---- a line of the table, in its box

box_at : (hs : List Holding) (older : List (List ℕ)) (b : List ℕ) (newer : List (List ℕ)) → map (λ h. h.bytes) hs ≡ older ++ b ∷ newer
    → (length older < length hs) × (h : Holding) × (slice_get hs (length older) ≡ Some h) × (h.bytes ≡ b)
box_at [] [] b newer split = absurd cc
box_at [] (o ∷ older) b newer split = absurd cc
box_at (h ∷ hs) [] b newer split = (omega arith, h, refl, cc)
box_at (h ∷ hs) (o ∷ older) b newer split =
    let tails : map (λ h. h.bytes) hs ≡ older ++ b ∷ newer = cc in
    let there = box_at hs older b newer tails in
    (let inside = there.0 in omega arith, there.1, there.2, there.3)

-- the k-th counted frame: the index of its box, and its bytes there
pub record BoxedLine (c : Contents) (k : ℕ) (line : FrameAt) : Type 0 where
  pub frame : Frame
  pub stands : StandsAt (counted c) k frame
  pub limit : ℕ
  pub lawful : IsFrameIn (version_at c.old_to line.segment) c.m limit frame
  pub from_first : c.number ≤ line.segment
  pub inside : line.segment - c.number < length c.live
  pub box : Holding
  pub there : slice_get c.live (line.segment - c.number) ≡ Some box
  pub within : line.at + line.len ≤ length box.bytes
  pub spelled : take line.len (drop line.at box.bytes) ≡ frame_bytes_in (version_at c.old_to line.segment) frame
  pub numbered : line.number ≡ frame.number
  pub size : line.len ≡ length (frame_bytes_in (version_at c.old_to line.segment) frame)
  pub begins : line.starts ≡ starts_of (version_at c.old_to line.segment) frame

pub boxed_line : (c : Contents) (k : ℕ) (line : FrameAt) → IsSound c → k < length c.frames → line ≡ get_or c.frames k line → BoxedLine c k line
boxed_line c k line sound inside is =
    let l = line_at (image c) k line sound.holds inside is in
    let e = l.entry.stands in
    let names = e.names in
    let at = e.at in
    let len = e.len in
    let index : line.segment - c.number ≡ length l.entry.older = omega arith in
    let box = box_at c.live l.entry.older l.entry.bytes l.entry.newer l.entry.split in
    let there : slice_get c.live (line.segment - c.number) ≡ Some box.1 = ap (slice_get c.live) index ∙ box.2 in
    let v = version_at l.limits.old_to (c.number + length l.entry.older) in
    let version : v ≡ version_at c.old_to line.segment =
    ap (λ (n : ℕ). version_at n (c.number + length l.entry.older)) l.of_old ∙ ap (version_at c.old_to) (sym names) in
    let parts : box.1.bytes ≡ e.front ++ (frame_bytes_in v l.frame ++ e.back) = box.3 ∙ e.parts in
    let spelled : take line.len (drop line.at box.1.bytes) ≡ frame_bytes_in v l.frame =
    ap (λ (r : List ℕ). take line.len (drop line.at r)) parts
    ∙ ap (take line.len) (drop_at e.front (frame_bytes_in v l.frame ++ e.back) line.at (sym at))
    ∙ take_at (frame_bytes_in v l.frame) e.back line.len (sym len) in
    let limit = limit_at l.limits (c.number + length l.entry.older) in
    let first = box.0 in
    record {
      frame = l.frame;
      stands = l.stands;
      limit = limit;
      lawful = subst (λ (n : ℕ). IsFrameIn n c.m limit l.frame) version
          (subst (λ (n : ℕ). IsFrameIn v n limit l.frame) l.of_pages e.lawful);
      from_first = omega arith;
      inside = omega arith;
      box = box.1;
      there = there;
      within = omega (
        arith,
        ap (λ (r : List ℕ). length r) parts,
        length-append e.front (frame_bytes_in v l.frame ++ e.back),
        length-append (frame_bytes_in v l.frame) e.back,
      );
      spelled = spelled ∙ ap (λ (n : ℕ). frame_bytes_in n l.frame) version;
      numbered = e.numbered;
      size = len ∙ ap (λ (n : ℕ). length (frame_bytes_in n l.frame)) version;
      begins = e.begins ∙ ap (λ (n : ℕ). starts_of n l.frame) version;
    }

pub line_within : {c : Contents} {k : ℕ} {line : FrameAt} (l : BoxedLine c k line)
    → IfSome (slice_get c.live (line.segment - c.number)) (λ h. line.at + line.len ≤ length h.bytes)
line_within {c} {k} {line} l = subst (λ (o : Option Holding). IfSome o (λ h. line.at + line.len ≤ length h.bytes)) (sym l.there) l.within

pub line_bytes : {c : Contents} {k : ℕ} {line : FrameAt} (l : BoxedLine c k line) (none bytes : List ℕ) → none ≡ []
    → IfSome (slice_get c.live (line.segment - c.number)) (λ h. bytes ≡ none ++ take line.len (drop line.at h.bytes))
    → bytes ≡ frame_bytes_in (version_at c.old_to line.segment) l.frame
line_bytes {c} {k} {line} l none bytes empty read =
    subst (λ (o : Option Holding). IfSome o (λ h. bytes ≡ none ++ take line.len (drop line.at h.bytes))) l.there read
    ∙ ap (λ (n : List ℕ). n ++ take line.len (drop line.at l.box.bytes)) empty
    ∙ l.spelled

-- ---- reads leave a sound log

same_image : (old : Contents) (live : List Holding) → map (λ h. h.bytes) live ≡ map (λ h. h.bytes) old.live → image old ≡ image (with_live old live)
same_image old live same = ap (λ (b : List (List ℕ)). record (image old) { bytes = b }) (sym same)

-- one live segment changed in a way that leaves this of it
same_at : {A : Type 0} (g : Holding → A) (hs : List Holding) (at : ℕ) (h k : Holding) → slice_get hs at ≡ Some h → g k ≡ g h → map g (set hs at k) ≡ map g hs
same_at g hs at h k was same = map-set_same g hs at k h (same ∙ ap g (sym (get_or_from_slice_get hs at h h was)))

sound_failed : (reads : ℕ → Type 0) (old new : Contents) (lease : ℕ) → IsSound old → FailedRead reads lease old new → IsSound new
sound_failed reads old new lease sound failed =
    let live = set old.live failed.at (failed_once failed.segment) in
    let few = sound.few in
    let bytes = same_at (λ (h : Holding). h.bytes) old.live failed.at failed.segment (failed_once failed.segment) failed.was refl in
    let rooms = same_at (λ (h : Holding). h.room) old.live failed.at failed.segment (failed_once failed.segment) failed.was refl in
    let sound_live : IsSound (with_live old live) = record {
      few = omega (arith, length-set old.live failed.at (failed_once failed.segment));
      bounds = bounded_same old.live live rooms sound.bounds;
      rooms = sound.rooms;
      empty = sound.empty;
      torn = λ f. subst (λ (n : ℕ). AreTorn (old.number + n) old.m old.f old.spares)
          (sym (length-set old.live failed.at (failed_once failed.segment))) (sound.torn f);
      holds = subst IsImage (same_image old live bytes) sound.holds;
    } in
    subst IsSound (sym failed.is) sound_live

pub kept_same : (old new : Contents) → new ≡ old → IsKept old new
kept_same old new e = subst (λ (c : Contents). IsKept old c) (sym e) (record { same = refl; counts = refl; spares = refl; leases = refl; rooms = refl })

kept_failed : (reads : ℕ → Type 0) (old new : Contents) (lease : ℕ) → FailedRead reads lease old new → IsKept old new
kept_failed reads old new lease failed =
    let live = set old.live failed.at (failed_once failed.segment) in
    let bytes = same_at (λ (h : Holding). h.bytes) old.live failed.at failed.segment (failed_once failed.segment) failed.was refl in
    let rooms = same_at (λ (h : Holding). h.room) old.live failed.at failed.segment (failed_once failed.segment) failed.was refl in
    let leases = same_at (λ (h : Holding). h.lease) old.live failed.at failed.segment (failed_once failed.segment) failed.was refl in
    let same = same_image old live bytes in
    let kept : IsKept old (with_live old live) = record {
      same = sym same;
      counts = ap counted_in (sym same);
      spares = refl;
      leases = both_fields (λ (h : Holding). h.lease) old.live old.spares live old.spares leases refl;
      rooms = rooms;
    } in
    subst (IsKept old) (sym failed.is) kept

pub kept_after : (reads : ℕ → Type 0) (old new : Contents) (fault : LogFault) → StopsAt reads old fault new → IsKept old new
kept_after reads old new NoMemory stops = kept_same old new stops
kept_after reads old new (Device lease) stops = kept_failed reads old new lease stops
kept_after reads old new BadConfig stops = absurd stops
kept_after reads old new NoSegment stops = absurd stops
kept_after reads old new Failed stops = absurd stops
kept_after reads old new Spent stops = kept_same old new stops.0
kept_after reads old new NoPage stops = kept_same old new stops

pub sound_after : (reads : ℕ → Type 0) (old new : Contents) (fault : LogFault) → IsSound old → StopsAt reads old fault new → IsSound new
sound_after reads old new NoMemory sound stops = subst IsSound (sym stops) sound
sound_after reads old new (Device lease) sound stops = sound_failed reads old new lease sound stops
sound_after reads old new BadConfig sound stops = absurd stops
sound_after reads old new NoSegment sound stops = absurd stops
sound_after reads old new Failed sound stops = absurd stops
sound_after reads old new Spent sound stops = subst IsSound (sym stops.0) sound
sound_after reads old new NoPage sound stops = subst IsSound (sym stops) sound

-- a refusal that is handed on
pub stops_as : (reads others : ℕ → Type 0) (old new : Contents) (fault : LogFault) → ((i : ℕ) → reads i → others i) → StopsAt reads old fault new
    → StopsAt others old fault new
stops_as reads others old new NoMemory more stops = stops
stops_as reads others old new (Device lease) more stops =
    record { at = stops.at; read = more stops.at stops.read; segment = stops.segment; was = stops.was; named = stops.named; is = stops.is }
stops_as reads others old new BadConfig more stops = stops
stops_as reads others old new NoSegment more stops = stops
stops_as reads others old new Failed more stops = stops
stops_as reads others old new Spent more stops =
    (stops.0, let worn = stops.1 in record { at = worn.at; read = more worn.at worn.read; segment = worn.segment; is = worn.is; greatest = worn.greatest })
stops_as reads others old new NoPage more stops = stops

-- what a refused read leaves, if the log had not changed before
pub stops_since : (reads others : ℕ → Type 0) (old now new : Contents) (fault : LogFault) → now ≡ old → ((i : ℕ) → reads i → others i)
    → StopsAt reads now fault new → StopsAt others old fault new
stops_since reads others old now new fault same more stops =
    subst (λ (c : Contents). StopsAt others c fault new) same (stops_as reads others now new fault more stops)

-- ---- which segment has to be read

pub in_line : (c : Contents) (k : ℕ) (line : FrameAt) → IsSound c → k < length c.frames → line ≡ get_or c.frames k line → (j : ℕ)
    → j ≡ line.segment - c.number → IsLineIn c k j
in_line c k line sound inside is j at =
    let first = (boxed_line c k line sound inside is).from_first in
    record { line = line; told = slice_get-get_or c.frames k line inside ∙ ap (λ (l : FrameAt). Some l) (sym is); inside = omega arith }

-- ---- a segment's bytes, all of them

-- a number of bytes that a live segment has room for
pub short : {X : Type 0} (v : X → Holding) (xs : List X) (i n : ℕ) → AllByRecursion IsBounded (map v xs) → i < length xs
    → IfSome (slice_get (map v xs) i) (λ h. n ≤ h.room) → n < 2 ^ 32
short v [] i n bounds inside within = absurd (omega arith)
short v (x ∷ xs) zero n bounds inside within = omega (arith, bounds.0, within)
short v (x ∷ xs) (suc i) n bounds inside within = short v xs i n bounds.1 (omega arith) within

pub dumped : {X : Type 0} (v : X → Holding) (number : ℕ) (xs : List X) (segment len : ℕ) (out new : List ℕ) → number ≤ segment → segment - number < length xs
    → IfSome (slice_get (map v xs) (segment - number)) (λ h. len ≡ length h.bytes)
    → IfSome (slice_get (map v xs) (segment - number)) (λ h. new ≡ out ++ take len (drop 0 h.bytes))
    → MatchOption (if nat_le number segment then slice_get (map v xs) (segment - number) else None) ((true ≡ false) × (new ≡ out))
    (λ h. (true ≡ true) × (new ≡ out ++ h.bytes))
dumped v number xs segment len out new from inside long read =
    let box = found v xs (segment - number) inside in
    let at : (if nat_le number segment then slice_get (map v xs) (segment - number) else None) ≡ Some box.0 =
    ap (λ (b : Bool). if b then slice_get (map v xs) (segment - number) else None) (le-leb number segment from) ∙ box.1 in
    let size : len ≡ length box.0.bytes = subst (λ (o : Option Holding). IfSome o (λ h. len ≡ length h.bytes)) box.1 long in
    let is : new ≡ out ++ take len box.0.bytes = subst (λ (o : Option Holding). IfSome o (λ h. new ≡ out ++ take len (drop 0 h.bytes))) box.1 read in
    subst (λ (o : Option Holding). MatchOption o ((true ≡ false) × (new ≡ out)) (λ h. (true ≡ true) × (new ≡ out ++ h.bytes))) (sym at)
    (refl, is ∙ ap (λ (l : List ℕ). out ++ l) (take_all len box.0.bytes (omega arith)))
