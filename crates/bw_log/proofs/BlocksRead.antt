-- The bytes of one block among those of its frame and of its segment.

use Rattle.std.proofs.Common.{◌≡◌, ℕ, IfSome, zero, suc, ◌+◌, ◌-◌, ◌^◌, ◌<◌, ◌≤◌, Option, Some, None, Result, Ok, Err, List, [], ◌∷◌, ◌++◌, length}
use Rattle.std.proofs.Common.{map, take, drop, get_or, slice_get, refl, sym, ap, subst, ◌∙◌}
use Rattle.std.proofs.Common.{append_assoc, append-nil, arith, length-append}
use Rattle.std.specs.List.{AllByRecursion}
use Rattle.std.proofs.lemmas.List.{drop_at, take_at, take_all, take-append-drop, drop-drop, drop-take, length-drop}
use Rattle.std.proofs.lemmas.Grind.{flat_map-append}
use Rattle.std.proofs.lemmas.List.{length-map}
use Rattle.std.proofs.lemmas.Option.{slice_get-get_or, get_or_from_slice_get, slice_get_within}
use Rattle.bw_codec.specs.Grammar.{block_bytes_in, body_bytes_in, head_bytes_in, frame_bytes_in, IsBlockIn, IsFrameIn}
use Rattle.bw_record.specs.declared.block.Block.{Block}
use Rattle.bw_record.specs.declared.block.Frame.{Frame}
use Rattle.bw_codec.proofs.FrontFormat.{length-head}
use Rattle.bw_device.specs.Holding.{Holding}
use Rattle.bw_log.specs.Starts.{starts_from, starts_of, end_of, IsSpan}
use Rattle.bw_log.specs.Segments.{version_at}
use Rattle.bw_log.specs.Contents.{Contents, counted, IsSound}
use Rattle.bw_log.specs.BlockBytes.{IsSpelled, IsSpelledAt, BlockAt, IsSpot}
use Rattle.bw_log.specs.declared.blocks.Spot.{Spot}
use Rattle.bw_record.specs.declared.block.Place.{Place}
use Rattle.bw_log.specs.Places.{all_placed}
use Rattle.bw_log.specs.Walking.{PlacedAt}
use Rattle.bw_log.proofs.Walked.{numbered_at}
use Rattle.bw_log.specs.declared.places.FrameAt.{FrameAt}
use Rattle.bw_log.proofs.Entries.{all_between}
use Rattle.bw_log.specs.Reads.{IsLineIn, ReadStops}
use Rattle.bw_log.specs.declared.fault.LogFault.{LogFault}
use Rattle.bw_log.proofs.Fetched.{BoxedLine, boxed_line, stops_as}
use Rattle.bw_log.proofs.Looked.{gave}
use Rattle.bw_log.proofs.Walks.{same_before}

-- ---- where a block begins and ends

body_more : (v : ℕ) (xs ys : List Block) → body_bytes_in v (xs ++ ys) ≡ body_bytes_in v xs ++ body_bytes_in v ys
body_more v xs ys = flat_map-append (block_bytes_in v) xs ys

starts_here : (v at : ℕ) (front : List Block) (b : Block) (back : List Block)
    → slice_get (starts_from v at (front ++ b ∷ back)) (length front) ≡ Some (at + length (body_bytes_in v front))
starts_here v at [] b back = ap (λ (n : ℕ). Some n) (omega arith)
starts_here v at (x ∷ xs) b back =
    starts_here v (at + length (block_bytes_in v x)) xs b back
    ∙ ap (λ (n : ℕ). Some n) (omega (arith, length-append (block_bytes_in v x) (body_bytes_in v xs)))

ends_by : (v at len : ℕ) (b : Block) (back : List Block) → len ≡ at + length (body_bytes_in v (b ∷ back))
    → end_of len (slice_get (starts_from v (at + length (block_bytes_in v b)) back) 0) ≡ at + length (block_bytes_in v b)
ends_by v at len b [] is = is ∙ ap (λ (l : List ℕ). at + length l) (append-nil (block_bytes_in v b))
ends_by v at len b (c ∷ back) is = refl

index_next : (xs : List Block) → suc (length xs) + 1 ≡ suc (length xs + 1)
index_next xs = omega arith

ends_here : (v at len : ℕ) (front : List Block) (b : Block) (back : List Block) → len ≡ at + length (body_bytes_in v (front ++ b ∷ back))
    → end_of len (slice_get (starts_from v at (front ++ b ∷ back)) (length front + 1))
    ≡ at + (length (body_bytes_in v front) + length (block_bytes_in v b))
ends_here v at len [] b back is = ends_by v at len b back is ∙ (omega arith)
ends_here v at len (x ∷ xs) b back is =
    ap (λ (n : ℕ). end_of len (slice_get (starts_from v at (x ∷ xs ++ b ∷ back)) n)) (index_next xs)
    ∙ ends_here v (at + length (block_bytes_in v x)) len xs b back
    (omega (arith, is, length-append (block_bytes_in v x) (body_bytes_in v (xs ++ b ∷ back))))
    ∙ (omega (arith, length-append (block_bytes_in v x) (body_bytes_in v xs)))

-- a block among the bytes of its frame
pub record Within (v : ℕ) (bytes : List ℕ) (b : Block) (start : ℕ) : Type 0 where
  pub front : List ℕ
  pub back : List ℕ
  pub parts : bytes ≡ front ++ (block_bytes_in v b ++ back)
  pub at : length front ≡ start

within_frame : (v : ℕ) (frame : Frame) (front : List Block) (b : Block) (back : List Block) → frame.blocks ≡ front ++ b ∷ back
    → Within v (frame_bytes_in v frame) b (20 + length (body_bytes_in v front))
within_frame v frame front b back split =
    let body = body_bytes_in v frame.blocks in
    let head = head_bytes_in v frame.number (length body) (length frame.blocks) in
    record {
      front = head ++ body_bytes_in v front;
      back = body_bytes_in v back;
      parts = ap (λ (l : List ℕ). head ++ l) (ap (body_bytes_in v) split ∙ body_more v front (b ∷ back))
          ∙ sym (append_assoc head (body_bytes_in v front) (block_bytes_in v b ++ body_bytes_in v back));
      at = length-append head (body_bytes_in v front)
          ∙ ap (λ (n : ℕ). n + length (body_bytes_in v front)) (length-head v frame.number (length body) (length frame.blocks));
    }

len_frame : (v : ℕ) (frame : Frame) → length (frame_bytes_in v frame) ≡ 20 + length (body_bytes_in v frame.blocks)
len_frame v frame =
    let body = body_bytes_in v frame.blocks in
    length-append (head_bytes_in v frame.number (length body) (length frame.blocks)) body
    ∙ ap (λ (n : ℕ). n + length body) (length-head v frame.number (length body) (length frame.blocks))

some_same : (a b : ℕ) → Some a ≡ Some b → a ≡ b
some_same a b e = cc

-- what a span says of the block of its index
pub record Spans (v : ℕ) (frame : Frame) (b : Block) (span : ℕ × ℕ) : Type 0 where
  pub within : Within v (frame_bytes_in v frame) b span.0
  pub size : span.1 ≡ span.0 + length (block_bytes_in v b)
  pub fits : span.1 ≤ length (frame_bytes_in v frame)

pub spans : (v : ℕ) (frame : Frame) (front : List Block) (b : Block) (back : List Block) (starts : List ℕ) (len index : ℕ) (span : ℕ × ℕ)
    → frame.blocks ≡ front ++ b ∷ back → length front ≡ index → starts ≡ starts_of v frame → len ≡ length (frame_bytes_in v frame)
    → IsSpan starts len index span → Spans v frame b span
spans v frame front b back starts len index span split many same size is =
    let whole : starts ≡ starts_from v 20 (front ++ b ∷ back) = same ∙ ap (starts_from v 20) split in
    let from : span.0 ≡ 20 + length (body_bytes_in v front) = some_same span.0 (20 + length (body_bytes_in v front)) (
    sym is.from ∙ ap (λ (l : List ℕ). slice_get l index) whole ∙ ap (slice_get (starts_from v 20 (front ++ b ∷ back))) (sym many)
    ∙ starts_here v 20 front b back) in
    let total : len ≡ 20 + length (body_bytes_in v (front ++ b ∷ back)) =
    size ∙ len_frame v frame ∙ ap (λ (bs : List Block). 20 + length (body_bytes_in v bs)) split in
    let to : span.1 ≡ 20 + (length (body_bytes_in v front) + length (block_bytes_in v b)) =
    is.to ∙ ap (λ (l : List ℕ). end_of len (slice_get l (index + 1))) whole
    ∙ ap (λ (n : ℕ). end_of len (slice_get (starts_from v 20 (front ++ b ∷ back)) (n + 1))) (sym many)
    ∙ ends_here v 20 len front b back total in
    let w = within_frame v frame front b back split in
    let body = body_more v front (b ∷ back) in
    record {
      within = record { front = w.front; back = w.back; parts = w.parts; at = w.at ∙ sym from };
      size = omega arith;
      fits = omega (
        arith,
        ap (λ (l : List ℕ). length l) body,
        length-append (body_bytes_in v front) (block_bytes_in v b ++ body_bytes_in v back),
        length-append (block_bytes_in v b) (body_bytes_in v back),
      );
    }

-- ---- in its segment

take_take : (n m : ℕ) (xs : List ℕ) → n ≤ m → take n (take m xs) ≡ take n xs
take_take zero m xs less = refl
take_take (suc n) zero xs less = absurd (omega arith)
take_take (suc n) (suc m) [] less = refl
take_take (suc n) (suc m) (x ∷ xs) less = ap (λ (l : List ℕ). x ∷ l) (take_take n m xs (omega arith))

pub alone : (v : ℕ) (frame : Frame) (b : Block) (span : ℕ × ℕ) (bytes : List ℕ) (at len : ℕ) → Spans v frame b span
    → take len (drop at bytes) ≡ frame_bytes_in v frame → len ≡ length (frame_bytes_in v frame)
    → take (span.1 - span.0) (drop (at + span.0) bytes) ≡ block_bytes_in v b
alone v frame b span bytes at len s spelled size =
    let w = s.within in
    let n = span.1 - span.0 in
    let fits = s.fits in
    let long = s.size in
    let count : len ≡ span.0 + (len - span.0) = omega arith in
    let parts : take len (drop at bytes) ≡ w.front ++ (block_bytes_in v b ++ w.back) = spelled ∙ w.parts in
    ap (λ (l : List ℕ). take n l) (sym (drop-drop span.0 at bytes))
    ∙ sym (take_take n (len - span.0) (drop span.0 (drop at bytes)) (omega arith))
    ∙ ap (take n) (sym (drop-take span.0 (len - span.0) (drop at bytes)) ∙ ap (λ (k : ℕ). drop span.0 (take k (drop at bytes))) (sym count)
    ∙ ap (drop span.0) parts ∙ drop_at w.front (block_bytes_in v b ++ w.back) span.0 w.at)
    ∙ take_at (block_bytes_in v b) w.back n (omega arith)

-- ---- a counted frame and its spot

pub record Spotted (c : Contents) (i : ℕ) (spot : Spot) (line : FrameAt) : Type 0 where
  pub boxed : BoxedLine c i line
  pub at : line.segment - c.number ≡ spot.at
  pub from : spot.from ≡ line.at
  pub len : spot.len ≡ line.len
  pub version : spot.version ≡ version_at c.old_to line.segment

pub spotted : {c : Contents} {i : ℕ} {spot : Spot} → IsSound c → i < length c.frames → IsSpot c i spot → (line : FrameAt) → line ≡ get_or c.frames i line
    → Spotted c i spot line
spotted {c} {i} {spot} sound inside s line is =
    let told = slice_get-get_or c.frames i line inside in
    let same : s.line ≡ line = (let e : Some s.line ≡ Some line = sym s.told ∙ told ∙ ap (λ (l : FrameAt). Some l) (sym is) in cc) in
    let at = s.at in
    record {
      boxed = boxed_line c i line sound inside is;
      at = (let e : line.segment ≡ c.number + spot.at = ap (λ (l : FrameAt). l.segment) (sym same) ∙ at in omega arith);
      from = s.from ∙ ap (λ (l : FrameAt). l.at) same;
      len = s.len ∙ ap (λ (l : FrameAt). l.len) same;
      version = s.version ∙ ap (λ (l : FrameAt). version_at c.old_to l.segment) same;
    }

-- the frame of a block of that index
pub same_frame : {c : Contents} {i index : ℕ} {line : FrameAt} {b : Block} (l : BoxedLine c i line) (x : BlockAt (counted c) i index b) → x.frame ≡ l.frame
same_frame {c} {i} {index} {line} {b} l x =
    (same_before x.stands.before l.stands.before x.frame l.frame x.stands.beyond l.stands.beyond (sym x.stands.split ∙ l.stands.split)
    (x.stands.index ∙ sym l.stands.index)).1

len_line : {c : Contents} {i : ℕ} {line : FrameAt} (l : BoxedLine c i line) → line.len ≡ length (frame_bytes_in (version_at c.old_to line.segment) l.frame)
len_line {c} {i} {line} l = l.size

lawful_block : (v m f : ℕ) (frame : Frame) (front : List Block) (b : Block) (back : List Block) → IsFrameIn v m f frame → frame.blocks ≡ front ++ b ∷ back
    → IsBlockIn v m b
lawful_block v m f frame front b back law split =
    all_between (IsBlockIn v m) front b back (subst (AllByRecursion (IsBlockIn v m)) split law.blocks)

-- only the block of a span
pub alone_at : {c : Contents} {i index : ℕ} {b : Block} {spot : Spot} {line : FrameAt} (span : ℕ × ℕ) (starts : List ℕ) (s : Spotted c i spot line)
    → BlockAt (counted c) i index b → starts ≡ line.starts → IsSpan starts spot.len index span
    → (span.0 ≤ span.1) × (spot.from + span.1 ≤ spot.from + spot.len)
    × IsSpelledAt spot.version c.m c.live spot.at (spot.from + span.0) (span.1 - span.0) b
alone_at {c} {i} {index} {b} {spot} {line} span starts s x known is =
    let l = s.boxed in
    let v = version_at c.old_to line.segment in
    let frame = same_frame l x in
    let split : l.frame.blocks ≡ x.front ++ b ∷ x.back = ap (λ (f : Frame). f.blocks) (sym frame) ∙ x.split in
    let size : spot.len ≡ length (frame_bytes_in v l.frame) = s.len ∙ len_line l in
    let p = spans v l.frame x.front b x.back starts spot.len index span split x.many (known ∙ l.begins) size is in
    let there : slice_get c.live spot.at ≡ Some l.box = ap (slice_get c.live) (sym s.at) ∙ l.there in
    let long = p.size in
    let fits = p.fits in
    let within = l.within in
    let from = s.from in
    let len = s.len in (
      omega arith,
      omega arith,
      record {
        segment = l.box;
        there = there;
        within = omega arith;
        lawful = subst (λ (n : ℕ). IsBlockIn n c.m b) (sym s.version) (lawful_block v c.m l.limit l.frame x.front b x.back l.lawful split);
        is = ap (λ (n : ℕ). take (span.1 - span.0) (drop (n + span.0) l.box.bytes)) from
            ∙ alone v l.frame b span l.box.bytes line.at line.len p l.spelled (len_line l)
            ∙ ap (λ (n : ℕ). block_bytes_in n b) (sym s.version);
      },
    )

-- the block of a span, in the bytes of its frame
pub first_at : {c : Contents} {i index : ℕ} {b : Block} {spot : Spot} {line : FrameAt} (span : ℕ × ℕ) (starts bytes : List ℕ) (s : Spotted c i spot line)
    → BlockAt (counted c) i index b → starts ≡ starts_of spot.version s.boxed.frame → IsSpan starts spot.len index span
    → bytes ≡ frame_bytes_in (version_at c.old_to line.segment) s.boxed.frame
    → (span.0 ≤ length bytes) × IsSpelled spot.version c.m (drop span.0 bytes) b
first_at {c} {i} {index} {b} {spot} {line} span starts bytes s x known is read =
    let l = s.boxed in
    let v = version_at c.old_to line.segment in
    let frame = same_frame l x in
    let split : l.frame.blocks ≡ x.front ++ b ∷ x.back = ap (λ (f : Frame). f.blocks) (sym frame) ∙ x.split in
    let size : spot.len ≡ length (frame_bytes_in v l.frame) = s.len ∙ len_line l in
    let p = spans v l.frame x.front b x.back starts spot.len index span split x.many (known ∙ ap (λ (n : ℕ). starts_of n l.frame) s.version) size is in
    let w = p.within in
    let long = p.size in
    let fits = p.fits in (
      omega (arith, ap (λ (r : List ℕ). length r) read),
      record {
        lawful = subst (λ (n : ℕ). IsBlockIn n c.m b) (sym s.version) (lawful_block v c.m l.limit l.frame x.front b x.back l.lawful split);
        rest = w.back;
        is = ap (drop span.0) (read ∙ w.parts) ∙ drop_at w.front (block_bytes_in v b ++ w.back) span.0 w.at
            ∙ ap (λ (n : ℕ). block_bytes_in n b ++ w.back) (sym s.version);
      },
    )

-- what stands in a counted frame, by the spot's own line
pub spotted_own : {c : Contents} {i : ℕ} {spot : Spot} → IsSound c → i < length c.frames → (s : IsSpot c i spot) → Spotted c i spot s.line
spotted_own {c} {i} {spot} sound inside s = spotted sound inside s s.line (sym (get_or_from_slice_get c.frames i s.line s.line s.told))

-- a line that was read by its index is the spot's
pub line_is : {c : Contents} {i : ℕ} {spot : Spot} → i < length c.frames → (s : IsSpot c i spot) → (line : FrameAt) → line ≡ get_or c.frames i line
    → line ≡ s.line
line_is {c} {i} {spot} inside s line is =
    let e : Some line ≡ Some s.line = ap (λ (l : FrameAt). Some l) is ∙ sym (slice_get-get_or c.frames i line inside) ∙ s.told in
    cc

pub spot_inside : {c : Contents} {i : ℕ} {spot : Spot} {line : FrameAt} → Spotted c i spot line → spot.at < length c.live
spot_inside {c} {i} {spot} {line} s = let inside = s.boxed.inside in let at = s.at in omega arith

pub spot_within : {c : Contents} {i : ℕ} {spot : Spot} {line : FrameAt} → Spotted c i spot line
    → IfSome (slice_get c.live spot.at) (λ h. spot.from + spot.len ≤ length h.bytes)
spot_within {c} {i} {spot} {line} s =
    let within = s.boxed.within in
    let from = s.from in
    let len = s.len in
    let own : spot.from + spot.len ≤ length s.boxed.box.bytes = omega arith in
    subst (λ (o : Option Holding). IfSome o (λ h. spot.from + spot.len ≤ length h.bytes))
    (sym s.boxed.there ∙ ap (slice_get c.live) s.at) own

pub spot_bytes : {c : Contents} {i : ℕ} {spot : Spot} {line : FrameAt} (s : Spotted c i spot line) (none bytes : List ℕ) → none ≡ []
    → IfSome (slice_get c.live spot.at) (λ h. bytes ≡ none ++ take spot.len (drop spot.from h.bytes))
    → bytes ≡ frame_bytes_in (version_at c.old_to line.segment) s.boxed.frame
spot_bytes {c} {i} {spot} {line} s none bytes empty read =
    subst (λ (o : Option Holding). IfSome o (λ h. bytes ≡ none ++ take spot.len (drop spot.from h.bytes)))
    (ap (slice_get c.live) (sym s.at) ∙ s.boxed.there) read
    ∙ ap (λ (l : List ℕ). l ++ take spot.len (drop spot.from s.boxed.box.bytes)) empty
    ∙ ap (λ (n : ℕ). take n (drop spot.from s.boxed.box.bytes)) s.len
    ∙ ap (λ (n : ℕ). take line.len (drop n s.boxed.box.bytes)) s.from
    ∙ s.boxed.spelled

pub spot_lawful : {c : Contents} {i : ℕ} {spot : Spot} {line : FrameAt} (s : Spotted c i spot line) → IsFrameIn spot.version c.m s.boxed.limit s.boxed.frame
spot_lawful {c} {i} {spot} {line} s = subst (λ (n : ℕ). IsFrameIn n c.m s.boxed.limit s.boxed.frame) (sym s.version) s.boxed.lawful

pub spot_spelled : {c : Contents} {i : ℕ} {spot : Spot} {line : FrameAt} (s : Spotted c i spot line) (bytes : List ℕ)
    → bytes ≡ frame_bytes_in (version_at c.old_to line.segment) s.boxed.frame → bytes ≡ frame_bytes_in spot.version s.boxed.frame
spot_spelled {c} {i} {spot} {line} s bytes is = is ∙ ap (λ (n : ℕ). frame_bytes_in n s.boxed.frame) (sym s.version)

pub spot_starts : {c : Contents} {i : ℕ} {spot : Spot} {line : FrameAt} (s : Spotted c i spot line) → starts_of spot.version s.boxed.frame ≡ line.starts
spot_starts {c} {i} {spot} {line} s = ap (λ (n : ℕ). starts_of n s.boxed.frame) s.version ∙ sym s.boxed.begins

-- the block of that index begins somewhere
pub some_start : {c : Contents} {i index : ℕ} {b : Block} {spot : Spot} {line : FrameAt} (s : Spotted c i spot line) (starts : List ℕ)
    → BlockAt (counted c) i index b → starts ≡ starts_of spot.version s.boxed.frame → slice_get starts index ≡ None → ⊥
some_start {c} {i} {index} {b} {spot} {line} s starts x known none =
    let split : s.boxed.frame.blocks ≡ x.front ++ b ∷ x.back = ap (λ (f : Frame). f.blocks) (sym (same_frame s.boxed x)) ∙ x.split in
    let here : slice_get starts index ≡ Some (20 + length (body_bytes_in spot.version x.front)) =
    ap (λ (l : List ℕ). slice_get l index) (known ∙ ap (starts_from spot.version 20) split)
    ∙ ap (slice_get (starts_from spot.version 20 (x.front ++ b ∷ x.back))) (sym x.many)
    ∙ starts_here spot.version 20 x.front b x.back in
    (let e : None ≡ Some (20 + length (body_bytes_in spot.version x.front)) = sym none ∙ here in cc)

-- all that stands after an offset
pub rest_all : (n : ℕ) (bytes : List ℕ) → take (length bytes - n) (drop n bytes) ≡ drop n bytes
rest_all n bytes = take_all (length bytes - n) (drop n bytes) (omega (arith, length-drop n bytes))

-- the bytes of a counted frame end within its segment
pub sum_within : {c : Contents} {i : ℕ} {spot : Spot} {line : FrameAt} → Spotted c i spot line → (used : ℕ)
    → IfSome (slice_get c.live spot.at) (λ h. used ≡ length h.bytes) → spot.from + spot.len ≤ used
sum_within {c} {i} {spot} {line} s used told =
    let there : slice_get c.live spot.at ≡ Some s.boxed.box = ap (slice_get c.live) (sym s.at) ∙ s.boxed.there in
    let long : used ≡ length s.boxed.box.bytes = subst (λ (o : Option Holding). IfSome o (λ h. used ≡ length h.bytes)) there told in
    let within = s.boxed.within in
    let from = s.from in
    let len = s.len in
    omega arith

-- a read of the spot's segment is one of the frame's
pub stops_in_spot : {A : Type 0} {c : Contents} {i : ℕ} {spot : Spot} (s : IsSpot c i spot) (result : Result A LogFault) (new : Contents)
    → ReadStops (λ j. j ≡ spot.at) c result new → ReadStops (λ j. IsLineIn c i j) c result new
stops_in_spot s (Ok x) new stops = stops
stops_in_spot {A} {c} {i} {spot} s (Err fault) new stops =
    stops_as (λ j. j ≡ spot.at) (λ j. IsLineIn c i j) c new fault
    (λ j at. record { line = s.line; told = s.told; inside = s.at ∙ ap (λ (n : ℕ). c.number + n) (sym at) }) stops

-- ---- a frame read whole and looked through

-- what a law gives of all that bytes may spell, it gives of the spot's frame
pub spot_law : {c : Contents} {i : ℕ} {spot : Spot} {line : FrameAt} (Q : Frame → Type 0) (s : Spotted c i spot line) (bytes : List ℕ) → IsSound c
    → bytes ≡ frame_bytes_in (version_at c.old_to line.segment) s.boxed.frame
    → ((m f : ℕ) (frame : Frame) → m < 2 ^ 16 → IsFrameIn spot.version m f frame → bytes ≡ frame_bytes_in spot.version frame → Q frame)
    → Q s.boxed.frame
spot_law {c} Q s bytes sound read law =
    let most = sound.holds.limits.1 in
    law c.m s.boxed.limit s.boxed.frame (omega arith) (spot_lawful s) (spot_spelled s bytes read)

-- these are the frame's bytes, and where its blocks begin
pub record LookedThrough (c : Contents) (i : ℕ) (spot : Spot) (line : FrameAt) (bytes known : List ℕ) : Type 0 where
  pub spotted : Spotted c i spot line
  pub read : bytes ≡ frame_bytes_in (version_at c.old_to line.segment) spotted.boxed.frame
  pub told : known ≡ starts_of spot.version spotted.boxed.frame

pub looked_through : {c : Contents} {i : ℕ} {spot : Spot} (none bytes slice known : List ℕ) → IsSound c → i < length c.frames → (s : IsSpot c i spot)
    → none ≡ []
    → IfSome (slice_get c.live spot.at) (λ h. bytes ≡ none ++ take spot.len (drop spot.from h.bytes)) → slice ≡ bytes
    → ((m f : ℕ) (frame : Frame) → m < 2 ^ 16 → IsFrameIn spot.version m f frame → slice ≡ frame_bytes_in spot.version frame
    → Some (starts_of spot.version frame) ≡ Some known)
    → LookedThrough c i spot s.line bytes known
looked_through {c} {i} {spot} none bytes slice known sound inside s empty got same law =
    let own = spotted_own sound inside s in
    let read = spot_bytes own none bytes empty got in
    record {
      spotted = own;
      read = read;
      told = gave _ known (spot_law (λ (frame : Frame). Some (starts_of spot.version frame) ≡ Some known) own slice sound (same ∙ read) law);
    }

-- ---- a block by its place

-- the spot of its frame
pub placed_spot : {c : Contents} {place : Place} {b : Block} {spot : Spot} (first : FrameAt) → IsSound c → PlacedAt (all_placed (counted c)) place b
    → first ≡ get_or c.frames 0 first → (s : IsSpot c (place.frame - first.number) spot) → Spotted c (place.frame - first.number) spot s.line
placed_spot first sound x is s = spotted_own sound (numbered_at first sound x is).inside s

-- only the block, by the span that its frame's line has for it
pub placed_alone : {c : Contents} {place : Place} {b : Block} {spot : Spot} (first line : FrameAt) (span : ℕ × ℕ) → IsSound c
    → PlacedAt (all_placed (counted c)) place b → first ≡ get_or c.frames 0 first → IsSpot c (place.frame - first.number) spot
    → line ≡ get_or c.frames (place.frame - first.number) line → IsSpan line.starts spot.len place.index span
    → (span.0 ≤ span.1) × (spot.from + span.1 ≤ spot.from + spot.len)
    × IsSpelledAt spot.version c.m c.live spot.at (spot.from + span.0) (span.1 - span.0) b
placed_alone first line span sound x is s own spans =
    let n = numbered_at first sound x is in
    alone_at span line.starts (placed_spot first sound x is s) n.stands (ap (λ (l : FrameAt). l.starts) (line_is n.inside s line own)) spans

-- ---- bytes that a segment lends

-- a frame among them
pub lent_frame : (o : Option Holding) (bytes frame : List ℕ) (from len : ℕ) → IfSome o (λ h. bytes ≡ h.bytes) → frame ≡ take len (drop from bytes)
    → IfSome o (λ h. frame ≡ [] ++ take len (drop from h.bytes))
lent_frame None bytes frame from len lent is = tt
lent_frame (Some h) bytes frame from len lent is = is ∙ ap (λ (l : List ℕ). take len (drop from l)) lent

pub lent_within : {c : Contents} {i : ℕ} {spot : Spot} {line : FrameAt} (s : Spotted c i spot line) (bytes : List ℕ)
    → IfSome (slice_get c.live spot.at) (λ h. bytes ≡ h.bytes)
    → (spot.from ≤ length bytes) × (spot.len ≤ length (drop spot.from bytes))
lent_within {c} {i} {spot} {line} s bytes lent =
    let there : slice_get c.live spot.at ≡ Some s.boxed.box = ap (slice_get c.live) (sym s.at) ∙ s.boxed.there in
    let own : bytes ≡ s.boxed.box.bytes = subst (λ (o : Option Holding). IfSome o (λ h. bytes ≡ h.bytes)) there lent in
    let within = s.boxed.within in
    let from = s.from in
    let len = s.len in
    let size = ap (λ (l : List ℕ). length l) own in
    (omega (arith, size), omega (arith, size, length-drop spot.from bytes))

-- a block among them, and what follows it
lent_spelled : {v m : ℕ} {live : List Holding} {at from start len : ℕ} {b : Block} (bytes : List ℕ) → (s : IsSpelledAt v m live at (from + start) len b)
    → IfSome (slice_get live at) (λ h. bytes ≡ h.bytes)
    → (from ≤ length bytes) × (start ≤ length (drop from bytes)) × IsSpelled v m (drop start (drop from bytes)) b
lent_spelled {v} {m} {live} {at} {from} {start} {len} {b} bytes s lent =
    let own : bytes ≡ s.segment.bytes = subst (λ (o : Option Holding). IfSome o (λ h. bytes ≡ h.bytes)) s.there lent in
    let within = s.within in
    let size = ap (λ (l : List ℕ). length l) own in
    let rest = drop start (drop from bytes) in
    let spelled : take len rest ≡ block_bytes_in v b =
    ap (λ (l : List ℕ). take len l) (drop-drop start from bytes) ∙ ap (λ (l : List ℕ). take len (drop (from + start) l)) own ∙ s.is in (
      omega (arith, size),
      omega (arith, size, length-drop from bytes),
      record {
        lawful = s.lawful;
        rest = drop len rest;
        is = sym (take-append-drop len rest) ∙ ap (λ (l : List ℕ). l ++ drop len rest) spelled;
      },
    )

pub lent_at : {c : Contents} {i index : ℕ} {b : Block} {spot : Spot} (line : FrameAt) (span : ℕ × ℕ) (bytes : List ℕ) → IsSound c → i < length c.frames
    → IsSpot c i spot → line ≡ get_or c.frames i line → BlockAt (counted c) i index b → IsSpan line.starts spot.len index span
    → IfSome (slice_get c.live spot.at) (λ h. bytes ≡ h.bytes)
    → (spot.from ≤ length bytes) × (span.0 ≤ length (drop spot.from bytes)) × IsSpelled spot.version c.m (drop span.0 (drop spot.from bytes)) b
lent_at {c} {i} {index} {b} {spot} line span bytes sound inside s own x is lent =
    lent_spelled bytes (alone_at span line.starts (spotted sound inside s line own) x refl is).2 lent

-- a log that is as it was has its blocks where they were
pub block_now : {c : Contents} {i index : ℕ} {b : Block} (now : Contents) → now ≡ c → BlockAt (counted c) i index b → BlockAt (counted now) i index b
block_now {c} {i} {index} {b} now same x = subst (λ (d : Contents). BlockAt (counted d) i index b) (sym same) x

-- a block whose bytes are lent is spelled by them alone
pub spelled_in_lent : {v m : ℕ} {hs : List Holding} {at from len : ℕ} {block : Block} (held bytes : List ℕ)
    → IfSome (slice_get hs at) (λ h. held ≡ h.bytes) → bytes ≡ take len (drop from held) → IsSpelledAt v m hs at from len block
    → IsSpelled v m bytes block
spelled_in_lent {hs = hs} {at = at} {from = from} {len = len} {block = block} held bytes lent is one =
    let same : held ≡ one.segment.bytes = rw one.there at lent in
    record { lawful = one.lawful; rest = []; is = is ∙ ap (λ (b : List ℕ). take len (drop from b)) same ∙ one.is ∙ sym (append-nil _) }

pub lent_reaches : {v m : ℕ} {hs : List Holding} {at from len : ℕ} {block : Block} (held : List ℕ)
    → IfSome (slice_get hs at) (λ h. held ≡ h.bytes) → IsSpelledAt v m hs at from len block → from + len ≤ length held
lent_reaches {hs = hs} {at = at} {from = from} {len = len} held lent one =
    let same : held ≡ one.segment.bytes = rw one.there at lent in
    rw same one.within

pub lent_inside : {X : Type 0} {v m : ℕ} {at from len : ℕ} {block : Block} (f : X → Holding) (xs : List X)
    → IsSpelledAt v m (map f xs) at from len block → at < length xs
lent_inside {at = at} f xs one =
    let inside : at < length (map f xs) = slice_get_within (map f xs) at one.segment one.there in
    simp length-map at inside

-- what is cut off at an end that lies further back
pub cut_within : (held : List ℕ) (from len : ℕ) → from + len ≤ length held
    → take len (take (length held - from) (drop from held)) ≡ take len (drop from held)
cut_within held from len within =
    ap (λ (b : List ℕ). take len b) (take_all (length held - from) (drop from held) (omega (arith, length-drop from held)))
