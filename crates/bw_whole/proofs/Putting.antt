-- Pages are put into frames, and frames into segments.

use Rattle.std.proofs.Common.{◌≡◌, ℕ, ◌+◌, ◌^◌, ◌<◌, ◌≤◌, Bool, true, false, if◌then◌else◌, List, [], ◌∷◌, ◌++◌, length, refl, sym, ap, ◌∙◌, subst, arith, map}
use Rattle.std.proofs.lemmas.List.{append-nil, append_assoc, length-append, length-map}
use Rattle.std.proofs.lemmas.Grind.{flat_map-append}
use Rattle.std.proofs.lemmas.Bool.Decides.{nat_tests}
use Rattle.std.specs.List.{flat_map, AllByRecursion}
use Rattle.bw_record.specs.Version.{latest}
use Rattle.bw_record.specs.declared.leaf.Leaf.{Leaf}
use Rattle.bw_record.specs.declared.block.Block.{Block}
use Rattle.bw_record.specs.declared.block.Block.TheVariants.{Base}
use Rattle.bw_record.specs.declared.block.Frame.{Frame}
use Rattle.bw_codec.specs.Grammar.{frame_bytes, IsBlock, IsFrame}
use Rattle.bw_codec.proofs.Heading.{length-header}
use Rattle.bw_buffer.specs.Filling.{Filling, frame_of, size_of}
use Rattle.bw_buffer.proofs.Holding.{length_of_frame}
use Rattle.bw_buffer.proofs.Framing.{lawful_frame}
use Rattle.bw_whole.specs.Framing.{Framed, header_of, empty_frame, fits, bytes_in, with_frame}
use Rattle.bw_leaf.specs.Forwards.{blocks_of}
use Rattle.bw_whole.specs.Written.{AreFrames, all_frames, segment_of, segments_from}

-- ---- one more at the end

pub all-push : {X : Type 0} (P : X → Type 0) (xs : List X) (x : X) → AllByRecursion P xs → P x → AllByRecursion P (xs ++ x ∷ [])
all-push P [] x h k = (k, tt)
all-push P (y ∷ ys) x h k = (h.0, all-push P ys x h.1 k)

pub flat_map-push : {X A : Type 0} (g : X → List A) (xs : List X) (x : X) → flat_map g (xs ++ x ∷ []) ≡ flat_map g xs ++ g x
flat_map-push g xs x = flat_map-append g xs (x ∷ []) ∙ ap (λ t. flat_map g xs ++ t) (append-nil (g x))

pub segments_push : (m f n : ℕ) (parts : List (List Frame)) (x : List Frame)
    → segments_from m f n (parts ++ x ∷ []) ≡ segments_from m f n parts ++ segment_of m f (n + length parts) x ∷ []
segments_push m f n [] x = let e : n + 0 ≡ n = omega arith in ap (λ k. segment_of m f k x ∷ []) (sym e)
segments_push m f n (y ∷ ys) x =
    let e : n + 1 + length ys ≡ n + length (y ∷ ys) = omega arith in
    ap (λ t. segment_of m f n y ∷ t) (segments_push m f (n + 1) ys x)
    ∙ ap (λ k. segment_of m f n y ∷ (segments_from m f (n + 1) ys ++ segment_of m f k x ∷ [])) e

pub frames_push : (m f n : ℕ) (xs : List Frame) (x : Frame) → AreFrames m f n xs → x.number ≡ n + length xs → IsFrame m f x
    → AreFrames m f n (xs ++ x ∷ [])
frames_push m f n [] x h k lawful = (omega arith, lawful, tt)
frames_push m f n (y ∷ ys) x h k lawful = (h.0, h.1, frames_push m f (n + 1) ys x h.2 (omega arith) lawful)

pub length_segments : (m f n : ℕ) (parts : List (List Frame)) → length (segments_from m f n parts) ≡ length parts
length_segments m f n [] = refl
length_segments m f n (x ∷ xs) = let e = length_segments m f (n + 1) xs in omega arith

-- ---- what stands after some pages were put

pub record Puts (m f room : ℕ) (leaves : List Leaf) (w : Framed) : Type 0 where
  pub done : List (List Frame)
  pub last : List Frame
  -- all frames that stand
  pub all : List Frame
  pub all_is : all ≡ all_frames (done ++ last ∷ [])
  pub m_is : w.m ≡ m
  pub room_is : w.room ≡ room
  pub limit : w.filling.limit ≡ f
  pub closed : w.closed ≡ segments_from m f 1 done
  pub newest : w.newest ≡ segment_of m f (1 + length done) last
  pub short : AllByRecursion (λ b. length b ≤ room) w.closed
  pub short_newest : length w.newest ≤ room
  pub frames : AreFrames m f 1 all
  pub number : w.filling.frame ≡ 1 + length all
  pub few : length all ≤ length leaves
  pub blocks : blocks_of all ++ w.filling.blocks ≡ map Base leaves
  pub lawful : AllByRecursion (IsBlock m) w.filling.blocks
  pub fit : size_of w.filling ≤ f

-- a log's limits and numbers, as far as they count here
pub record Bounds (f room : ℕ) (leaves : List Leaf) : Type 0 where
  pub frame : f ≤ 262144
  pub segment : 24 + f ≤ room
  pub few : length leaves < 2 ^ 32

-- the frame put into the newest segment, or into the next one
abbrev frame_into : Bool → Framed → Framed
frame_into b w = record {
  m = w.m;
  room = w.room;
  closed = if b then w.closed else w.closed ++ w.newest ∷ [];
  newest = (if b then w.newest else header_of w.m w.filling.limit (length w.closed + 2)) ++ bytes_in w.filling;
  filling = empty_frame (w.filling.frame + 1) w.filling.limit;
}

-- one frame more stands
more_frames : (all : List Frame) (x : Frame) (leaves : List Leaf) (w : Framed) (m : ℕ)
    → blocks_of all ++ w.filling.blocks ≡ map Base leaves → x.blocks ≡ w.filling.blocks
    → blocks_of (all ++ x ∷ []) ++ [] ≡ map Base leaves
more_frames all x leaves w m h k =
    append-nil (blocks_of (all ++ x ∷ [])) ∙ flat_map-push (λ y. y.blocks) all x ∙ ap (λ t. blocks_of all ++ t) k ∙ h

-- each frame has a block
few_frames : (m f n : ℕ) (all : List Frame) → AreFrames m f n all → length all ≤ length (blocks_of all)
few_frames m f n [] h = omega arith
few_frames m f n (x ∷ xs) h =
    let rest = few_frames m f (n + 1) xs h.2 in
    let some = h.1.head.some in
    omega (arith, length-append x.blocks (blocks_of xs))

less_frames : (all : List Frame) (bs : List Block) (leaves : List Leaf) → blocks_of all ++ bs ≡ map Base leaves → 1 ≤ length bs
    → (m f n : ℕ) → AreFrames m f n all → length all + 1 ≤ length leaves
less_frames all bs leaves h k m f n frames =
    let few = few_frames m f n all frames in
    let same : length (blocks_of all ++ bs) ≡ length leaves = simp length-map at (ap length h) in
    omega (arith, length-append (blocks_of all) bs)

is_frame : (m f room : ℕ) (leaves : List Leaf) (w : Framed) → Puts m f room leaves w → Bounds f room leaves → 1 ≤ length w.filling.blocks
    → IsFrame m f (frame_of w.filling)
is_frame m f room leaves w p bounds some =
    let fit = p.fit in
    let limit = p.limit in
    let number = p.number in
    let few = p.few in
    let most = bounds.few in
    let small = bounds.frame in
    subst (λ k. IsFrame m k (frame_of w.filling)) limit
    (lawful_frame w.filling (omega arith) (omega arith) (omega arith) (omega arith) m some p.lawful)

-- a segment with a frame more
segment_push : (m f n : ℕ) (xs : List Frame) (x : Frame) → segment_of m f n xs ++ frame_bytes x ≡ segment_of m f n (xs ++ x ∷ [])
segment_push m f n xs x =
    append_assoc (header_of m f n) (flat_map frame_bytes xs) (frame_bytes x)
    ∙ ap (λ t. header_of m f n ++ t) (sym (flat_map-push frame_bytes xs x))

grown_last : (done : List (List Frame)) (last : List Frame) (x : Frame)
    → all_frames (done ++ last ∷ []) ++ x ∷ [] ≡ all_frames (done ++ (last ++ x ∷ []) ∷ [])
grown_last done last x =
    ap (λ t. t ++ x ∷ []) (flat_map-push (λ y. y) done last)
    ∙ append_assoc (all_frames done) last (x ∷ [])
    ∙ sym (flat_map-push (λ y. y) done (last ++ x ∷ []))

-- the newest segment takes no more
pub begun_closed : (m f : ℕ) (closed : List (List ℕ)) (newest : List ℕ) (done : List (List Frame)) (last : List Frame)
    → closed ≡ segments_from m f 1 done → newest ≡ segment_of m f (1 + length done) last
    → closed ++ newest ∷ [] ≡ segments_from m f 1 (done ++ last ∷ [])
begun_closed m f closed newest done last h k =
    ap (λ t. t ++ newest ∷ []) h ∙ ap (λ t. segments_from m f 1 done ++ t ∷ []) k ∙ sym (segments_push m f 1 done last)

begun_newest : (m f room : ℕ) (leaves : List Leaf) (w : Framed) (p : Puts m f room leaves w) (x : Frame)
    → header_of w.m w.filling.limit (length w.closed + 2) ++ frame_bytes x ≡ segment_of m f (1 + length (p.done ++ p.last ∷ [])) (x ∷ [])
begun_newest m f room leaves w p x =
    let closed : length w.closed ≡ length p.done = ap length p.closed ∙ length_segments m f 1 p.done in
    let e : length w.closed + 2 ≡ 1 + length (p.done ++ p.last ∷ []) = omega (arith, length-append p.done (p.last ∷ [])) in
    ap (λ k. header_of k w.filling.limit (length w.closed + 2) ++ frame_bytes x) p.m_is
    ∙ ap (λ k. header_of m k (length w.closed + 2) ++ frame_bytes x) p.limit
    ∙ ap (λ k. header_of m f k ++ frame_bytes x) e
    ∙ ap (λ t. header_of m f (1 + length (p.done ++ p.last ∷ [])) ++ t) (sym (append-nil (frame_bytes x)))

begun_short : (m k n f room : ℕ) (b : Filling) → 24 + f ≤ room → size_of b ≤ f → length (header_of m k n ++ bytes_in b) ≤ room
begun_short m k n f room b h fit =
    omega (arith, length-append (header_of m k n) (bytes_in b), length-header (record { version = latest; number = n; m = m; f = k }), length_of_frame b)

put_true : (m f room : ℕ) (leaves : List Leaf) (w : Framed) → Puts m f room leaves w → Bounds f room leaves → 1 ≤ length w.filling.blocks
    → fits w.room w.newest (length (bytes_in w.filling)) ≡ true → Puts m f room leaves (frame_into true w)
put_true m f room leaves w p bounds some e =
    let x : Frame = frame_of w.filling in
    let lawful = is_frame m f room leaves w p bounds some in
    let number = p.number in
    let fewer = less_frames p.all w.filling.blocks leaves p.blocks some m f 1 p.frames in
    let fewest : length (p.all ++ x ∷ []) ≤ length leaves = omega (arith, length-append p.all (x ∷ [])) in
    let count : w.filling.frame + 1 ≡ 1 + length (p.all ++ x ∷ []) = omega (arith, length-append p.all (x ∷ [])) in
    let room_is = p.room_is in
    let short : length (w.newest ++ bytes_in w.filling) ≤ room =
    (let fits_it : length w.newest + length (bytes_in w.filling) ≤ w.room = grind (arith, nat_tests) in
    omega (arith, length-append w.newest (bytes_in w.filling))) in
    record {
      done = p.done;
      last = p.last ++ x ∷ [];
      all = p.all ++ x ∷ [];
      all_is = ap (λ t. t ++ x ∷ []) p.all_is ∙ grown_last p.done p.last x;
      m_is = p.m_is;
      room_is = p.room_is;
      limit = p.limit;
      closed = p.closed;
      newest = ap (λ t. t ++ frame_bytes x) p.newest ∙ segment_push m f (1 + length p.done) p.last x;
      short = p.short;
      short_newest = short;
      frames = frames_push m f 1 p.all x p.frames (omega arith) lawful;
      number = count;
      few = fewest;
      blocks = more_frames p.all x leaves w m p.blocks refl;
      lawful = tt;
      fit = omega arith;
    }

put_false : (m f room : ℕ) (leaves : List Leaf) (w : Framed) → Puts m f room leaves w → Bounds f room leaves → 1 ≤ length w.filling.blocks
    → Puts m f room leaves (frame_into false w)
put_false m f room leaves w p bounds some =
    let x : Frame = frame_of w.filling in
    let lawful = is_frame m f room leaves w p bounds some in
    let number = p.number in
    let fewer = less_frames p.all w.filling.blocks leaves p.blocks some m f 1 p.frames in
    let fewest : length (p.all ++ x ∷ []) ≤ length leaves = omega (arith, length-append p.all (x ∷ [])) in
    let count : w.filling.frame + 1 ≡ 1 + length (p.all ++ x ∷ []) = omega (arith, length-append p.all (x ∷ [])) in
    let short : length (header_of w.m w.filling.limit (length w.closed + 2) ++ bytes_in w.filling) ≤ room =
    begun_short w.m w.filling.limit (length w.closed + 2) f room w.filling bounds.segment p.fit in
    record {
      done = p.done ++ p.last ∷ [];
      last = x ∷ [];
      all = p.all ++ x ∷ [];
      all_is = ap (λ t. t ++ x ∷ []) p.all_is ∙ sym (flat_map-push (λ y. y) (p.done ++ p.last ∷ []) (x ∷ []));
      m_is = p.m_is;
      room_is = p.room_is;
      limit = p.limit;
      closed = begun_closed m f w.closed w.newest p.done p.last p.closed p.newest;
      newest = begun_newest m f room leaves w p x;
      short = all-push _ w.closed w.newest p.short p.short_newest;
      short_newest = short;
      frames = frames_push m f 1 p.all x p.frames (omega arith) lawful;
      number = count;
      few = fewest;
      blocks = more_frames p.all x leaves w m p.blocks refl;
      lawful = tt;
      fit = omega arith;
    }

pub framed : (m f room : ℕ) (leaves : List Leaf) (w : Framed) → Puts m f room leaves w → Bounds f room leaves → 1 ≤ length w.filling.blocks
    → Puts m f room leaves (with_frame w)
framed m f room leaves w p bounds some =
    elim (fits w.room w.newest (length (bytes_in w.filling)))
    as (λ b. fits w.room w.newest (length (bytes_in w.filling)) ≡ b → Puts m f room leaves (frame_into b w)) [
      | true ↦ λ e. put_true m f room leaves w p bounds some e
      | false ↦ λ e. put_false m f room leaves w p bounds some
    ]
    refl
