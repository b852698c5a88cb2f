-- Blocks with their places: which come earlier, in which frame they stand, and the last that a test passes.

use Rattle.std.proofs.Common.{inl, inr, ◌⊎◌, ◌≡◌, ℕ, ◌+◌, ◌<◌, Bool, true, false, Option, Some, List, [], ◌∷◌, ◌++◌, length, if◌then◌else◌}
use Rattle.std.proofs.Common.{refl, sym, ap, ◌∙◌, append_assoc, arith, length-append}
use Rattle.std.specs.List.{fold, list_any}
use Rattle.std.proofs.lemmas.Bool.{or_from}
use Rattle.std.proofs.lemmas.List.{map-append}
use Rattle.bw_record.specs.declared.block.Place.{Place}
use Rattle.bw_record.specs.declared.block.Block.{Block}
use Rattle.bw_record.specs.declared.block.Frame.{Frame}
use Rattle.bw_leaf.specs.Forwards.{blocks_of}
use Rattle.bw_log.specs.Places.{placed, all_placed, later}
use Rattle.bw_log.specs.Segments.{AreFrom}
use Rattle.bw_log.specs.Walking.{bodies, PlacedAt}

-- ---- an element of two lists

abbrev InOne : {A : Type 0} → List A → List A → A → Type 0
InOne {A} xs before z = (rest : List A) × (xs ≡ before ++ z ∷ rest)

abbrev InOther : {A : Type 0} → List A → List A → List A → A → List A → Type 0
InOther {A} xs ys before z beyond = (front : List A) × (before ≡ xs ++ front) × (ys ≡ front ++ z ∷ beyond)

one_more_in : {A : Type 0} (x : A) (xs ys before : List A) (z : A) (beyond : List A) (b : A) → x ≡ b
    → InOne xs before z ⊎ InOther xs ys before z beyond → InOne (x ∷ xs) (b ∷ before) z ⊎ InOther (x ∷ xs) ys (b ∷ before) z beyond
one_more_in {A} x xs ys before z beyond b same (inl one) = inl (one.0, ap (λ (c : A). c ∷ xs) same ∙ ap (λ (l : List A). b ∷ l) one.1)
one_more_in {A} x xs ys before z beyond b same (inr other) =
    inr (other.0, ap (λ (c : A). c ∷ before) (sym same) ∙ ap (λ (l : List A). x ∷ l) other.1, other.2)

pub in_two : {A : Type 0} (xs ys before : List A) (z : A) (beyond : List A) → xs ++ ys ≡ before ++ z ∷ beyond
    → InOne xs before z ⊎ InOther xs ys before z beyond
in_two [] ys before z beyond e = inr (before, refl, e)
in_two {A} (x ∷ xs) ys [] z beyond e = let heads : x ≡ z = cc in inl (xs, ap (λ (c : A). c ∷ xs) heads)
in_two {A} (x ∷ xs) ys (b ∷ before) z beyond e =
    let heads : x ≡ b = cc in
    let tails : xs ++ ys ≡ before ++ z ∷ beyond = cc in
    one_more_in x xs ys before z beyond b heads (in_two xs ys before z beyond tails)

-- ---- a block of one frame

pub record InBlocks (n i : ℕ) (bs : List Block) (many : ℕ) (place : Place) (b : Block) : Type 0 where
  pub front : List Block
  pub back : List Block
  pub split : bs ≡ front ++ b ∷ back
  pub frame : place.frame ≡ n
  pub index : place.index ≡ i + length front
  pub count : length front ≡ many

pub in_blocks : (n i : ℕ) (bs : List Block) (before : List (Place × Block)) (place : Place) (b : Block) (beyond : List (Place × Block))
    → placed n i bs ≡ before ++ (place, b) ∷ beyond → InBlocks n i bs (length before) place b
in_blocks n i [] [] place b beyond e = absurd cc
in_blocks n i [] (x ∷ before) place b beyond e = absurd cc
in_blocks n i (x ∷ xs) [] place b beyond e =
    let here : Place = record { frame = n; index = i } in
    let heads : (here, x) ≡ (place, b) = cc in
    let same : here ≡ place = ap (λ (r : Place × Block). r.0) heads in
    let block : x ≡ b = ap (λ (r : Place × Block). r.1) heads in
    record {
      front = [];
      back = xs;
      split = ap (λ (c : Block). c ∷ xs) block;
      frame = ap (λ (p : Place). p.frame) (sym same);
      index = ap (λ (p : Place). p.index) (sym same) ∙ (omega arith);
      count = refl;
    }
in_blocks n i (x ∷ xs) (y ∷ before) place b beyond e =
    let tails : placed n (i + 1) xs ≡ before ++ (place, b) ∷ beyond = cc in
    let r = in_blocks n (i + 1) xs before place b beyond tails in
    record {
      front = x ∷ r.front;
      back = r.back;
      split = ap (λ (l : List Block). x ∷ l) r.split;
      frame = r.frame;
      index = r.index ∙ (omega arith);
      count = (let c = r.count in omega arith);
    }

-- ---- a block of frames numbered one after the other

-- the frame of a place
pub record FrameOf (n : ℕ) (fs : List Frame) (place : Place) : Type 0 where
  pub older : List Frame
  pub frame : Frame
  pub newer : List Frame
  pub split : fs ≡ older ++ frame ∷ newer
  pub number : place.frame ≡ n + length older

abbrev pub first_frame : (n : ℕ) (f : Frame) (fs : List Frame) (place : Place) → place.frame ≡ n → FrameOf n (f ∷ fs) place
first_frame n f fs place is = record { older = []; frame = f; newer = fs; split = refl; number = is ∙ (omega arith) }

abbrev pub later_frame : (n : ℕ) (f : Frame) (fs : List Frame) (place : Place) → FrameOf (n + 1) fs place → FrameOf n (f ∷ fs) place
later_frame n f fs place r = record {
  older = f ∷ r.older;
  frame = r.frame;
  newer = r.newer;
  split = ap (λ (l : List Frame). f ∷ l) r.split;
  number = r.number ∙ (omega arith);
}

pub record InFrames (n : ℕ) (fs : List Frame) (place : Place) (b : Block) : Type 0 where
  pub at : FrameOf n fs place
  pub front : List Block
  pub back : List Block
  pub blocks : at.frame.blocks ≡ front ++ b ∷ back
  pub index : place.index ≡ length front

in_frames_by : (n : ℕ) (f : Frame) (fs : List Frame) (before : List (Place × Block)) (place : Place) (b : Block) (beyond : List (Place × Block))
    → f.number ≡ n → ((front : List (Place × Block)) → all_placed fs ≡ front ++ (place, b) ∷ beyond → InFrames (n + 1) fs place b)
    → InOne (placed f.number 0 f.blocks) before (place, b) ⊎ InOther (placed f.number 0 f.blocks) (all_placed fs) before (place, b) beyond
    → InFrames n (f ∷ fs) place b
in_frames_by n f fs before place b beyond first others (inl one) =
    let r = in_blocks f.number 0 f.blocks before place b one.0 one.1 in
    record { at = first_frame n f fs place (r.frame ∙ first); front = r.front; back = r.back; blocks = r.split; index = r.index ∙ (omega arith) }
in_frames_by n f fs before place b beyond first others (inr other) =
    let r = others other.0 other.2 in
    record { at = later_frame n f fs place r.at; front = r.front; back = r.back; blocks = r.blocks; index = r.index }

pub in_frames : (n : ℕ) (fs : List Frame) (before : List (Place × Block)) (place : Place) (b : Block) (beyond : List (Place × Block))
    → AreFrom n fs → all_placed fs ≡ before ++ (place, b) ∷ beyond → InFrames n fs place b
in_frames n [] [] place b beyond are e = absurd cc
in_frames n [] (x ∷ before) place b beyond are e = absurd cc
in_frames n (f ∷ fs) before place b beyond are e =
    in_frames_by n f fs before place b beyond are.0 (λ front. in_frames (n + 1) fs front place b beyond are.1)
    (in_two (placed f.number 0 f.blocks) (all_placed fs) before (place, b) beyond e)

-- ---- which place comes earlier

abbrev pub IsEarlier : Place → Place → Type 0
IsEarlier a b = (a.frame < b.frame) ⊎ ((a.frame ≡ b.frame) × (a.index < b.index))

two_in_one : (f : Frame) (b1 : List (Place × Block)) (y : Place) (c : Block) (b2 : List (Place × Block)) (x : Place) (b : Block) (rest : List (Place × Block))
    → placed f.number 0 f.blocks ≡ (b1 ++ (y, c) ∷ b2) ++ (x, b) ∷ rest → IsEarlier y x
two_in_one f b1 y c b2 x b rest e =
    let later = in_blocks f.number 0 f.blocks (b1 ++ (y, c) ∷ b2) x b rest e in
    let sooner = in_blocks f.number 0 f.blocks b1 y c (b2 ++ (x, b) ∷ rest) (e ∙ append_assoc b1 ((y, c) ∷ b2) ((x, b) ∷ rest)) in
    let li = later.index in
    let lc = later.count in
    let si = sooner.index in
    let sc = sooner.count in
    inr (sooner.frame ∙ sym later.frame, omega (arith, length-append b1 ((y, c) ∷ b2)))

earlier_by : (n : ℕ) (f : Frame) (fs : List Frame) (front : List (Place × Block)) (b1 : List (Place × Block)) (y : Place) (c : Block)
    (b2 : List (Place × Block))
    (x : Place) (b : Block) (beyond : List (Place × Block)) → f.number ≡ n → AreFrom (n + 1) fs → all_placed fs ≡ front ++ (x, b) ∷ beyond
    → ((l1 : List (Place × Block)) → front ≡ l1 ++ (y, c) ∷ b2 → IsEarlier y x)
    → InOne (placed f.number 0 f.blocks) b1 (y, c) ⊎ InOther (placed f.number 0 f.blocks) front b1 (y, c) b2 → IsEarlier y x
earlier_by n f fs front b1 y c b2 x b beyond first are there others (inl one) =
    let sooner = in_blocks f.number 0 f.blocks b1 y c one.0 one.1 in
    let later = in_frames (n + 1) fs front x b beyond are there in
    let sf = sooner.frame in
    let ln = later.at.number in
    inl (omega arith)
earlier_by n f fs front b1 y c b2 x b beyond first are there others (inr other) = others other.0 other.2

earlier_in : (n : ℕ) (f : Frame) (fs : List Frame) (before b1 : List (Place × Block)) (y : Place) (c : Block) (b2 : List (Place × Block))
    (x : Place) (b : Block) (beyond : List (Place × Block)) → f.number ≡ n → AreFrom (n + 1) fs → before ≡ b1 ++ (y, c) ∷ b2
    → ((front l1 : List (Place × Block)) → all_placed fs ≡ front ++ (x, b) ∷ beyond → front ≡ l1 ++ (y, c) ∷ b2 → IsEarlier y x)
    → InOne (placed f.number 0 f.blocks) before (x, b) ⊎ InOther (placed f.number 0 f.blocks) (all_placed fs) before (x, b) beyond → IsEarlier y x
earlier_in n f fs before b1 y c b2 x b beyond first are split others (inl one) =
    two_in_one f b1 y c b2 x b one.0 (one.1 ∙ ap (λ (l : List (Place × Block)). l ++ (x, b) ∷ one.0) split)
earlier_in n f fs before b1 y c b2 x b beyond first are split others (inr other) =
    earlier_by n f fs other.0 b1 y c b2 x b beyond first are other.2 (λ l1. others other.0 l1 other.2)
    (in_two (placed f.number 0 f.blocks) other.0 b1 (y, c) b2 (sym other.1 ∙ split))

pub is_earlier : (n : ℕ) (fs : List Frame) (before b1 : List (Place × Block)) (y : Place) (c : Block) (b2 : List (Place × Block)) (x : Place) (b : Block)
    (beyond : List (Place × Block)) → AreFrom n fs → all_placed fs ≡ before ++ (x, b) ∷ beyond → before ≡ b1 ++ (y, c) ∷ b2 → IsEarlier y x
is_earlier n [] [] b1 y c b2 x b beyond are e split = absurd cc
is_earlier n [] (z ∷ before) b1 y c b2 x b beyond are e split = absurd cc
is_earlier n (f ∷ fs) before b1 y c b2 x b beyond are e split =
    earlier_in n f fs before b1 y c b2 x b beyond are.0 are.1 split (λ front l1. is_earlier (n + 1) fs front l1 y c b2 x b beyond are.1)
    (in_two (placed f.number 0 f.blocks) (all_placed fs) before (x, b) beyond e)

-- ---- the last block that a test passes

pub record LastOf (test : Block → Bool) (xs : List (Place × Block)) (place : Place) : Type 0 where
  pub block : Block
  pub stands : PlacedAt xs place block
  pub passes : test block ≡ true
  pub none : list_any test (bodies stands.beyond) ≡ false

abbrev pub HasLast : (Block → Bool) → Option Place → List (Place × Block) → Option Place → Type 0
HasLast test was xs result =
    ((list_any test (bodies xs) ≡ false) × (result ≡ was)) ⊎ ((place : Place) × (result ≡ Some place) × LastOf test xs place)

last_by : (test : Block → Bool) (was : Option Place) (x : Place × Block) (xs : List (Place × Block)) (t : Bool) → test x.1 ≡ t → (result : Option Place)
    → HasLast test (if t then Some x.0 else was) xs result → HasLast test was (x ∷ xs) result
last_by test was x xs true is result (inl nowhere) =
    inr (
      x.0,
      nowhere.1,
      record { block = x.1; stands = record { before = []; beyond = xs; split = refl }; passes = is; none = nowhere.0 },
    )
last_by test was x xs false is result (inl nowhere) = inl (or_from (test x.1) (list_any test (bodies xs)) is nowhere.0, nowhere.1)
last_by test was x xs t is result (inr found) =
    let l = found.2 in
    inr (
      found.0,
      found.1,
      record {
        block = l.block;
        stands = record { before = x ∷ l.stands.before; beyond = l.stands.beyond; split = ap (λ (ys : List (Place × Block)). x ∷ ys) l.stands.split };
        passes = l.passes;
        none = l.none;
      },
    )

pub last_of : (test : Block → Bool) (was : Option Place) (xs : List (Place × Block)) → HasLast test was xs (fold (later test) was xs)
last_of test was [] = inl (refl, refl)
last_of test was (x ∷ xs) = last_by test was x xs (test x.1) refl (fold (later test) was (x ∷ xs)) (last_of test (if test x.1 then Some x.0 else was) xs)

-- ---- the blocks only

bodies_placed : (n i : ℕ) (bs : List Block) → bodies (placed n i bs) ≡ bs
bodies_placed n i [] = refl
bodies_placed n i (b ∷ bs) = ap (λ (l : List Block). b ∷ l) (bodies_placed n (i + 1) bs)

pub bodies_more : (xs ys : List (Place × Block)) → bodies (xs ++ ys) ≡ bodies xs ++ bodies ys
bodies_more xs ys = map-append (λ (x : Place × Block). x.1) xs ys

pub bodies_all : (fs : List Frame) → bodies (all_placed fs) ≡ blocks_of fs
bodies_all [] = refl
bodies_all (f ∷ fs) =
    bodies_more (placed f.number 0 f.blocks) (all_placed fs)
    ∙ ap (λ (l : List Block). l ++ bodies (all_placed fs)) (bodies_placed f.number 0 f.blocks)
    ∙ ap (λ (l : List Block). f.blocks ++ l) (bodies_all fs)
