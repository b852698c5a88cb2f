-- Frames numbered one after the other: those after others, their numbers, and their places.

use Rattle.std.proofs.Common.{inl, inr, ◌≡◌, ℕ, zero, suc, ◌+◌, ◌^◌, ◌<◌, ◌≤◌, Bool, true, false, if◌then◌else◌, Option, Some, None, List, [], ◌∷◌, ◌++◌}
use Rattle.std.proofs.Common.{length, refl, sym, ap, ◌∙◌, subst, arith}
use Rattle.std.specs.Prelude.{nat_lt, IfSome}
use Rattle.std.specs.List.{AllByRecursion as All, fold, slice_get}
use Rattle.std.proofs.lemmas.Bool.{ltb-true, ltb-false}
use Rattle.bw_codec.specs.Grammar.{IsFrameIn, IsPlace}
use Rattle.bw_record.specs.Touch.{touches}
use Rattle.bw_record.specs.declared.leaf.Leaf.{Leaf}
use Rattle.bw_record.specs.declared.block.Place.{Place}
use Rattle.bw_record.specs.declared.block.Block.{Block}
use Rattle.bw_record.specs.declared.block.Frame.{Frame}
use Rattle.bw_codec.proofs.Format.{held, found}
use Rattle.bw_page.specs.Leaves.{leaf_at}
use Rattle.bw_leaf.specs.Forwards.{blocks_of}
use Rattle.bw_page.specs.Standing.{Stand}
use Rattle.bw_page.proofs.OneStanding.{one}
use Rattle.bw_log.specs.Contents as logs
use Rattle.bw_history.specs.Cuts.{end_by}
use Rattle.bw_log.specs.Places.{placed, all_placed, later, place_of, first_number}
use Rattle.bw_log.specs.Segments.{following, next_of, AreFrom}
use Rattle.bw_log.proofs.Entries.{all_append, each_counted}
use Rattle.bw_log.proofs.GivenUp.{none_placed}
use Rattle.bw_log.proofs.Walk.{same_fold}

-- ---- numbers

pub following_fits : (n k : ℕ) → following n ≡ Some k → k < 2 ^ 64
following_fits n k e = let h = held (nat_lt (n + 1) (2 ^ 64)) (Some (n + 1)) k e in let same = found h.1 in let low = ltb-true _ _ h.0 in omega arith

end_when : (b : Bool) (n : ℕ) → nat_lt (n + 1) (2 ^ 64) ≡ b → n + 1 ≤ 2 ^ 64 → end_by (if b then Some (n + 1) else None) ≡ n + 1
end_when true n is top = refl
end_when false n is top = (let above = ltb-false (n + 1) (2 ^ 64) is in omega arith)

pub end_is : (n : ℕ) → n + 1 ≤ 2 ^ 64 → end_by (following n) ≡ n + 1
end_is n top = end_when (nat_lt (n + 1) (2 ^ 64)) n refl top

pub same_end : (a b : ℕ) → a + 1 ≤ 2 ^ 64 → b + 1 ≤ 2 ^ 64 → following a ≡ following b → a ≡ b
same_end a b x y e = (let one = end_is a x in let two = end_is b y in let same = ap end_by e in omega arith)

pub from_behind : (n : ℕ) (xs ys : List Frame) → AreFrom n (xs ++ ys) → AreFrom (n + length xs) ys
from_behind n [] ys are = let e : n + length {A = Frame} [] ≡ n = omega arith in subst (λ (k : ℕ). AreFrom k ys) (sym e) are
from_behind n (x ∷ xs) ys are =
    let e : n + 1 + length xs ≡ n + length (x ∷ xs) = omega arith in
    subst (λ (k : ℕ). AreFrom k ys) e (from_behind (n + 1) xs ys are.1)

-- each number lies between the first and the number of frames after it
pub from_within : (low high n : ℕ) (fs : List Frame) → AreFrom n fs → low ≤ n → n + length fs ≤ high → All (λ f. (low ≤ f.number) × (f.number < high)) fs
from_within low high n [] are a b = tt
from_within low high n (f ∷ fs) are a b = (let e = are.0 in (omega arith, omega arith), from_within low high (n + 1) fs are.1 (omega arith) (omega arith))

next_behind : (acc : Option ℕ) (n : ℕ) (f : Frame) (fs : List Frame) → AreFrom n (f ∷ fs)
    → fold (λ was g. following g.number) acc (f ∷ fs) ≡ following (n + length fs)
next_behind acc n f [] are = ap following (are.0 ∙ omega arith)
next_behind acc n f (g ∷ gs) are = next_behind (following f.number) (n + 1) g gs are.1 ∙ ap following (omega arith)

-- the number after them
pub next_after : (n : ℕ) (fs : List Frame) → AreFrom n fs → 1 ≤ length fs → (k : ℕ) → k + 1 ≡ n + length fs → next_of fs ≡ following k
next_after n [] are some k e = absurd (omega arith)
next_after n (f ∷ fs) are some k e = next_behind (Some 1) n f fs are ∙ ap following (omega arith)

pub first_ahead : (xs ys : List Frame) → 1 ≤ length xs → first_number (xs ++ ys) ≡ first_number xs
first_ahead [] ys some = absurd (omega arith)
first_ahead (x ∷ xs) ys some = refl

-- ---- the frames of a log are lawful

-- whatever its format, a frame has a number of eight bytes from 1 on, and a number of blocks of four bytes
pub record IsNumbered (frame : Frame) : Type 0 where
  pub number : (1 ≤ frame.number) × (frame.number < 2 ^ 64)
  pub few : length frame.blocks < 2 ^ 32

frame_lawful : (v m f : ℕ) (x : Frame) → IsFrameIn v m f x → IsNumbered x
frame_lawful v m f x lawful = record { number = lawful.head.numbered; few = lawful.head.some.1 }

pub counted_lawful : (c : logs.Contents) → logs.IsSound c → All IsNumbered (logs.counted c)
counted_lawful c sound = each_counted IsNumbered frame_lawful c sound

last_below : (n : ℕ) (fs : List Frame) → All IsNumbered fs → AreFrom n fs → 1 ≤ length fs → n + length fs ≤ 2 ^ 64
last_below n [] lawful are some = absurd (omega arith)
last_below n (x ∷ []) lawful are some = (let e = are.0 in let top = lawful.0.number.1 in omega arith)
last_below n (x ∷ y ∷ ys) lawful are some = (let e = last_below (n + 1) (y ∷ ys) lawful.1 are.1 (omega arith) in omega arith)

pub none_above : (c : logs.Contents) (fs : List Frame) (n : ℕ) → logs.IsSound c → logs.counted c ≡ fs → AreFrom n fs → 1 ≤ length fs → n + length fs ≤ 2 ^ 64
none_above c fs n sound is are some = last_below n fs (subst (All IsNumbered) is (counted_lawful c sound)) are some

-- ---- places

placed_lawful : (number i : ℕ) (bs : List Block) → (1 ≤ number) × (number < 2 ^ 64) → i + length bs ≤ 2 ^ 32 → All (λ x. IsPlace x.0) (placed number i bs)
placed_lawful number i [] n few = tt
placed_lawful number i (b ∷ bs) n few = (record { frame = n; index = omega arith }, placed_lawful number (i + 1) bs n (omega arith))

all_lawful : (fs : List Frame) → All IsNumbered fs → All (λ x. IsPlace x.0) (all_placed fs)
all_lawful [] lawful = tt
all_lawful (x ∷ xs) lawful =
    (let few = lawful.0.few in
    all_append (λ (p : Place × Block). IsPlace p.0) (placed x.number 0 x.blocks) (all_placed xs)
    (placed_lawful x.number 0 x.blocks lawful.0.number (omega arith)) (all_lawful xs lawful.1))

later_one : (test : Block → Bool) (was : Option Place) (x : Place × Block) (passes : Bool) → IfSome was IsPlace → IsPlace x.0
    → IfSome (if passes then Some x.0 else was) IsPlace
later_one test was x true old new = new
later_one test was x false old new = old

later_lawful : (test : Block → Bool) (was : Option Place) (xs : List (Place × Block)) → IfSome was IsPlace → All (λ x. IsPlace x.0) xs
    → IfSome (fold (later test) was xs) IsPlace
later_lawful test was [] old all = old
later_lawful test was (x ∷ xs) old all = later_lawful test (later test was x) xs (later_one test was x (test x.1) old all.0) all.1

pub place_lawful : (c : logs.Contents) (p : ℕ) (place : Place) → logs.IsSound c → place_of p (logs.counted c) ≡ Some place → IsPlace place
place_lawful c p place sound is =
    subst (λ (o : Option Place). IfSome o IsPlace) is
    (later_lawful (touches p) None (all_placed (logs.counted c)) tt (all_lawful (logs.counted c) (counted_lawful c sound)))

some_leaf : (leaves : List Leaf) (i : ℕ) → i < length leaves → slice_get leaves i ≡ None → ⊥
some_leaf [] i inside none = omega arith
some_leaf (l ∷ ls) zero inside none = cc
some_leaf (l ∷ ls) (suc i) inside none = some_leaf ls i (omega arith) none

page_some : (leaves : List Leaf) (p : ℕ) → 1 ≤ p → p ≤ length leaves → leaf_at p leaves ≡ None → ⊥
page_some leaves zero from to none = omega arith
page_some leaves (suc i) from to none = some_leaf leaves i (omega arith) none

-- each page that stands has a place
pub placed_page : (c : logs.Contents) (m : ℕ) (leaves : List Leaf) (p : ℕ) → logs.IsSound c → Stand m (logs.counted c) leaves → 1 ≤ p → p ≤ length leaves
    → place_of p (logs.counted c) ≡ None → ⊥
placed_page c m leaves p sound stand from to none =
    page_some leaves p from to
    (sym (stand.each p from to)
    ∙ same_fold p None (blocks_of (logs.counted c)) (none_placed (touches p) (first_number (logs.counted c)) (logs.counted c) sound.holds.numbered none))

-- a log knows as many pages as its frames stand for
pages_by : (m : ℕ) (fs : List Frame) (pages : ℕ) (leaves : List Leaf) → logs.IsStanding m fs pages → Stand m fs leaves → pages ≡ length leaves
pages_by m fs pages leaves (inl none) stand = (let some = stand.some in let zero_frames = ap (λ (l : List Frame). length l) none.0 in absurd (omega arith))
pages_by m fs pages leaves (inr stands) stand = sym stands.2 ∙ ap (λ (l : List Leaf). length l) (one m fs stands.0 leaves stands.1 stand)

pub pages_counted : (c : logs.Contents) (leaves : List Leaf) → logs.IsSound c → Stand c.m (logs.counted c) leaves → length c.pages ≡ length leaves
pages_counted c leaves sound stand = pages_by c.m (logs.counted c) (length c.pages) leaves sound.holds.stands stand
