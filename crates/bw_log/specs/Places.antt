-- Where blocks stand, the last block of a page, and links back to it.

use Rattle.std.specs.Prelude.{ℕ, ◌+◌, ◌-◌, ◌^◌, min, ◌≡◌, ◌==◌, ◌&&◌, nat_lt, Bool, if◌then◌else◌, Option, Some, None, List, [], ◌∷◌, ◌++◌}
use Rattle.std.specs.List.{fold, flat_map}
use Rattle.bw_record.specs.Touch.{sets, touches}
use Rattle.bw_record.specs.declared.block.Place.{Place}
use Rattle.bw_record.specs.declared.block.Block.{Block}
use Rattle.bw_record.specs.declared.block.Block.TheVariants.{Delta, Base, Split}
use Rattle.bw_record.specs.declared.block.Frame.{Frame}

-- the blocks of a frame from an index on, each with its place
abbrev pub placed : ℕ → ℕ → List Block → List (Place × Block)
placed number i [] = []
placed number i (b ∷ bs) = (record { frame = number; index = i }, b) ∷ placed number (i + 1) bs

abbrev pub all_placed : List Frame → List (Place × Block)
all_placed frames = flat_map (λ f. placed f.number 0 f.blocks) frames

-- the place so far, or that of a block that passes a test
abbrev pub later : (Block → Bool) → Option Place → Place × Block → Option Place
later test was x = if test x.1 then Some x.0 else was

-- the place of the last block that passes a test
abbrev pub last_place : (Block → Bool) → List (Place × Block) → Option Place
last_place test blocks = fold (later test) None blocks

-- the last block that touches a page
abbrev pub place_of : ℕ → List Frame → Option Place
place_of p frames = last_place (touches p) (all_placed frames)

-- the last block that sets a page
abbrev pub base_of : ℕ → List Frame → Option Place
base_of p frames = last_place (sets p) (all_placed frames)

-- ---- how many frames a page is read from

-- one more; it stays where it is at the greatest number
abbrev pub one_more : ℕ → ℕ
one_more n = min (n + 1) (2 ^ 64 - 1)

-- the frame of a page's last block, and in how many frames its blocks stand since the last that sets it, after a block more
abbrev pub walked : ℕ → ℕ × ℕ → Place × Block → ℕ × ℕ
walked p was x =
    if sets p x.1 then (x.0.frame, 1)
    else if touches p x.1 then (x.0.frame, if was.0 == x.0.frame then was.1 else one_more was.1) else was

-- both, of the blocks of frames
abbrev pub walk_to : ℕ → List Frame → ℕ × ℕ
walk_to p frames = fold (walked p) (0, 0) (all_placed frames)

-- in how many frames blocks of a page stand since the last that sets it, which is among them
abbrev pub walk_of : ℕ → List Frame → ℕ
walk_of p frames = (walk_to p frames).1

-- ---- links

abbrev pub is_place : Place → Place → Bool
is_place a b = (a.frame == b.frame) && (a.index == b.index)

-- whether a block may link back so: to the last earlier block of its page, or, if there is none, to
-- a frame before the first
abbrev pub is_back : ℕ → Option Place → Place → Bool
is_back first (Some last) back = is_place last back
is_back first None back = nat_lt 0 back.frame && nat_lt back.frame first

abbrev pub fault_at : ℕ → List (Place × Block) → ℕ → Place → Option ℕ
fault_at first before page back =
    if is_back first (last_place (touches page) before) back then None else Some page

-- the page of a block that links back wrongly
abbrev pub fault_of : ℕ → List (Place × Block) → Block → Option ℕ
fault_of first before (Delta page back ops) = fault_at first before page back
fault_of first before (Base leaf) = None
fault_of first before (Split page back upper) = fault_at first before page back

abbrev pub or_else : {A : Type 0} → Option A → Option A → Option A
or_else None o = o
or_else (Some x) o = Some x

-- the page of the first block that links back wrongly, after the blocks before
abbrev pub bad_link : ℕ → List (Place × Block) → List (Place × Block) → Option ℕ
bad_link first before [] = None
bad_link first before (x ∷ xs) = or_else (fault_of first before x.1) (bad_link first (before ++ x ∷ []) xs)

abbrev pub first_number : List Frame → ℕ
first_number [] = 0
first_number (f ∷ fs) = f.number

-- each link back is lawful
abbrev pub AreLinked : List Frame → Type 0
AreLinked frames = bad_link (first_number frames) [] (all_placed frames) ≡ None
