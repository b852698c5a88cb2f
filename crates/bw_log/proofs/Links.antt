-- Frames: the last of them that a test passes, and one step back along a page's links.

use Rattle.std.proofs.Common.{◌≡◌, ℕ, ◌+◌, ◌==◌, ◌||◌, ◌⊎◌, inl, inr, Bool, true, false, Option, Some, None, List, [], ◌∷◌, ◌++◌, if◌then◌else◌, refl}
use Rattle.std.proofs.Common.{sym, ap, subst, ◌∙◌, append_assoc, append-nil}
use Rattle.std.specs.List.{fold, list_any}
use Rattle.std.proofs.lemmas.Bool.{or_parts, or_from, or_left, or_right, eqb-true}
use Rattle.std.proofs.lemmas.List.Folds.{list_any-append}
use Rattle.std.proofs.lemmas.Grind.{fold-append, flat_map-append}
use Rattle.bw_record.specs.Touch.{sets, touches}
use Rattle.bw_record.specs.declared.block.Place.{Place}
use Rattle.bw_record.specs.declared.block.Block.{Block}
use Rattle.bw_record.specs.declared.block.Block.TheVariants.{Delta, Base, Split}
use Rattle.bw_record.specs.declared.block.Frame.{Frame}
use Rattle.bw_leaf.specs.Forwards.{blocks_of}
use Rattle.bw_log.specs.Places.{placed, all_placed, later, last_place, is_back, fault_at, fault_of, or_else, bad_link}
use Rattle.bw_log.specs.Segments.{AreFrom}
use Rattle.bw_log.specs.Walking.{first_back}
use Rattle.bw_log.proofs.Placing.{FrameOf, first_frame, later_frame}

-- ---- the last block of one frame that a test passes

-- no block passes; or the place is in this frame, and some block passes
abbrev InBlocks : (Block → Bool) → ℕ → Option Place → List Block → Option Place → Type 0
InBlocks test number acc bs result =
    ((list_any test bs ≡ false) × (result ≡ acc))
    ⊎ ((place : Place) × (result ≡ Some place) × (place.frame ≡ number) × (list_any test bs ≡ true))

in_blocks_by : (test : Block → Bool) (number i : ℕ) (acc : Option Place) (b : Block) (bs : List Block) (t : Bool) → test b ≡ t → (result : Option Place)
    → InBlocks test number (if t then Some (record { frame = number; index = i }) else acc) bs result → InBlocks test number acc (b ∷ bs) result
in_blocks_by test number i acc b bs true is result (inl nowhere) =
    inr (record { frame = number; index = i }, nowhere.1, refl, or_left (test b) (list_any test bs) is)
in_blocks_by test number i acc b bs false is result (inl nowhere) = inl (or_from (test b) (list_any test bs) is nowhere.0, nowhere.1)
in_blocks_by test number i acc b bs t is result (inr found) = inr (found.0, found.1, found.2, or_right (test b) (list_any test bs) found.3)

in_blocks : (test : Block → Bool) (number i : ℕ) (acc : Option Place) (bs : List Block)
    → InBlocks test number acc bs (fold (later test) acc (placed number i bs))
in_blocks test number i acc [] = inl (refl, refl)
in_blocks test number i acc (b ∷ bs) =
    in_blocks_by test number i acc b bs (test b) refl (fold (later test) acc (placed number i (b ∷ bs)))
    (in_blocks test number (i + 1) (if test b then Some (record { frame = number; index = i }) else acc) bs)

-- ---- the last of frames numbered one after the other

-- the last frame with a block that passes, and its number
pub record LastIn (test : Block → Bool) (n : ℕ) (fs : List Frame) (place : Place) : Type 0 where
  pub at : FrameOf n fs place
  pub passes : list_any test at.frame.blocks ≡ true
  pub none : list_any test (blocks_of at.newer) ≡ false

abbrev pub InFrames : (Block → Bool) → ℕ → Option Place → List Frame → Option Place → Type 0
InFrames test n acc fs result =
    ((list_any test (blocks_of fs) ≡ false) × (result ≡ acc))
    ⊎ ((place : Place) × (result ≡ Some place) × LastIn test n fs place)

any_of_two : (test : Block → Bool) (f : Frame) (fs : List Frame) → list_any test (blocks_of (f ∷ fs)) ≡ (list_any test f.blocks || list_any test (blocks_of fs))
any_of_two test f fs = list_any-append test f.blocks (blocks_of fs)

in_frames_by : (test : Block → Bool) (n : ℕ) (acc middle : Option Place) (f : Frame) (fs : List Frame) (result : Option Place) → f.number ≡ n
    → InBlocks test f.number acc f.blocks middle → InFrames test (n + 1) middle fs result → InFrames test n acc (f ∷ fs) result
in_frames_by test n acc middle f fs result is first (inr found) =
    let last = found.2 in
    inr (found.0, found.1, record { at = later_frame n f fs found.0 last.at; passes = last.passes; none = last.none })
in_frames_by test n acc middle f fs result is (inl nowhere) (inl later) =
    inl (any_of_two test f fs ∙ or_from (list_any test f.blocks) (list_any test (blocks_of fs)) nowhere.0 later.0, later.1 ∙ nowhere.1)
in_frames_by test n acc middle f fs result is (inr here) (inl later) =
    inr (here.0, later.1 ∙ here.1, record { at = first_frame n f fs here.0 (here.2 ∙ is); passes = here.3; none = later.0 })

pub frames_last : (test : Block → Bool) (n : ℕ) (acc : Option Place) (fs : List Frame) → AreFrom n fs
    → InFrames test n acc fs (fold (later test) acc (all_placed fs))
frames_last test n acc [] are = inl (refl, refl)
frames_last test n acc (f ∷ fs) are =
    let middle = fold (later test) acc (placed f.number 0 f.blocks) in
    subst (InFrames test n acc (f ∷ fs)) (sym (fold-append (later test) acc (placed f.number 0 f.blocks) (all_placed fs)))
    (in_frames_by test n acc middle f fs (fold (later test) middle (all_placed fs)) are.0 (in_blocks test f.number 0 acc f.blocks)
    (frames_last test (n + 1) middle fs are.1))

-- ---- the links of one frame among all

or_else_assoc : {A : Type 0} (x y z : Option A) → or_else x (or_else y z) ≡ or_else (or_else x y) z
or_else_assoc None y z = refl
or_else_assoc (Some x) y z = refl

pub bad_link-append : (first : ℕ) (before xs ys : List (Place × Block))
    → bad_link first before (xs ++ ys) ≡ or_else (bad_link first before xs) (bad_link first (before ++ xs) ys)
bad_link-append first before [] ys = ap (λ (b : List (Place × Block)). bad_link first b ys) (sym (append-nil before))
bad_link-append first before (x ∷ xs) ys =
    ap (or_else (fault_of first before x.1)) (bad_link-append first (before ++ x ∷ []) xs ys
    ∙ ap (λ (b : List (Place × Block)). or_else (bad_link first (before ++ x ∷ []) xs) (bad_link first b ys)) (append_assoc before (x ∷ []) xs))
    ∙ or_else_assoc (fault_of first before x.1) (bad_link first (before ++ x ∷ []) xs) (bad_link first (before ++ (x ∷ xs)) ys)

pub neither : {A : Type 0} (x y : Option A) → or_else x y ≡ None → (x ≡ None) × (y ≡ None)
neither None y e = (refl, e)
neither (Some x) y e = absurd cc

-- in lawfully linked frames those of one frame are lawful after the frames before it
pub links_in : (first : ℕ) (xs : List Frame) (frame : Frame) (ys : List Frame) → bad_link first [] (all_placed (xs ++ frame ∷ ys)) ≡ None
    → bad_link first (all_placed xs) (placed frame.number 0 frame.blocks) ≡ None
links_in first xs frame ys linked =
    let here = placed frame.number 0 frame.blocks in
    let parts : all_placed (xs ++ frame ∷ ys) ≡ all_placed xs ++ (here ++ all_placed ys) =
    flat_map-append (λ (f : Frame). placed f.number 0 f.blocks) xs (frame ∷ ys) in
    let two = neither (bad_link first [] (all_placed xs)) (bad_link first (all_placed xs) (here ++ all_placed ys))
    (sym (bad_link-append first [] (all_placed xs) (here ++ all_placed ys)) ∙ ap (bad_link first []) (sym parts) ∙ linked) in
    (neither (bad_link first (all_placed xs) here) (bad_link first (all_placed xs ++ here) (all_placed ys))
    (sym (bad_link-append first (all_placed xs) here (all_placed ys)) ∙ two.1)).0

-- ---- the first block of a frame that touches a page, if none sets it

abbrev HasBack : ℕ → ℕ → List (Place × Block) → Option Place → Type 0
HasBack p first before result = (back : Place) × (result ≡ Some back) × (is_back first (last_place (touches p) before) back ≡ true)

lawful_by : (first : ℕ) (before : List (Place × Block)) (page : ℕ) (back : Place) (t : Bool) → is_back first (last_place (touches page) before) back ≡ t
    → (if t then None else Some page) ≡ None
    → is_back first (last_place (touches page) before) back ≡ true
lawful_by first before page back true is e = is
lawful_by first before page back false is e = absurd cc

lawful_at : (first : ℕ) (before : List (Place × Block)) (page : ℕ) (back : Place) → fault_at first before page back ≡ None
    → is_back first (last_place (touches page) before) back ≡ true
lawful_at first before page back e = lawful_by first before page back (is_back first (last_place (touches page) before) back) refl e

later_same : (p : ℕ) (before : List (Place × Block)) (x : Place × Block) → touches p x.1 ≡ false
    → last_place (touches p) (before ++ x ∷ []) ≡ last_place (touches p) before
later_same p before x none = fold-append (later (touches p)) None before (x ∷ []) ∙ (rw none refl)

-- a block of that page: its link
link_by : (p first page : ℕ) (before : List (Place × Block)) (back : Place) (rest : Option Place) (t : Bool) → (page == p) ≡ t
    → fault_at first before page back ≡ None
    → ((t ≡ false) → HasBack p first before rest) → HasBack p first before (if t then Some back else rest)
link_by p first page before back rest true is lawful others =
    (back, refl, subst (λ (q : ℕ). is_back first (last_place (touches q) before) back ≡ true) (eqb-true page p is) (lawful_at first before page back lawful))
link_by p first page before back rest false is lawful others = others refl

pub frame_link : (p first number i : ℕ) (before : List (Place × Block)) (bs : List Block) → bad_link first before (placed number i bs) ≡ None
    → list_any (touches p) bs ≡ true → list_any (sets p) bs ≡ false → HasBack p first before (first_back p bs)
frame_link p first number i before [] linked touched unset = absurd cc
frame_link p first number i before (Delta page back ops ∷ bs) linked touched unset =
    let x : Place × Block = (record { frame = number; index = i }, Delta page back ops) in
    let two = neither (fault_at first before page back) (bad_link first (before ++ x ∷ []) (placed number (i + 1) bs)) linked in
    link_by p first page before back (first_back p bs) (page == p) refl two.0
    (λ no. subst (λ (o : Option Place). (b : Place) × (first_back p bs ≡ Some b) × (is_back first o b ≡ true)) (later_same p before x no)
    (frame_link p first number (i + 1) (before ++ x ∷ []) bs two.1 (subst (λ (t : Bool). (t || list_any (touches p) bs) ≡ true) no touched) unset))
frame_link p first number i before (Base leaf ∷ bs) linked touched unset =
    let x : Place × Block = (record { frame = number; index = i }, Base leaf) in
    let set = or_parts (leaf.page == p) (list_any (sets p) bs) unset in
    rw set.0 (subst (λ (o : Option Place). (b : Place) × (first_back p bs ≡ Some b) × (is_back first o b ≡ true)) (later_same p before x set.0)
    (frame_link p first number (i + 1) (before ++ x ∷ []) bs linked (subst (λ (t : Bool). (t || list_any (touches p) bs) ≡ true) set.0 touched) set.1))
frame_link p first number i before (Split page back upper ∷ bs) linked touched unset =
    let x : Place × Block = (record { frame = number; index = i }, Split page back upper) in
    let two = neither (fault_at first before page back) (bad_link first (before ++ x ∷ []) (placed number (i + 1) bs)) linked in
    let set = or_parts (upper.page == p) (list_any (sets p) bs) unset in
    rw set.0 (link_by p first page before back (first_back p bs) (page == p) refl two.0
    (λ no. (let none : touches p (Split page back upper) ≡ false = or_from (page == p) (upper.page == p) no set.0 in
    subst (λ (o : Option Place). (b : Place) × (first_back p bs ≡ Some b) × (is_back first o b ≡ true)) (later_same p before x none)
    (frame_link p first number (i + 1) (before ++ x ∷ []) bs two.1 (subst (λ (t : Bool). (t || list_any (touches p) bs) ≡ true) none touched) set.1))))
