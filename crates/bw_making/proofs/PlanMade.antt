-- What was planned is what the record adds.

use Rattle.std.proofs.Common.{◌≡◌, ℕ, ◌+◌, ◌^◌, ◌<◌, Bool, true, false, Option, Some, None, List, [], ◌∷◌}
use Rattle.std.proofs.Common.{length, refl, ap, ◌∙◌, subst, arith, if◌then◌else◌}
use Rattle.std.specs.Prelude.{nat_le}
use Rattle.bw_record.specs.Record.{key_of}
use Rattle.bw_record.specs.declared.record.Record.{Record}
use Rattle.bw_record.specs.declared.leaf.Leaf.{Leaf}
use Rattle.bw_record.specs.declared.block.Place.{Place}
use Rattle.bw_record.specs.declared.block.Block.{Block}
use Rattle.bw_record.specs.declared.block.Block.TheVariants.{Delta, Split}
use Rattle.bw_leaf.specs.Changed.{changed}
use Rattle.bw_page.specs.Leaves.{home, directed_at, leaf_at, result_of, HasPage, AreLeaves}
use Rattle.bw_leaf.specs.SplitRule.{upper_of}
use Rattle.bw_page.specs.Shown.{Shown, leaf_here, is_evicted_page, IsHere}
use Rattle.bw_page.specs.declared.fault.ApplyError.{ApplyError}
use Rattle.bw_page.proofs.PageByPage.{home_there}
use Rattle.bw_making.specs.Adding.{blocks_for, planned, upper_if}
use Rattle.bw_making.specs.Planning.{IsWantingAt}

-- the leaf of a record's page is in memory where the page is
pub leaf_is_here : (f : Shown) (p : ℕ) (key : List ℕ) (item : Record) → key ≡ key_of item → p ≡ (home key f.leaves).page → IsHere (key_of item) f
    → leaf_here p f ≡ leaf_at p f.leaves
leaf_is_here f p key item k at here =
    ap (λ (b : Bool). if b then None else leaf_at p f.leaves)
    (ap (λ (q : ℕ). is_evicted_page q f) (at ∙ ap (λ (q : List ℕ). (home q f.leaves).page) k) ∙ here)

some_same : {A : Type 0} {a b : A} → Some a ≡ Some b → a ≡ b
some_same e = cc

pub planned_is : (m : ℕ) (leaves : List Leaf) (back here : Place) (item : Record) (key : List ℕ) (page pages n : ℕ) (leaf : Leaf)
    (upper : Option Leaf) (bs : List Block)
    → AreLeaves m leaves → key ≡ key_of item → page ≡ (home key leaves).page → Some leaf ≡ leaf_at page leaves → n ≡ m → pages ≡ length leaves
    → upper ≡ upper_if n (pages + 1) (changed item leaf) → bs ≡ planned page back here item upper → bs ≡ blocks_for m leaves back here item
planned_is m leaves back here item key page pages n leaf upper bs a k at there same count up made =
    let at_home : page ≡ directed_at leaves item = at ∙ ap (λ q. (home q leaves).page) k in
    let is : leaf ≡ home (key_of item) leaves = some_same (there ∙ ap (λ p. leaf_at p leaves) at_home ∙ home_there m leaves (key_of item) a) in
    let upper_is : upper ≡ upper_if m (length leaves + 1) (result_of leaves item) =
    up ∙ ap (λ x. upper_if x (pages + 1) (changed item leaf)) same ∙ ap (λ x. upper_if m (x + 1) (changed item leaf)) count
    ∙ ap (λ (l : Leaf). upper_if m (length leaves + 1) (changed item l)) is in
    made
    ∙ ap (λ p. planned p back here item upper) at_home
    ∙ ap (λ (u : Option Leaf). planned (directed_at leaves item) back here item u) upper_is
    ∙ elim (nat_le (length (result_of leaves item).pairs) m) as
    (λ b. planned (directed_at leaves item) back here item (if b then None else Some (upper_of m (length leaves + 1) (result_of leaves item)))
    ≡ (if b then Delta (directed_at leaves item) back (item ∷ []) ∷ [] else Delta (directed_at leaves item) back (item ∷ []) ∷ Split (directed_at leaves item)
    here (upper_of m (length leaves + 1) (result_of leaves item)) ∷ [])) [ true ↦ refl | false ↦ refl ]

pub room_is : (m : ℕ) (leaves : List Leaf) (item : Record) (key : List ℕ) (page pages n : ℕ) (leaf : Leaf) → AreLeaves m leaves → key ≡ key_of item
    → page ≡ (home key leaves).page → Some leaf ≡ leaf_at page leaves → n ≡ m → pages ≡ length leaves
    → (n < length (changed item leaf).pairs → pages + 1 < 2 ^ 32) → HasPage m leaves item
room_is m leaves item key page pages n leaf a k at there same count room over =
    let at_home : page ≡ directed_at leaves item = at ∙ ap (λ q. (home q leaves).page) k in
    let is : leaf ≡ home (key_of item) leaves = some_same (there ∙ ap (λ p. leaf_at p leaves) at_home ∙ home_there m leaves (key_of item) a) in
    let long : length (changed item leaf).pairs ≡ length (result_of leaves item).pairs = ap (λ (l : Leaf). length (changed item l).pairs) is in
    let bound = room (omega arith) in
    omega arith

-- want of a number for the page that the record makes
pub wanting_is : (m : ℕ) (leaves : List Leaf) (item : Record) (key : List ℕ) (page pages n : ℕ) (leaf : Leaf) (cause : ApplyError) → AreLeaves m leaves
    → key ≡ key_of item → page ≡ (home key leaves).page → Some leaf ≡ leaf_at page leaves → n ≡ m → pages ≡ length leaves
    → IsWantingAt n (length (changed item leaf).pairs) pages cause → IsWantingAt m (length (result_of leaves item).pairs) (length leaves) cause
wanting_is m leaves item key page pages n leaf cause a k at there same count w =
    let at_home : page ≡ directed_at leaves item = at ∙ ap (λ q. (home q leaves).page) k in
    let is : leaf ≡ home (key_of item) leaves = some_same (there ∙ ap (λ p. leaf_at p leaves) at_home ∙ home_there m leaves (key_of item) a) in
    let pairs : length (changed item leaf).pairs ≡ length (result_of leaves item).pairs = ap (λ (l : Leaf). length (changed item l).pairs) is in
    subst (λ (x : ℕ). IsWantingAt m (length (result_of leaves item).pairs) x cause) count
    (subst (λ (x : ℕ). IsWantingAt m x pages cause) pairs (subst (λ (x : ℕ). IsWantingAt x (length (changed item leaf).pairs) pages cause) same w))
