-- Bases of pages as they stand leave every page, and may follow.

use Rattle.std.proofs.Common.{inl, inr, ◌≡◌, ℕ, zero, suc, ◌+◌, ◌^◌, ◌<◌, ◌≤◌, ◌==◌, nat_lt, Bool, true, false, if◌then◌else◌, Option, Some, None, List}
use Rattle.std.proofs.Common.{[], ◌∷◌, ◌++◌, length, slice_get, refl, sym, ap, subst, lit≤, lit<, ◌∙◌, append-nil, length-append, arith}
use Rattle.std.specs.List.{fold, AllByRecursion}
use Rattle.std.proofs.lemmas.Bool.{eqb-true, ltb-true}
use Rattle.std.proofs.lemmas.Grind.{fold-append}
use Rattle.bw_codec.specs.Grammar.{block_bytes, IsBase, IsFrame}
use Rattle.bw_record.specs.Touch.{touches}
use Rattle.bw_record.specs.declared.leaf.Leaf.{Leaf}
use Rattle.bw_record.specs.declared.block.Place.{Place}
use Rattle.bw_record.specs.declared.block.Block.{Block}
use Rattle.bw_record.specs.declared.block.Block.TheVariants.{Delta, Base, Split}
use Rattle.bw_record.specs.declared.block.Frame.{Frame}
use Rattle.bw_codec.proofs.Sizing.{block_lengths}
use Rattle.bw_page.specs.Leaves.{AreNumbered}
use Rattle.bw_leaf.specs.Forwards.{after, content, blocks_of}
use Rattle.bw_page.specs.Standing.{Stand}
use Rattle.bw_log.specs.Places.{placed, all_placed, or_else, bad_link, AreLinked}
use Rattle.bw_log.specs.Segments.{following}
use Rattle.bw_log.specs.Contents.{Contents, counted, IsStanding, IsSound}
use Rattle.bw_log.specs.Appends.{MayFollow}
use Rattle.bw_log.proofs.Walk.{same_after}
use Rattle.bw_log.proofs.Walks.{blocks_more}
use Rattle.bw_log.proofs.Links.{bad_link-append}
use Rattle.bw_log.proofs.Entries.{all_append, all_mapped}
use Rattle.bw_log.proofs.GivenUp.{placed_more}
use Rattle.bw_care.specs.Ahead.{PageRead}
use Rattle.bw_care.specs.Cleaning.{IsRewritten}

-- ---- what pages are after them

base_by : (p : ℕ) (was : List Block) (leaf : Leaf) (t : Bool) → (leaf.page == p) ≡ t → content leaf.page was ≡ Some leaf
    → (if t then Some leaf else content p was) ≡ content p was
base_by p was leaf true same is = sym is ∙ ap (λ (n : ℕ). content n was) (eqb-true leaf.page p same)
base_by p was leaf false same is = refl

base_leaves : (p : ℕ) (was : List Block) (b : Block) → IsRewritten was b → after p (content p was) b ≡ content p was
base_leaves p was (Delta page back ops) is = absurd is
base_leaves p was (Base leaf) is = base_by p was leaf (leaf.page == p) refl is
base_leaves p was (Split page back upper) is = absurd is

bases_fold : (p : ℕ) (was bs : List Block) → AllByRecursion (IsRewritten was) bs → fold (after p) (content p was) bs ≡ content p was
bases_fold p was [] are = refl
bases_fold p was (b ∷ bs) are = ap (λ (w : Option Leaf). fold (after p) w bs) (base_leaves p was b are.0) ∙ bases_fold p was bs are.1

pub bases_leave : (p : ℕ) (was bs : List Block) → AllByRecursion (IsRewritten was) bs → content p (was ++ bs) ≡ content p was
bases_leave p was bs are = fold-append (after p) None was bs ∙ bases_fold p was bs are

pub frames_leave : (p : ℕ) (fs xs : List Frame) → AllByRecursion (IsRewritten (blocks_of fs)) (blocks_of xs)
    → content p (blocks_of (fs ++ xs)) ≡ content p (blocks_of fs)
frames_leave p fs xs are = ap (content p) (blocks_more fs xs) ∙ bases_leave p (blocks_of fs) (blocks_of xs) are

-- what stands again stood before
rewritten_as : (was now : List Block) → ((p : ℕ) → content p now ≡ content p was) → (b : Block) → IsRewritten now b → IsRewritten was b
rewritten_as was now same (Delta page back ops) is = is
rewritten_as was now same (Base leaf) is = sym (same leaf.page) ∙ is
rewritten_as was now same (Split page back upper) is = is

pub all_rewritten : (was now : List Block) → ((p : ℕ) → content p now ≡ content p was) → (bs : List Block) → AllByRecursion (IsRewritten now) bs
    → AllByRecursion (IsRewritten was) bs
all_rewritten was now same bs are = all_mapped (IsRewritten now) (IsRewritten was) bs (rewritten_as was now same) are

-- ---- which pages they touch

nothing_said : (p : ℕ) (w : Option Leaf) (bs : List Block) → AllByRecursion (λ b. touches p b ≡ false) bs → fold (after p) w bs ≡ w
nothing_said p w [] none = refl
nothing_said p w (b ∷ bs) none = ap (λ (v : Option Leaf). fold (after p) v bs) (same_after p w b none.0) ∙ nothing_said p w bs none.1

not_there : (p : ℕ) (was : List Block) (leaf : Leaf) (t : Bool) → (leaf.page == p) ≡ t → content leaf.page was ≡ Some leaf → content p was ≡ None → t ≡ false
not_there p was leaf false same is none = refl
not_there p was leaf true same is none =
    let e : None ≡ Some leaf = sym none ∙ ap (λ (n : ℕ). content n was) (sym (eqb-true leaf.page p same)) ∙ is in cc

base_untouched : (p : ℕ) (was : List Block) → content p was ≡ None → (b : Block) → IsRewritten was b → touches p b ≡ false
base_untouched p was none (Delta page back ops) is = absurd is
base_untouched p was none (Base leaf) is = not_there p was leaf (leaf.page == p) refl is none
base_untouched p was none (Split page back upper) is = absurd is

-- they stand as what was there
pub stand_more : (m : ℕ) (fs xs : List Frame) (leaves : List Leaf) → Stand m fs leaves → AllByRecursion (IsRewritten (blocks_of fs)) (blocks_of xs)
    → Stand m (fs ++ xs) leaves
stand_more m fs xs leaves stand are = record {
  some = (let one = stand.some in omega (arith, length-append fs xs));
  lawful = stand.lawful;
  each = λ p low high. frames_leave p fs xs are ∙ stand.each p low high;
  all = λ p beyond.
      (let none = nothing_said p None (blocks_of fs) (stand.all p beyond) in
      subst (AllByRecursion (λ (b : Block). touches p b ≡ false)) (sym (blocks_more fs xs))
      (all_append (λ (b : Block). touches p b ≡ false) (blocks_of fs) (blocks_of xs) (stand.all p beyond)
      (all_mapped (IsRewritten (blocks_of fs)) (λ (b : Block). touches p b ≡ false) (blocks_of xs) (base_untouched p (blocks_of fs) none) are)));
}

-- ---- links: a Base has none

base_links : (first : ℕ) (before : List (Place × Block)) (n i : ℕ) (was bs : List Block) → AllByRecursion (IsRewritten was) bs
    → bad_link first before (placed n i bs) ≡ None
base_links first before n i was [] are = refl
base_links first before n i was (Delta page back ops ∷ bs) are = absurd are.0
base_links first before n i was (Base leaf ∷ bs) are = base_links first (before ++ (record { frame = n; index = i }, Base leaf) ∷ []) n (i + 1) was bs are.1
base_links first before n i was (Split page back upper ∷ bs) are = absurd are.0

both_none : {A : Type 0} (x y : Option A) → x ≡ None → y ≡ None → or_else x y ≡ None
both_none None y a b = b
both_none (Some x) y a b = absurd cc

one_placed : (x : Frame) → all_placed (x ∷ []) ≡ placed x.number 0 x.blocks
one_placed x = append-nil (placed x.number 0 x.blocks)

links_more : (fs : List Frame) (x : Frame) (was : List Block) → AreLinked fs → AllByRecursion (IsRewritten was) x.blocks → AreLinked (fs ++ x ∷ [])
links_more [] x was linked are = ap (bad_link x.number []) (one_placed x) ∙ base_links x.number [] x.number 0 was x.blocks are
links_more (g ∷ gs) x was linked are =
    ap (bad_link g.number []) (placed_more (g ∷ gs) (x ∷ []))
    ∙ bad_link-append g.number [] (all_placed (g ∷ gs)) (all_placed (x ∷ []))
    ∙ both_none (bad_link g.number [] (all_placed (g ∷ gs))) (bad_link g.number (all_placed (g ∷ gs)) (all_placed (x ∷ []))) linked
    (ap (bad_link g.number (all_placed (g ∷ gs))) (one_placed x) ∙ base_links g.number (all_placed (g ∷ gs)) x.number 0 was x.blocks are)

-- ---- a frame of them may follow

pub one_frame : (x : Frame) → blocks_of (x ∷ []) ≡ x.blocks
one_frame x = append-nil x.blocks

-- a log with a page stands
pub some_stand : (m pages : ℕ) (fs : List Frame) → 1 ≤ pages → IsStanding m fs pages → (leaves : List Leaf) × Stand m fs leaves × (length leaves ≡ pages)
some_stand m pages fs some (inl none) = let zero_pages = none.1 in absurd (omega arith)
some_stand m pages fs some (inr stands) = stands

pub may_follow : (c : Contents) (x : Frame) → IsSound c → 1 ≤ length c.pages → c.next ≡ Some x.number → IsFrame c.m c.f x
    → AllByRecursion (IsRewritten (blocks_of (counted c))) x.blocks → MayFollow c x
may_follow c x sound some number lawful are =
    let stands = some_stand c.m (length c.pages) (counted c) some sound.holds.stands in
    record {
      number = number;
      lawful = lawful;
      links = links_more (counted c) x (blocks_of (counted c)) sound.holds.linked are;
      leaves = stands.0;
      stands = stand_more c.m (counted c) (x ∷ []) stands.0 stands.1 (subst (AllByRecursion (IsRewritten (blocks_of (counted c)))) (sym (one_frame x)) are);
    }

-- ---- numbers of frames

abbrev pub InRange : Option ℕ → Type 0
InRange None = Unit {0}
InRange (Some n) = (1 ≤ n) × (n < 2 ^ 64)

following_by : (n : ℕ) (t : Bool) → nat_lt (n + 1) (2 ^ 64) ≡ t → InRange (if t then Some (n + 1) else None)
following_by n true is = (omega arith, ltb-true (n + 1) (2 ^ 64) is)
following_by n false is = tt

next_by : (was : Option ℕ) (fs : List Frame) → InRange was → InRange (fold (λ was f. following f.number) was fs)
next_by was [] in_range = in_range
next_by was (f ∷ fs) in_range = next_by (following f.number) fs (following_by f.number (nat_lt (f.number + 1) (2 ^ 64)) refl)

-- the next frame's number is one
pub next_range : (c : Contents) (n : ℕ) → IsSound c → c.next ≡ Some n → (1 ≤ n) × (n < 2 ^ 64)
next_range c n sound is = subst InRange (sym sound.holds.follows ∙ is) (next_by (Some 1) (counted c) (lit≤ tt, lit< tt))

-- ---- a page that was read

numbered_at : (n i : ℕ) (leaves : List Leaf) (leaf : Leaf) → AreNumbered n leaves → slice_get leaves i ≡ Some leaf → leaf.page ≡ n + i
numbered_at n i [] leaf are is = absurd cc
numbered_at n zero (l ∷ ls) leaf are is = let e : l ≡ leaf = cc in (ap (λ (x : Leaf). x.page) (sym e) ∙ are.0 ∙ omega arith)
numbered_at n (suc i) (l ∷ ls) leaf are is = numbered_at (n + 1) i ls leaf are.1 is ∙ omega arith

each_at : (P : Leaf → Type 0) (i : ℕ) (leaves : List Leaf) (leaf : Leaf) → AllByRecursion P leaves → slice_get leaves i ≡ Some leaf → P leaf
each_at P i [] leaf are is = absurd cc
each_at P zero (l ∷ ls) leaf are is = let e : l ≡ leaf = cc in subst P e are.0
each_at P (suc i) (l ∷ ls) leaf are is = each_at P i ls leaf are.1 is

read_by : (c : Contents) (p : ℕ) (leaf : Leaf) (leaves : List Leaf) → Stand c.m (counted c) leaves → 1 ≤ p → p ≤ length leaves
    → content p (blocks_of (counted c)) ≡ Some leaf → PageRead c p leaf
read_by c zero leaf leaves stand some inside is = absurd (omega arith)
read_by c (suc n) leaf leaves stand some inside is =
    let at : slice_get leaves n ≡ Some leaf = sym (stand.each (suc n) some inside) ∙ is in
    let page : leaf.page ≡ suc n = numbered_at 1 n leaves leaf stand.lawful.pages at ∙ omega arith in
    record {
      page = page;
      stands = ap (λ (q : ℕ). content q (blocks_of (counted c))) page ∙ is;
      lawful = each_at (IsBase c.m) n leaves leaf stand.lawful.each at;
    }

pub page_read : (c : Contents) (p : ℕ) (leaf : Leaf) → IsSound c → 1 ≤ p → p ≤ length c.pages → content p (blocks_of (counted c)) ≡ Some leaf
    → PageRead c p leaf
page_read c p leaf sound some inside is =
    let stands = some_stand c.m (length c.pages) (counted c) (omega arith) sound.holds.stands in
    let len = stands.2 in
    read_by c p leaf stands.0 stands.1 some (omega arith) is

-- ---- sizes

-- a Base is far smaller than a frame
pub largest_base : (m : ℕ) (leaf : Leaf) → m ≤ 32 → IsBase m leaf → length (block_bytes (Base leaf)) ≤ 20712
largest_base m leaf few is = (let bound = block_lengths.base m leaf is in omega arith)
