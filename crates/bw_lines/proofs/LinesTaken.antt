-- What a line says is what the blocks say.

use Rattle.std.proofs.Common.{◌≡◌, ℕ, ◌+◌, ◌≤◌, ◌==◌, Bool, true, false, if◌then◌else◌, Option, Some, None, List, [], ◌∷◌, ◌++◌, map, refl}
use Rattle.std.proofs.Common.{sym, ap, ◌∙◌, arith}
use Rattle.std.specs.List.{fold, AllByRecursion}
use Rattle.std.proofs.lemmas.Bool.{eqb-true, true≢false}
use Rattle.std.proofs.lemmas.List.{map-append}
use Rattle.bw_record.specs.Touch.{sets, touches}
use Rattle.bw_record.specs.declared.block.Block.{Block}
use Rattle.bw_record.specs.declared.block.Place.{Place}
use Rattle.bw_record.specs.declared.block.Frame.{Frame}
use Rattle.bw_record.specs.declared.leaf.Leaf.{Leaf}
use Rattle.bw_record.proofs.Order.{must_not}
use Rattle.bw_leaf.specs.Forwards.{after, content, blocks_of}
use Rattle.bw_log.specs.Places.{later, placed, all_placed, place_of, base_of, walked, walk_to}
use Rattle.bw_log.specs.Contents.{some_place}
use Rattle.bw_log.proofs.Walk.{same_after, sets_touches}
use Rattle.bw_lines.specs.declared.links.Line.{Line}
use Rattle.bw_lines.specs.Reading.{place_in, at_in, leaf_in, line_after, line_of}
use Rattle.bw_lines.proofs.LinksRead.{place_is}
use Rattle.bw_log.proofs.Entries.{all_append}

-- ---- the leaf

leaf_step : (p : ℕ) (was : Option Line) (w : Option Leaf) (x : Place × Block) (t : Bool) → touches p x.1 ≡ t → leaf_in was ≡ w
    → leaf_in (line_after p was x) ≡ after p w x.1
leaf_step p was w x true e same = rw e (ap (λ (o : Option Leaf). after p o x.1) same)
leaf_step p was w x false e same = rw e (same ∙ sym (same_after p w x.1 e))

leaf_fold : (p : ℕ) (was : Option Line) (w : Option Leaf) (xs : List (Place × Block)) → leaf_in was ≡ w
    → leaf_in (line_of p was xs) ≡ fold (after p) w (map (λ x. x.1) xs)
leaf_fold p was w [] same = same
leaf_fold p was w (x ∷ xs) same = leaf_fold p (line_after p was x) (after p w x.1) xs (leaf_step p was w x (touches p x.1) refl same)

blocks_placed : (n i : ℕ) (bs : List Block) → map (λ x. x.1) (placed n i bs) ≡ bs
blocks_placed n i [] = refl
blocks_placed n i (b ∷ bs) = ap (λ (l : List Block). b ∷ l) (blocks_placed n (i + 1) bs)

pub blocks_all : (fs : List Frame) → map (λ x. x.1) (all_placed fs) ≡ blocks_of fs
blocks_all [] = refl
blocks_all (f ∷ fs) =
    map-append (λ (x : Place × Block). x.1) (placed f.number 0 f.blocks) (all_placed fs)
    ∙ ap (λ (l : List Block). l ++ map (λ (x : Place × Block). x.1) (all_placed fs)) (blocks_placed f.number 0 f.blocks)
    ∙ ap (λ (l : List Block). f.blocks ++ l) (blocks_all fs)

-- the forward reading
pub leaf_is : (p : ℕ) (fs : List Frame) → leaf_in (line_of p None (all_placed fs)) ≡ content p (blocks_of fs)
leaf_is p fs = leaf_fold p None None (all_placed fs) refl ∙ ap (content p) (blocks_all fs)

-- ---- the places

some_there : (p : Place) → 1 ≤ p.frame → some_place p ≡ Some p
some_there p from = ap (λ (t : Bool). if t then None else Some p) (must_not (p.frame == 0) (λ e. (let zero_is = eqb-true p.frame 0 e in omega arith)))

base_set : (p : ℕ) (was : Option Line) (last : Option Place) (x : Place × Block) (t u : Bool) → touches p x.1 ≡ t → sets p x.1 ≡ u → 1 ≤ x.0.frame
    → some_place ((at_in was).base) ≡ last → some_place ((at_in (line_after p was x)).base) ≡ later (sets p) last x
base_set p was last x true true e f from same = rw (e, f) (some_there x.0 from)
base_set p was last x true false e f from same = rw (e, f) same
base_set p was last x false true e f from same = absurd (true≢false (sym f ∙ sets_touches p x.1 e))
base_set p was last x false false e f from same = rw (e, f) same

base_fold : (p : ℕ) (was : Option Line) (last : Option Place) (xs : List (Place × Block)) → AllByRecursion (λ x. 1 ≤ x.0.frame) xs
    → some_place ((at_in was).base) ≡ last → some_place ((at_in (line_of p was xs)).base) ≡ fold (later (sets p)) last xs
base_fold p was last [] from same = same
base_fold p was last (x ∷ xs) from same =
    base_fold p (line_after p was x) (later (sets p) last x) xs from.1 (base_set p was last x (touches p x.1) (sets p x.1) refl refl from.0 same)

placed_from : (n i : ℕ) (bs : List Block) → 1 ≤ n → AllByRecursion (λ x. 1 ≤ x.0.frame) (placed n i bs)
placed_from n i [] from = tt
placed_from n i (b ∷ bs) from = (from, placed_from n (i + 1) bs from)

pub all_from : (fs : List Frame) → AllByRecursion (λ f. 1 ≤ f.number) fs → AllByRecursion (λ x. 1 ≤ x.0.frame) (all_placed fs)
all_from [] from = tt
all_from (f ∷ fs) from = all_append (λ x. 1 ≤ x.0.frame) (placed f.number 0 f.blocks) (all_placed fs) (placed_from f.number 0 f.blocks from.0)
    (all_from fs from.1)

pub base_is : (p : ℕ) (fs : List Frame) → AllByRecursion (λ f. 1 ≤ f.number) fs → some_place ((at_in (line_of p None (all_placed fs))).base) ≡ base_of p fs
base_is p fs from = base_fold p None None (all_placed fs) (all_from fs from) refl

pub place_of_is : (p : ℕ) (fs : List Frame) → place_in (line_of p None (all_placed fs)) ≡ place_of p fs
place_of_is p fs = place_is p (all_placed fs)

-- ---- the walk

abbrev pub walk_line : Option Line → ℕ × ℕ
walk_line o = ((at_in o).place.frame, (at_in o).walk)

walk_step : (p : ℕ) (was : Option Line) (x : Place × Block) (t u : Bool) → touches p x.1 ≡ t → sets p x.1 ≡ u
    → walk_line (line_after p was x) ≡ walked p (walk_line was) x
walk_step p was x true true e f = rw (e, f) refl
walk_step p was x true false e f = rw (e, f) refl
walk_step p was x false true e f = absurd (true≢false (sym f ∙ sets_touches p x.1 e))
walk_step p was x false false e f = rw (e, f) refl

walk_fold : (p : ℕ) (was : Option Line) (xs : List (Place × Block)) → walk_line (line_of p was xs) ≡ fold (walked p) (walk_line was) xs
walk_fold p was [] = refl
walk_fold p was (x ∷ xs) =
    walk_fold p (line_after p was x) xs ∙ ap (λ (w : ℕ × ℕ). fold (walked p) w xs) (walk_step p was x (touches p x.1) (sets p x.1) refl refl)

pub walk_is : (p : ℕ) (fs : List Frame) → walk_line (line_of p None (all_placed fs)) ≡ walk_to p fs
walk_is p fs = walk_fold p None (all_placed fs)
