-- Frames stand for one list of leaves only.

use Rattle.std.proofs.Common.{inl, inr, Some, None, ◌≡◌, ℕ, suc, ◌≤◌, ◌<◌, ◌==◌, ◌||◌, Bool, true, false, List, [], ◌∷◌, length, get_or}
use Rattle.std.proofs.Common.{refl, sym, ap, ◌∙◌, arith}
use Rattle.std.specs.List.{fold, AllByRecursion}
use Rattle.std.specs.Prelude.{Option, if◌then◌else◌}
use Rattle.std.proofs.lemmas.Bool.{cases_lt}
use Rattle.std.proofs.lemmas.List.{same_lists}
use Rattle.std.proofs.lemmas.Option.{slice_get-get_or}
use Rattle.bw_record.specs.Touch.{touches}
use Rattle.bw_record.specs.declared.leaf.Leaf.{Leaf}
use Rattle.bw_record.specs.declared.block.Block.{Block}
use Rattle.bw_record.specs.declared.block.Block.TheVariants.{Delta, Base, Split}
use Rattle.bw_record.specs.declared.block.Frame.{Frame}
use Rattle.bw_leaf.specs.Changed.{empty_leaf}
use Rattle.bw_page.specs.Leaves.{leaf_at}
use Rattle.bw_leaf.specs.Forwards.{after, content, blocks_of}
use Rattle.bw_page.specs.Standing.{Stand}
use Rattle.bw_page.specs.Laws.{StandsAsOne}

neither : {X : Type 0} (s t : Bool) (x y z : X) → (s || t) ≡ false → (if t then x else if s then y else z) ≡ z
neither true t x y z h = absurd cc
neither false true x y z h = absurd cc
neither false false x y z h = refl

step : (p : ℕ) (was : Option Leaf) (b : Block) → touches p b ≡ false → after p was b ≡ was
step p was (Delta page back ops) h = rw h refl
step p was (Base leaf) h = rw h refl
step p was (Split page back upper) h = neither (page == p) (upper.page == p) _ _ was h

-- blocks that do not touch a page leave it as it was
pub untouched : (p : ℕ) (was : Option Leaf) (bs : List Block) → AllByRecursion (λ b. touches p b ≡ false) bs → fold (after p) was bs ≡ was
untouched p was [] h = refl
untouched p was (b ∷ bs) h = ap (λ (w : Option Leaf). fold (after p) w bs) (step p was b h.0) ∙ untouched p was bs h.1

there : (leaves : List Leaf) (k : ℕ) (d : Leaf) → k < length leaves → leaf_at (suc k) leaves ≡ Some (get_or leaves k d)
there leaves k d h = slice_get-get_or leaves k d h

apart : {X : Type 0} (l : Leaf) → Some l ≡ None → X
apart l e = absurd cc

no_more : (m : ℕ) (frames : List Frame) (a b : List Leaf) → Stand m frames a → Stand m frames b → length a ≤ length b
no_more m frames a b sa sb =
    elim (cases_lt (length b) (length a)) [
      | inl more ↦ (
          let set : content (suc (length b)) (blocks_of frames) ≡ Some (get_or a (length b) empty_leaf) =
          sa.each (suc (length b)) (omega arith) (omega arith) ∙ there a (length b) empty_leaf more in
          let none : content (suc (length b)) (blocks_of frames) ≡ None =
          untouched (suc (length b)) None (blocks_of frames) (sb.all (suc (length b)) (omega arith)) in
          apart (get_or a (length b) empty_leaf) (sym set ∙ none))
      | inr le ↦ le
    ]

some_of : {X : Type 0} {a b : X} → Some a ≡ Some b → a ≡ b
some_of e = cc

pub one : StandsAsOne
one m frames a b sa sb =
    let ab = no_more m frames a b sa sb in
    let ba = no_more m frames b a sb sa in
    same_lists a b (omega arith) (λ k d h. some_of (sym (there a k d h)
    ∙ sym (sa.each (suc k) (omega arith) (omega arith))
    ∙ sb.each (suc k) (omega arith) (omega arith)
    ∙ there b k d (omega arith)))
