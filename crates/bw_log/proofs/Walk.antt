-- One page, block by block: what a block leaves, forgets, or sets.

use Rattle.std.proofs.Common.{◌≡◌, ℕ, ◌==◌, ◌||◌, Bool, true, false, Option, None, List, [], ◌∷◌, ◌++◌, if◌then◌else◌, refl, sym, ap, ◌∙◌}
use Rattle.std.specs.List.{fold, list_any}
use Rattle.std.proofs.lemmas.Bool.{or_parts}
use Rattle.std.proofs.lemmas.Grind.{fold-append}
use Rattle.bw_record.specs.Touch.{sets, touches}
use Rattle.bw_record.specs.declared.leaf.Leaf.{Leaf}
use Rattle.bw_record.specs.declared.block.Block.{Block}
use Rattle.bw_record.specs.declared.block.Block.TheVariants.{Delta, Base, Split}
use Rattle.bw_leaf.specs.Forwards.{after, content}
use Rattle.bw_log.specs.Laws.{trail, Locality}

-- ---- one block

pub same_after : (p : ℕ) (w : Option Leaf) (b : Block) → touches p b ≡ false → after p w b ≡ w
same_after p w (Delta page back ops) e = rw e refl
same_after p w (Base leaf) e = rw e refl
same_after p w (Split page back upper) e =
    let parts = or_parts (page == p) (upper.page == p) e in
    rw (parts.1, parts.0) refl

pub forgets_after : (p : ℕ) (v w : Option Leaf) (b : Block) → sets p b ≡ true → after p v b ≡ after p w b
forgets_after p v w (Delta page back ops) e = absurd cc
forgets_after p v w (Base leaf) e = rw e refl
forgets_after p v w (Split page back upper) e = rw e refl

none_by : (t : Bool) → ◌≡◌ {A = Option Leaf} (if t then None else None) None
none_by true = refl
none_by false = refl

pub none_after : (p : ℕ) (b : Block) → sets p b ≡ false → after p None b ≡ None
none_after p (Delta page back ops) e = none_by (page == p)
none_after p (Base leaf) e = rw e refl
none_after p (Split page back upper) e = rw e (none_by (page == p))

-- a block that sets a page touches it
pub sets_touches : (p : ℕ) (b : Block) → touches p b ≡ false → sets p b ≡ false
sets_touches p (Delta page back ops) e = refl
sets_touches p (Base leaf) e = e
sets_touches p (Split page back upper) e = (or_parts (page == p) (upper.page == p) e).1

-- ---- many blocks

pub same_fold : (p : ℕ) (w : Option Leaf) (bs : List Block) → list_any (touches p) bs ≡ false → fold (after p) w bs ≡ w
same_fold p w [] e = refl
same_fold p w (b ∷ bs) e =
    let parts = or_parts (touches p b) (list_any (touches p) bs) e in
    ap (λ (v : Option Leaf). fold (after p) v bs) (same_after p w b parts.0) ∙ same_fold p w bs parts.1

pub none_fold : (p : ℕ) (bs : List Block) → list_any (sets p) bs ≡ false → fold (after p) None bs ≡ None
none_fold p [] e = refl
none_fold p (b ∷ bs) e =
    let parts = or_parts (sets p b) (list_any (sets p) bs) e in
    ap (λ (v : Option Leaf). fold (after p) v bs) (none_after p b parts.0) ∙ none_fold p bs parts.1

forgets_by : (p : ℕ) (v w : Option Leaf) (b : Block) (bs : List Block) (t : Bool) → sets p b ≡ t
    → ((v w : Option Leaf) → list_any (sets p) bs ≡ true → fold (after p) v bs ≡ fold (after p) w bs)
    → (t || list_any (sets p) bs) ≡ true → fold (after p) v (b ∷ bs) ≡ fold (after p) w (b ∷ bs)
forgets_by p v w b bs true is others e = ap (λ (x : Option Leaf). fold (after p) x bs) (forgets_after p v w b is)
forgets_by p v w b bs false is others e = others (after p v b) (after p w b) e

pub forgets_fold : (p : ℕ) (v w : Option Leaf) (bs : List Block) → list_any (sets p) bs ≡ true → fold (after p) v bs ≡ fold (after p) w bs
forgets_fold p v w [] e = absurd cc
forgets_fold p v w (b ∷ bs) e = forgets_by p v w b bs (sets p b) refl (λ v w. forgets_fold p v w bs) e

-- ---- a page's content depends only on its trail

abbrev trail_step : ℕ → List Block → Block → List Block
trail_step p was b = if sets p b then b ∷ [] else if touches p b then was ++ b ∷ [] else was

trail_by : (p : ℕ) (t : List Block) (b : Block) (x y : Bool) → sets p b ≡ x → touches p b ≡ y
    → after p (content p t) b ≡ content p (if x then b ∷ [] else if y then t ++ b ∷ [] else t)
trail_by p t b true y is touched = forgets_after p (content p t) None b is
trail_by p t b false true is touched = sym (fold-append (after p) None t (b ∷ []))
trail_by p t b false false is touched = same_after p (content p t) b touched

along_trail : (p : ℕ) (t bs : List Block) → fold (after p) (content p t) bs ≡ content p (fold (trail_step p) t bs)
along_trail p t [] = refl
along_trail p t (b ∷ bs) =
    ap (λ (w : Option Leaf). fold (after p) w bs) (trail_by p t b (sets p b) (touches p b) refl refl) ∙ along_trail p (trail_step p t b) bs

pub content_of_trail : (p : ℕ) (bs : List Block) → content p bs ≡ content p (trail p bs)
content_of_trail p bs = along_trail p [] bs

pub locality_lem : Locality
locality_lem p a b same = content_of_trail p a ∙ ap (content p) same ∙ sym (content_of_trail p b)
