-- What the frame in the making has of a page, block by block.

use Rattle.std.proofs.Common.{◌≡◌, ℕ, zero, suc, ◌<◌, ◌≤◌, Bool, true, false, Option, Some, List, [], ◌∷◌, ◌++◌}
use Rattle.std.proofs.Common.{length, take, refl, sym, ap, ◌∙◌, subst, arith, append-nil}
use Rattle.std.specs.Prelude.{◌==◌, ◌||◌, IfSome}
use Rattle.std.specs.List.{list_any, slice_get}
use Rattle.std.proofs.lemmas.Bool.{or_parts}
use Rattle.std.proofs.lemmas.Grind.{flat_map-append}
use Rattle.std.proofs.lemmas.List.{take_all}
use Rattle.std.proofs.lemmas.List.Folds.{list_any-append}
use Rattle.bw_record.specs.Touch.{touches}
use Rattle.bw_record.specs.declared.record.Record.{Record}
use Rattle.bw_record.specs.declared.block.Block.{Block}
use Rattle.bw_record.specs.declared.block.Block.TheVariants.{Delta, Base, Split}
use Rattle.bw_buffer.specs.Marks.{mark_of}
use Rattle.bw_buffer.specs.declared.mark.Mark.{Mark}
use Rattle.bw_making.specs.Share.{ops_of, ops_at}
use Rattle.bw_making.specs.Overlay.{makes, is_made, made_by}

-- a page that no block touches is not made, and there is no record of it
pub untouched_by : (p : ℕ) (bs : List Block) → list_any (touches p) bs ≡ false → (is_made p bs ≡ false) × (ops_at p bs ≡ [])
untouched_by p [] e = (refl, refl)
untouched_by p (Delta page back ops ∷ bs) e =
    (let parts = or_parts (page == p) (list_any (touches p) bs) e in
    let rest = untouched_by p bs parts.1 in
    (rest.0, rw parts.0 rest.1))
untouched_by p (Base leaf ∷ bs) e =
    (let parts = or_parts (leaf.page == p) (list_any (touches p) bs) e in
    let rest = untouched_by p bs parts.1 in
    (rw parts.0 rest.0, rest.1))
untouched_by p (Split page back upper ∷ bs) e =
    (let parts = or_parts ((page == p) || (upper.page == p)) (list_any (touches p) bs) e in
    let apart = or_parts (page == p) (upper.page == p) parts.0 in
    let rest = untouched_by p bs parts.1 in
    (rw (apart.0, apart.1) rest.0, rest.1))

-- ---- a block and its mark

made_as : (p : ℕ) (b : Block) → made_by p (mark_of b) ≡ makes p b
made_as p (Delta page back ops) = refl
made_as p (Base leaf) = refl
made_as p (Split page back upper) = refl

-- the block at an index of a frame
at_index : (blocks : List Block) (i : ℕ) → i < length blocks
    → (b : Block) × (slice_get blocks i ≡ Some b) × (take (suc i) blocks ≡ take i blocks ++ b ∷ [])
at_index [] i h = absurd (omega arith)
at_index (b ∷ bs) zero h = (b, refl, refl)
at_index (b ∷ bs) (suc i) h = (let rest = at_index bs i (omega arith) in (rest.0, rest.1, ap (λ (xs : List Block). b ∷ xs) rest.2))

-- ---- whether a page is made

module _ (p : ℕ) (blocks : List Block) (i : ℕ) (mark : Mark) (inside : i < length blocks) (is : IfSome (slice_get blocks i) (λ b. mark ≡ mark_of b)) where
  named : mark ≡ mark_of (at_index blocks i inside).0
  named = (let a = at_index blocks i inside in subst (λ (o : Option Block). IfSome o (λ b. mark ≡ mark_of b)) a.1 is)

  here : made_by p mark ≡ makes p (at_index blocks i inside).0
  here = ap (made_by p) named ∙ made_as p (at_index blocks i inside).0

  pub made_here : made_by p mark ≡ true → true ≡ is_made p blocks
  made_here sure = sym (made_at blocks i (at_index blocks i inside).0 (at_index blocks i inside).1 (sym here ∙ sure))
    where
      or_true : (x : Bool) → (x || true) ≡ true
      or_true true = refl
      or_true false = refl

      made_at : (bs : List Block) (k : ℕ) (b : Block) → slice_get bs k ≡ Some b → makes p b ≡ true → is_made p bs ≡ true
      made_at [] k b e t = absurd cc
      made_at (x ∷ xs) zero b e t = (let same : x ≡ b = cc in rw (ap (makes p) same ∙ t) refl)
      made_at (x ∷ xs) (suc k) b e t = ap (λ (y : Bool). makes p x || y) (made_at xs k b e t) ∙ or_true (makes p x)

  pub made_further : (k : ℕ) → k ≡ suc i → made_by p mark ≡ false → is_made p (take i blocks) ≡ false → is_made p (take k blocks) ≡ false
  made_further k next not before =
      let a = at_index blocks i inside in
      ap (λ (j : ℕ). is_made p (take j blocks)) next
      ∙ ap (is_made p) a.2
      ∙ list_any-append (makes p) (take i blocks) (a.0 ∷ [])
      ∙ ap (λ (x : Bool). x || (makes p a.0 || false)) before
      ∙ ap (λ (x : Bool). x || false) (sym here ∙ not)

pub made_nowhere : (p : ℕ) (blocks : List Block) (i : ℕ) → length blocks ≤ i → is_made p (take i blocks) ≡ false → false ≡ is_made p blocks
made_nowhere p blocks i end none = sym (ap (is_made p) (sym (take_all i blocks end)) ∙ none)

-- ---- the records of a page

pub ops_further : (p : ℕ) (blocks : List Block) (i k : ℕ) (old new : List Record) → i < length blocks → k ≡ suc i → old ≡ ops_at p (take i blocks)
    → IfSome (slice_get blocks i) (λ b. new ≡ old ++ ops_of p b) → new ≡ ops_at p (take k blocks)
ops_further p blocks i k old new inside next was is =
    let a = at_index blocks i inside in
    let more : new ≡ old ++ ops_of p a.0 = subst (λ (o : Option Block). IfSome o (λ b. new ≡ old ++ ops_of p b)) a.1 is in
    more
    ∙ ap (λ (rs : List Record). rs ++ ops_of p a.0) was
    ∙ ap (λ (rs : List Record). ops_at p (take i blocks) ++ rs) (sym (append-nil (ops_of p a.0)))
    ∙ sym (flat_map-append (ops_of p) (take i blocks) (a.0 ∷ []))
    ∙ ap (ops_at p) (sym a.2)
    ∙ ap (λ (j : ℕ). ops_at p (take j blocks)) (sym next)

pub ops_end : (p : ℕ) (blocks : List Block) (i : ℕ) (records : List Record) → length blocks ≤ i → records ≡ ops_at p (take i blocks)
    → records ≡ ops_at p blocks
ops_end p blocks i records end is = is ∙ ap (ops_at p) (take_all i blocks end)
