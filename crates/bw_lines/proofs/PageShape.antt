-- What stays of a page over its blocks: its number, and the shape of its low and its pairs.

use Rattle.std.proofs.Common.{◌≡◌, ℕ, ◌≤◌, ◌==◌, Bool, true, false, if◌then◌else◌, Option, Some, None, List, [], ◌∷◌, length}
use Rattle.std.proofs.Common.{refl, sym, subst}
use Rattle.std.specs.List.{fold, filter, AllByRecursion}
use Rattle.std.specs.Option.{option_map}
use Rattle.std.proofs.lemmas.Bool.{eqb-true}
use Rattle.bw_record.specs.Keys.{is_below}
use Rattle.bw_record.specs.Lawful.{IsPair, IsOp}
use Rattle.bw_codec.specs.Grammar.{IsPage, IsBase, IsBlock}
use Rattle.bw_record.specs.declared.record.Record.{Record}
use Rattle.bw_record.specs.declared.record.Record.TheVariants.{Put, Del}
use Rattle.bw_record.specs.declared.leaf.Leaf.{Leaf}
use Rattle.bw_record.specs.declared.block.Block.{Block}
use Rattle.bw_record.specs.declared.block.Block.TheVariants.{Delta, Base, Split}
use Rattle.bw_record.proofs.Order.{Below}
use Rattle.bw_leaf.specs.Changed.{Bytes, Pairs, changed, all_changed}
use Rattle.bw_leaf.specs.Forwards.{after, content, kept_below}
use Rattle.bw_leaf.proofs.Sorted.{Rises, ascends_rises, rises_ascends, rises-changed, all-changed, HoldsOfNew}

-- a leaf of page p, of lawful parts, with any number of pairs
pub record IsShaped (p : ℕ) (leaf : Leaf) : Type 0 where
  pub page : leaf.page ≡ p
  pub low : length leaf.low ≤ 128
  pub pairs : AllByRecursion IsPair leaf.pairs
  pub rises : Rises leaf.pairs

abbrev pub IsShapedIf : ℕ → Option Leaf → Type 0
IsShapedIf p None = Unit {0}
IsShapedIf p (Some leaf) = IsShaped p leaf

-- ---- a base

base_shaped : (m p : ℕ) (leaf : Leaf) → IsBase m leaf → leaf.page ≡ p → IsShaped p leaf
base_shaped m p leaf b is = record { page = is; low = b.low; pairs = b.pairs; rises = ascends_rises leaf.pairs b.ascends }

-- ---- records

new_pair : (r : Record) → IsOp r → HoldsOfNew IsPair r
new_pair (Put key value) op = op
new_pair (Del key) op = tt

change_shaped : (p : ℕ) (r : Record) (leaf : Leaf) → IsOp r → IsShaped p leaf → IsShaped p (changed r leaf)
change_shaped p r leaf op s = record {
  page = s.page;
  low = s.low;
  pairs = all-changed IsPair r leaf.pairs (new_pair r op) s.pairs;
  rises = rises-changed r leaf.pairs s.rises;
}

changes_shaped : (p : ℕ) (rs : List Record) (leaf : Leaf) → AllByRecursion IsOp rs → IsShaped p leaf → IsShaped p (all_changed rs leaf)
changes_shaped p [] leaf ops s = s
changes_shaped p (r ∷ rs) leaf ops s = changes_shaped p rs (changed r leaf) ops.1 (change_shaped p r leaf ops.0 s)

-- ---- a split

kept_all : {X : Type 0} (P : X → Type 0) (x : X) (xs : List X) (t : Bool) → P x → AllByRecursion P xs → AllByRecursion P (if t then x ∷ xs else xs)
kept_all P x xs true one all = (one, all)
kept_all P x xs false one all = all

filter_all : {X : Type 0} (P : X → Type 0) (test : X → Bool) (xs : List X) → AllByRecursion P xs → AllByRecursion P (filter test xs)
filter_all P test [] all = tt
filter_all P test (x ∷ xs) all = kept_all P x (filter test xs) (test x) all.0 (filter_all P test xs all.1)

kept_rises : (x : Bytes × Bytes) (xs : Pairs) (t : Bool) → AllByRecursion (λ q. Below x.0 q.0) xs → Rises xs → Rises (if t then x ∷ xs else xs)
kept_rises x xs true one all = (one, all)
kept_rises x xs false one all = all

filter_rises : (test : Bytes × Bytes → Bool) (xs : Pairs) → Rises xs → Rises (filter test xs)
filter_rises test [] all = tt
filter_rises test (x ∷ xs) all = kept_rises x (filter test xs) (test x) (filter_all (λ q. Below x.0 q.0) test xs all.0) (filter_rises test xs all.1)

split_shaped : (p : ℕ) (low : Bytes) (leaf : Leaf) → IsShaped p leaf → IsShaped p (kept_below low leaf)
split_shaped p low leaf s = record {
  page = s.page;
  low = s.low;
  pairs = filter_all IsPair (λ q. is_below q.0 low) leaf.pairs s.pairs;
  rises = filter_rises (λ q. is_below q.0 low) leaf.pairs s.rises;
}

-- ---- one block

if_shaped : (p : ℕ) (f : Leaf → Leaf) (was : Option Leaf) → ((leaf : Leaf) → IsShaped p leaf → IsShaped p (f leaf)) → IsShapedIf p was
    → IsShapedIf p (option_map f was)
if_shaped p f None keeps s = tt
if_shaped p f (Some leaf) keeps s = keeps leaf s

either : (p : ℕ) (a b : Option Leaf) (t : Bool) → (t ≡ true → IsShapedIf p a) → IsShapedIf p b → IsShapedIf p (if t then a else b)
either p a b true x y = x refl
either p a b false x y = y

pub after_shaped : (m p : ℕ) (was : Option Leaf) (b : Block) → IsBlock m b → IsShapedIf p was → IsShapedIf p (after p was b)
after_shaped m p was (Delta page back ops) law s =
    either p (option_map (all_changed ops) was) was (page == p) (λ _. if_shaped p (all_changed ops) was (λ leaf t. changes_shaped p ops leaf law.each t) s) s
after_shaped m p was (Base leaf) law s = either p (Some leaf) was (leaf.page == p) (λ e. base_shaped m p leaf law (eqb-true leaf.page p e)) s
after_shaped m p was (Split page back upper) law s =
    either p (Some upper) (if page == p then option_map (kept_below upper.low) was else was) (upper.page == p)
    (λ e. base_shaped m p upper law.makes (eqb-true upper.page p e))
    (either p (option_map (kept_below upper.low) was) was (page == p)
    (λ _. if_shaped p (kept_below upper.low) was (λ leaf t. split_shaped p upper.low leaf t) s) s)

fold_shaped : (m p : ℕ) (was : Option Leaf) (bs : List Block) → AllByRecursion (IsBlock m) bs → IsShapedIf p was → IsShapedIf p (fold (after p) was bs)
fold_shaped m p was [] laws s = s
fold_shaped m p was (b ∷ bs) laws s = fold_shaped m p (after p was b) bs laws.1 (after_shaped m p was b laws.0 s)

pub content_shaped : (m p : ℕ) (bs : List Block) (leaf : Leaf) → AllByRecursion (IsBlock m) bs → content p bs ≡ Some leaf → IsShaped p leaf
content_shaped m p bs leaf laws is = subst (IsShapedIf p) is (fold_shaped m p None bs laws tt)

pub shaped_base : (m p : ℕ) (leaf : Leaf) → IsShaped p leaf → IsPage p → length leaf.pairs ≤ m → IsBase m leaf
shaped_base m p leaf s page few = record {
  page = subst IsPage (sym s.page) page;
  low = s.low;
  count = few;
  pairs = s.pairs;
  ascends = rises_ascends leaf.pairs s.rises;
}
