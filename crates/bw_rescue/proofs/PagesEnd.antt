-- The pages in the end, if nothing is told as lost.

use Rattle.std.proofs.Common.{◌≡◌, ℕ, zero, suc, ◌+◌, ◌<◌, ◌≤◌, ◌⊎◌, inl, inr, Option, Some, None, List, [], ◌∷◌, ◌++◌, length, slice_get, refl, sym, ap, subst, ◌∙◌, arith}
use Rattle.std.specs.List.{AllByRecursion}
use Rattle.std.specs.List.Sorted.{IsStrictlySortedBy}
use Rattle.std.specs.BTreeMap as tree
use Rattle.std.specs.BTreeMap.{BTreeMap}
use Rattle.std.specs.Map.{keys_of}
use Rattle.std.specs.Ordering.{nat_cmp}
use Rattle.std.specs.declared.cmp.Ordering.TheVariants.{Less}
use Rattle.std.proofs.lemmas.Cmp.{nat_cmp_total, ranked}
use Rattle.std.proofs.lemmas.Map.Entries.{btree_map_get_place}
use Rattle.bw_record.specs.declared.leaf.Leaf.{Leaf}
use Rattle.bw_record.specs.declared.block.Block.{Block}
use Rattle.bw_leaf.specs.Forwards.{content}
use Rattle.bw_lines.specs.Lawful.{contents}
use Rattle.bw_rescue.specs.declared.pages.Line.{Line}
use Rattle.bw_rescue.specs.Pages.{IsPageOf, AreRead}

-- ---- the entries of a map

pub by_index : {X : Type 0} (P : X → Type 0) (xs : List X) → ((i : ℕ) (x : X) → slice_get xs i ≡ Some x → P x) → AllByRecursion P xs
by_index P [] all = tt
by_index P (x ∷ xs) all = (all zero x refl, by_index P xs (λ i y is. all (suc i) y is))

pub Found : BTreeMap ℕ Line → List (ℕ × Line) → Type 0
Found m rest = AllByRecursion (λ e. tree.get nat_cmp m e.0 ≡ Some e.1) rest

pub found : (m : BTreeMap ℕ Line) → tree.IsOrdered nat_cmp m → Found m m.entries
unfolding Found
found m ordered = by_index (λ (e : ℕ × Line). tree.get nat_cmp m e.0 ≡ Some e.1) m.entries (λ i e is. btree_map_get_place nat_cmp_total m i e.0 e.1 ordered is)

pub found_one : (m : BTreeMap ℕ Line) (k : ℕ) (line : Line) (rest : List (ℕ × Line)) → Found m ((k, line) ∷ rest) → (tree.get nat_cmp m k ≡ Some line) × Found m rest
unfolding Found
found_one m k line rest all = (all.0, all.1)

pub sorted_rest : (k : ℕ) (line : Line) (rest : List (ℕ × Line)) → IsStrictlySortedBy nat_cmp (keys_of ((k, line) ∷ rest)) → IsStrictlySortedBy nat_cmp (keys_of rest)
unfolding IsStrictlySortedBy
sorted_rest k line rest sorted = sorted.1

greater : (k : ℕ) (rest : List (ℕ × Line)) → AllByRecursion (λ y. nat_cmp k y ≡ Less) (keys_of rest) → AllByRecursion (λ (e : ℕ × Line). (k < e.0) ⊎ (k ≡ 0)) rest
greater k [] all = tt
greater k (e ∷ rest) all = (inl (ranked k e.0 Less (sym all.0)), greater k rest all.1)

greater_rest : (k : ℕ) (line : Line) (rest : List (ℕ × Line)) → IsStrictlySortedBy nat_cmp (keys_of ((k, line) ∷ rest)) → AllByRecursion (λ (e : ℕ × Line). (k < e.0) ⊎ (k ≡ 0)) rest
unfolding IsStrictlySortedBy
greater_rest k line rest sorted = greater k rest sorted.0

-- ---- one page more

with_page : Option Leaf → List Leaf → List Leaf
with_page None leaves = leaves
with_page (Some leaf) leaves = leaf ∷ leaves

first_page : (blocks : List Block) (p n : ℕ) → contents blocks p (suc n) ≡ with_page (content p blocks) (contents blocks (p + 1) n)
unfolding contents with_page
first_page blocks p n = by (content p blocks)
  where
    by : (o : Option Leaf) → (elim o as (λ _. List Leaf) [ None ↦ contents blocks (p + 1) n | Some leaf ↦ leaf ∷ contents blocks (p + 1) n ]) ≡ with_page o (contents blocks (p + 1) n)
    by None = refl
    by (Some leaf) = refl

page_beyond : (o : Option Leaf) (xs ys : List Leaf) → with_page o (xs ++ ys) ≡ with_page o xs ++ ys
unfolding with_page
page_beyond None xs ys = refl
page_beyond (Some leaf) xs ys = refl

none_yet : (blocks : List Block) (p : ℕ) → contents blocks p zero ≡ []
unfolding contents
none_yet blocks p = refl

one_page : (leaf : Leaf) → with_page (Some leaf) [] ≡ leaf ∷ []
unfolding with_page
one_page leaf = refl

contents_more : (blocks : List Block) (p n : ℕ) (leaf : Leaf) → content (p + n) blocks ≡ Some leaf → contents blocks p (suc n) ≡ contents blocks p n ++ leaf ∷ []
contents_more blocks p zero leaf is =
    let here : content p blocks ≡ Some leaf = (let same : p + 0 ≡ p = omega arith in subst (λ (q : ℕ). content q blocks ≡ Some leaf) same is) in
    first_page blocks p zero ∙ ap (λ (o : Option Leaf). with_page o (contents blocks (p + 1) zero)) here ∙ ap (with_page (Some leaf)) (none_yet blocks (p + 1)) ∙ one_page leaf
    ∙ ap (λ (l : List Leaf). l ++ leaf ∷ []) (sym (none_yet blocks p))
contents_more blocks p (suc n) leaf is =
    let next : content (p + 1 + n) blocks ≡ Some leaf = (let same : p + suc n ≡ p + 1 + n = omega arith in subst (λ (q : ℕ). content q blocks ≡ Some leaf) same is) in
    first_page blocks p (suc n) ∙ ap (with_page (content p blocks)) (contents_more blocks (p + 1) n leaf next)
    ∙ page_beyond (content p blocks) (contents blocks (p + 1) n) (leaf ∷ []) ∙ ap (λ (l : List Leaf). l ++ leaf ∷ []) (sym (first_page blocks p n))

-- ---- the pages so far

-- pages from 1 on are brought back, and the others have greater numbers
pub record AreSoFar (done : List Block) (all : ℕ) (rest : List (ℕ × Line)) (next : ℕ) (leaves : List Leaf) : Type 0 where
  pub n : ℕ
  pub is : leaves ≡ contents done 1 n
  pub near : next ≤ n + 1
  pub above : AllByRecursion (λ (e : ℕ × Line). (n < e.0) ⊎ (n ≡ 0)) rest
  pub count : n + length rest ≡ all

any_above : (n : ℕ) → n ≡ 0 → (rest : List (ℕ × Line)) → AllByRecursion (λ (e : ℕ × Line). (n < e.0) ⊎ (n ≡ 0)) rest
any_above n is [] = tt
any_above n is (e ∷ rest) = (inr is, any_above n is rest)

pub begins : (done : List Block) (m : BTreeMap ℕ Line) (leaves : List Leaf) → leaves ≡ [] → AreSoFar done (length m.entries) m.entries 1 leaves
begins done m leaves none = record { n = 0; is = none ∙ sym (none_yet done 1); near = omega arith; above = any_above 0 refl m.entries; count = omega arith }

whole : (done : List Block) (m : BTreeMap ℕ Line) (k : ℕ) (line : Line) → AreRead done m → tree.get nat_cmp m k ≡ Some line → line.lost ≡ None → content k done ≡ Some line.draft
whole done m k line read is none = (let this : IsPageOf done k (Some line) = subst (λ (o : Option Line). IsPageOf done k o) is (read k) in this none)

follows : (done : List Block) (n k next : ℕ) (leaf : Leaf) → content 0 done ≡ None → content k done ≡ Some leaf → (n < k) ⊎ (n ≡ 0) → next ≤ n + 1 → k ≤ next → k ≡ n + 1
follows done n k next leaf none is (inl more) far within = omega arith
follows done n zero next leaf none is (inr zero_yet) far within = (let two : Some leaf ≡ None = sym is ∙ none in cc)
follows done n (suc k) next leaf none is (inr zero_yet) far within = omega arith

pub goes_on : (done : List Block) (m : BTreeMap ℕ Line) (all k : ℕ) (line : Line) (rest : List (ℕ × Line)) (next later : ℕ) (leaves : List Leaf)
    → AreRead done m → content 0 done ≡ None → IsStrictlySortedBy nat_cmp (keys_of ((k, line) ∷ rest)) → tree.get nat_cmp m k ≡ Some line
    → AreSoFar done all ((k, line) ∷ rest) next leaves → k ≤ next → line.lost ≡ None → later ≤ k + 1
    → AreSoFar done all rest later (leaves ++ line.draft ∷ [])
goes_on done m all k line rest next later leaves read none sorted there far within lost after =
    let its : content k done ≡ Some line.draft = whole done m k line read there lost in
    let one : k ≡ far.n + 1 = follows done far.n k next line.draft none its far.above.0 far.near within in
    let here : content (1 + far.n) done ≡ Some line.draft = (let same : k ≡ 1 + far.n = omega arith in subst (λ (q : ℕ). content q done ≡ Some line.draft) same its) in
    record {
      n = suc far.n;
      is = ap (λ (l : List Leaf). l ++ line.draft ∷ []) far.is ∙ sym (contents_more done 1 far.n line.draft here);
      near = omega arith;
      above = (let same : k ≡ suc far.n = omega arith in subst (λ (q : ℕ). AllByRecursion (λ (e : ℕ × Line). (q < e.0) ⊎ (q ≡ 0)) rest) same (greater_rest k line rest sorted));
      count = (let was = far.count in omega arith);
    }
