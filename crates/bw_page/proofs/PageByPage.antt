-- Leaves after a record, page by page.

use Rattle.std.proofs.Common.{◌≡◌, ◌≢◌, ℕ, zero, suc, ◌+◌, true, false, Option, Some, None, List, [], ◌∷◌, ◌++◌, map, length, refl, sym, ap, ◌∙◌}
use Rattle.std.proofs.Common.{arith, if◌then◌else◌, length-append}
use Rattle.std.specs.Prelude.{◌==◌}
use Rattle.std.specs.List.{slice_get}
use Rattle.std.specs.Option.{option_map}
use Rattle.std.proofs.lemmas.Bool.{eqb-true, eqb-false}
use Rattle.std.proofs.lemmas.List.{length-map}
use Rattle.bw_record.specs.Record.{key_of}
use Rattle.bw_record.specs.declared.leaf.Leaf.{Leaf}
use Rattle.bw_leaf.specs.Changed.{Bytes, changed}
use Rattle.bw_page.specs.Leaves.{home, leaf_at, AreNumbered, AreLeaves}
use Rattle.bw_leaf.specs.SplitRule.{lower_of, upper_of}
use Rattle.bw_page.specs.Laws.{AppliesPageByPage}
use Rattle.bw_page.proofs.Homes.{home-all, put_in}
use Rattle.bw_page.proofs.Applying.{put_in-at, put_in-other}
use Rattle.bw_page.proofs.Indexed.{each_at}
use Rattle.bw_page.proofs.Law.{applied-whole, applied-split}
use Rattle.bw_page.proofs.Steps.{leaf_at-map, leaf_at-push, leaf_at-new}

page_is : (n : ℕ) (ls : List Leaf) (i : ℕ) (l : Leaf) → AreNumbered n ls → slice_get ls i ≡ Some l → l.page ≡ n + i
page_is n [] i l h e = absurd cc
page_is n (x ∷ ls) zero l h e = (let same : x ≡ l = cc in ap (λ (y : Leaf). y.page) (sym same) ∙ h.0 ∙ omega arith)
page_is n (x ∷ ls) (suc i) l h e = page_is (n + 1) ls i l h.1 e ∙ omega arith

-- the leaf of a page has its number
pub leaf_page : (p : ℕ) (leaves : List Leaf) (l : Leaf) → AreNumbered 1 leaves → leaf_at p leaves ≡ Some l → l.page ≡ p
leaf_page zero leaves l h e = absurd cc
leaf_page (suc n) leaves l h e = page_is 1 leaves n l h e ∙ omega arith

pub home_there : (m : ℕ) (leaves : List Leaf) (k : Bytes) → AreLeaves m leaves → leaf_at (home k leaves).page leaves ≡ Some (home k leaves)
home_there m leaves k a = home-all (λ l. leaf_at l.page leaves ≡ Some l) k leaves a.first (each_at leaves a.pages)

others_stay : (d : Leaf) (p : ℕ) (leaves : List Leaf) (o : Option Leaf) → AreNumbered 1 leaves → leaf_at p leaves ≡ o → p ≢ d.page
    → option_map (put_in d) o ≡ o
others_stay d p leaves None h e ne = refl
others_stay d p leaves (Some l) h e ne = ap Some (put_in-other d l (λ same. ne (sym (leaf_page p leaves l h e) ∙ same)))

-- a leaf with the home's page, in its place
pub put_at : (m : ℕ) (leaves : List Leaf) (k : Bytes) (d : Leaf) (p : ℕ) → AreLeaves m leaves → d.page ≡ (home k leaves).page
    → leaf_at p (map (put_in d) leaves) ≡ (if (home k leaves).page == p then Some d else leaf_at p leaves)
put_at m leaves k d p a page =
    leaf_at-map (put_in d) p leaves
    ∙ elim ((home k leaves).page == p) as (λ b. ((home k leaves).page == p) ≡ b
    → option_map (put_in d) (leaf_at p leaves) ≡ (if b then Some d else leaf_at p leaves)) [
      | true ↦ λ e. (let same : (home k leaves).page ≡ p = eqb-true _ _ e in
          ap (option_map (put_in d)) (ap (λ q. leaf_at q leaves) (sym same) ∙ home_there m leaves k a)
          ∙ ap Some (put_in-at d (home k leaves) (sym page)))
      | false ↦ λ e. others_stay d p leaves (leaf_at p leaves) a.pages refl (λ same. eqb-false _ _ e (sym page ∙ sym same))
    ] refl

pub page_by_page : AppliesPageByPage
page_by_page m leaves r some a op =
    let k = key_of r in
    let x : Leaf = changed r (home (key_of r) leaves) in
    let low : List Leaf = map (put_in (lower_of m x)) leaves in
    let u = upper_of m (length leaves + 1) x in
    let long = length-map leaves (put_in (lower_of m x)) in
    record {
      whole = λ fits p. ap (leaf_at p) (applied-whole m leaves r some a op fits) ∙ put_at m leaves k x p a refl;
      as_many = λ fits. ap (λ (ls : List Leaf). length ls) (applied-whole m leaves r some a op fits) ∙ length-map leaves (put_in x);
      lower = λ over p within. ap (leaf_at p) (applied-split m leaves r some a op over)
          ∙ leaf_at-push p low u (omega arith)
          ∙ put_at m leaves k (lower_of m x) p a refl;
      upper = λ over. ap (leaf_at (length leaves + 1)) (applied-split m leaves r some a op over)
          ∙ ap (λ n. leaf_at (n + 1) (low ++ u ∷ [])) (sym long)
          ∙ leaf_at-new low u;
      one_more = λ over. ap (λ (ls : List Leaf). length ls) (applied-split m leaves r some a op over)
          ∙ length-append low (u ∷ []) ∙ ap (λ n. n + 1) long;
    }
