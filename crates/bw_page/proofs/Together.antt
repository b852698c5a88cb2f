-- Records whose pages are in memory find them there when their turn comes.

use Rattle.std.proofs.Common.{◌≡◌, ℕ, ◌+◌, ◌≤◌, ◌⊎◌, inl, inr, arith, List, [], ◌∷◌, length, map, ap, ◌∙◌}
use Rattle.std.proofs.lemmas.List.{length-map}
use Rattle.bw_record.specs.Lawful.{IsOp}
use Rattle.bw_record.specs.Record.{key_of}
use Rattle.bw_record.specs.declared.leaf.Leaf.{Leaf}
use Rattle.bw_record.specs.declared.record.Record.{Record}
use Rattle.bw_leaf.specs.Changed.{Bytes}
use Rattle.bw_page.specs.Leaves.{home, applied, HasPage, AreLeaves}
use Rattle.bw_page.specs.Laws.{HomesStay, HereTogether}
use Rattle.bw_page.specs.Shown.{Shown, IsHere, is_evicted_page, after_record}
use Rattle.bw_page.specs.Batch.{NoneBeyond}
use Rattle.bw_leaf.proofs.Sorted.{all-map}
use Rattle.bw_page.proofs.Homes.{put_in, picks, second, first, home-push}
use Rattle.bw_page.proofs.Applying.{Replaces, put_in-page, home-put, put_leaves}
use Rattle.bw_page.proofs.Law.{applied-lawful}
use Rattle.bw_page.proofs.Journals.{Stepped, whole, split, stepped, one_more}

-- a key's page in leaves of which one is written over
home_put : (m : ℕ) (leaves : List Leaf) (k key : Bytes) (x : Leaf) → AreLeaves m leaves → Replaces m leaves k x
    → (home key (map (put_in x) leaves)).page ≡ (home key leaves).page
home_put m leaves k key x a h = ap (λ (l : Leaf). l.page) (home-put m leaves k x a h key) ∙ put_in-page x (home key leaves)

home_stepped : (m : ℕ) (leaves : List Leaf) (k key : Bytes) (next : List Leaf) → AreLeaves m leaves → Stepped m leaves k next
    → ((home key next).page ≡ (home key leaves).page) ⊎ ((home key next).page ≡ length leaves + 1)
home_stepped m leaves k key next a (whole x h e) =
    inl (ap (λ (ls : List Leaf). (home key ls).page) e ∙ home_put m leaves k key x a h)
home_stepped m leaves k key next a (split x u h s e) =
    let parts : List Leaf = map (put_in x) leaves in
    let lawful = put_leaves m leaves k x a h in
    let is : home key next ≡ _ = ap (home key) e ∙ home-push key parts u lawful.first in
    elim (picks key (home key parts) u) [
      | second f below p ↦ inr (ap (λ (l : Leaf). l.page) (is ∙ p) ∙ s.page ∙ ap (λ n. n + 1) (length-map leaves (put_in x)))
      | first f p ↦ inl (ap (λ (l : Leaf). l.page) (is ∙ p) ∙ home_put m leaves k key x a h)
    ]

pub homes_stay_lem : HomesStay
homes_stay_lem m leaves r key some room a op = home_stepped m leaves (key_of r) key (applied m leaves r) a (stepped m leaves r some room a op)

-- a page that is in memory is so after a record, too
here_after : (f : Shown) (r : Record) (key : Bytes) → 1 ≤ f.m → HasPage f.m f.leaves r → AreLeaves f.m f.leaves → NoneBeyond f → IsOp r → IsHere key f
    → IsHere key (after_record f r)
here_after f r key some room a beyond op here =
    elim (homes_stay_lem f.m f.leaves r key some room a op) [
      | inl same ↦ ap (λ p. is_evicted_page p f) same ∙ here
      | inr new ↦ ap (λ p. is_evicted_page p f) new ∙ beyond (length f.leaves + 1) (omega arith)
    ]

pub together : HereTogether
together f [] some a beyond ops here = tt
together f (r ∷ rs) some a beyond ops here = (
  here.0,
  λ room. together (after_record f r) rs some (applied-lawful f.m f.leaves r some room a ops.0)
      (λ p h. beyond p (let l = one_more f.m f.leaves (key_of r) a (applied f.m f.leaves r) (stepped f.m f.leaves r some room a ops.0) in omega arith)) ops.1
      (all-map (λ (x : Record). IsHere (key_of x) f) (λ (x : Record). IsHere (key_of x) (after_record f r))
      (λ x h. here_after f r (key_of x) some room a beyond ops.0 h) rs here.1),
)
