-- A record that takes another back.

use Rattle.std.proofs.Common.{◌≡◌, ℕ, ◌≤◌, true, false, cond, Option, Some, None, Result, Ok, Err, List, refl, sym, ap, ◌∙◌, subst, length}
use Rattle.std.specs.Ordering.{eq_by_cmp}
use Rattle.std.specs.FinMap.Entries.{find, same_entries}
use Rattle.bw_record.specs.Lawful.{IsOp}
use Rattle.bw_record.specs.Record.{key_of}
use Rattle.bw_record.specs.declared.leaf.Leaf.{Leaf}
use Rattle.bw_record.specs.declared.record.Record.{Record}
use Rattle.bw_record.specs.declared.record.Record.TheVariants.{Put, Del}
use Rattle.bw_record.proofs.Order.{order-same, order-total, tied, itself}
use Rattle.bw_leaf.specs.Changed.{Bytes, Pairs, order, changed, changed_pairs}
use Rattle.bw_page.specs.Leaves.{home, result_of, with_leaf, applied, AreLeaves}
use Rattle.bw_leaf.specs.Seek.{seek_of, AddsNone, back_of}
use Rattle.bw_leaf.proofs.Sorted.{Rises, ascends_rises, rises_T, rises-changed, value_of, find-changed}
use Rattle.bw_page.proofs.Applying.{Replaces, home-put_here}
use Rattle.bw_page.proofs.Law.{directed, home_base, whole_in, applied-whole}
use Rattle.bw_leaf.proofs.Valued.{Reads, reads}
use Rattle.bw_page.proofs.Journals.{written_back}

-- ---- one list of pairs

looks_back : (q : Bytes) (r back : Record) (ps : Pairs) → key_of back ≡ key_of r → value_of back ≡ find order (key_of r) ps
    → cond (eq_by_cmp order q (key_of back)) (value_of back) (cond (eq_by_cmp order q (key_of r)) (value_of r) (find order q ps)) ≡ find order q ps
looks_back q r back ps key value =
    ap (λ k. cond (eq_by_cmp order q k) (value_of back) (cond (eq_by_cmp order q (key_of r)) (value_of r) (find order q ps))) key
    ∙ elim (eq_by_cmp order q (key_of r)) as (λ b. eq_by_cmp order q (key_of r) ≡ b
    → cond b (value_of back) (cond b (value_of r) (find order q ps)) ≡ find order q ps) [
      | true ↦ λ e. value ∙ ap (λ k. find order k ps) (sym (tied q (key_of r) e))
      | false ↦ λ e. refl
    ] refl

-- a record that gives a key back what it had
pub pairs_back : (r back : Record) (ps : Pairs) → Rises ps → key_of back ≡ key_of r → value_of back ≡ find order (key_of r) ps
    → changed_pairs back (changed_pairs r ps) ≡ ps
pairs_back r back ps h key value =
    let once = rises-changed r ps h in
    same_entries order order-total order-same (changed_pairs back (changed_pairs r ps)) ps
    (rises_T (changed_pairs back (changed_pairs r ps)) (rises-changed back (changed_pairs r ps) once)) (rises_T ps h)
    (λ q. find-changed q back (changed_pairs r ps) once
    ∙ ap (cond (eq_by_cmp order q (key_of back)) (value_of back)) (find-changed q r ps h)
    ∙ looks_back q r back ps key value)

-- ---- the record itself

pub back-key : (r back : Record) (old : Option Bytes) → back_of r old ≡ Some back → key_of back ≡ key_of r
back-key (Put key value) back (Some old) h = let same : Put key old ≡ back = cc in sym (ap key_of same)
back-key (Put key value) back None h = let same : Del key ≡ back = cc in sym (ap key_of same)
back-key (Del key) back (Some old) h = absurd (cc)
back-key (Del key) back None h = let same : Del key ≡ back = cc in sym (ap key_of same)

pub back-value : (r back : Record) (old : Option Bytes) → back_of r old ≡ Some back → value_of back ≡ old
back-value (Put key value) back (Some old) h = let same : Put key old ≡ back = cc in sym (ap value_of same)
back-value (Put key value) back None h = let same : Del key ≡ back = cc in sym (ap value_of same)
back-value (Del key) back (Some old) h = absurd (cc)
back-value (Del key) back None h = let same : Del key ≡ back = cc in sym (ap value_of same)

-- a record that none takes back is a delete
pub none_deletes : (r : Record) (old : Option Bytes) → back_of r old ≡ None → r ≡ Del (key_of r)
none_deletes (Put key value) (Some old) h = absurd (cc)
none_deletes (Put key value) None h = absurd (cc)
none_deletes (Del key) old h = refl

put_adds : (key old value : Bytes) (ps : Pairs) (found : Option Bytes) (s : Result ℕ ℕ) → found ≡ Some value → Reads found ps s → AddsNone (Put key old) s
put_adds key old value ps found (Ok at) e h = tt
put_adds key old value ps found (Err at) e h = absurd (cc)

-- if its key is found as the first record left it, it adds no pair
back_adds_by : (r back : Record) (old : Option Bytes) (ps : Pairs) (found : Option Bytes) (s : Result ℕ ℕ) → back_of r old ≡ Some back
    → found ≡ value_of r → Reads found ps s → AddsNone back s
back_adds_by (Put key value) back (Some old) ps found s h e k =
    let same : Put key old ≡ back = cc in subst (λ (b : Record). AddsNone b s) same (put_adds key old value ps found s e k)
back_adds_by (Put key value) back None ps found s h e k = let same : Del key ≡ back = cc in subst (λ (b : Record). AddsNone b s) same tt
back_adds_by (Del key) back (Some old) ps found s h e k = absurd (cc)
back_adds_by (Del key) back None ps found s h e k = let same : Del key ≡ back = cc in subst (λ (b : Record). AddsNone b s) same tt

-- ---- all leaves, if the page was not split

module _ (m : ℕ) (leaves : List Leaf) (r back : Record) (some : 1 ≤ m) (a : AreLeaves m leaves) (op : IsOp r)
    (fits : length (result_of leaves r).pairs ≤ m) (is : back_of r (find order (key_of r) (home (key_of r) leaves).pairs) ≡ Some back) where
  pub into : Replaces m leaves (key_of r) (result_of leaves r)
  into = whole_in m leaves (key_of r) (result_of leaves r) (directed m leaves r a op) fits

  rises : Rises (home (key_of r) leaves).pairs
  rises = ascends_rises (home (key_of r) leaves).pairs (home_base m leaves (key_of r) a).ascends

  key : key_of back ≡ key_of r
  key = back-key r back (find order (key_of r) (home (key_of r) leaves).pairs) is

  home_is : home (key_of back) (applied m leaves r) ≡ result_of leaves r
  home_is =
      ap (λ k. home k (applied m leaves r)) key
      ∙ ap (home (key_of r)) (applied-whole m leaves r some a op fits)
      ∙ home-put_here m leaves (key_of r) (result_of leaves r) a into (key_of r) refl

  leaf_back : changed back (result_of leaves r) ≡ home (key_of r) leaves
  leaf_back = ap (λ (ps : Pairs). let l : Leaf = record (home (key_of r) leaves) { pairs = ps } in l)
      (pairs_back r back (home (key_of r) leaves).pairs rises key (back-value r back (find order (key_of r) (home (key_of r) leaves).pairs) is))

  pub leaves_back : with_leaf (applied m leaves r) (result_of (applied m leaves r) back) ≡ leaves
  leaves_back =
      ap (with_leaf (applied m leaves r)) (ap (changed back) home_is ∙ leaf_back)
      ∙ ap (λ (ls : List Leaf). with_leaf ls (home (key_of r) leaves)) (applied-whole m leaves r some a op fits)
      ∙ written_back m leaves (key_of r) a (result_of leaves r) into

  pub back_adds : (s : Result ℕ ℕ) → s ≡ seek_of (key_of back) (home (key_of back) (applied m leaves r)).pairs → AddsNone back s
  back_adds s e =
      let ps : Pairs = (home (key_of r) leaves).pairs in
      let here : s ≡ seek_of (key_of r) (changed_pairs r ps) = e ∙ ap (seek_of (key_of back)) (ap (λ (l : Leaf). l.pairs) home_is)
      ∙ ap (λ k. seek_of k (changed_pairs r ps)) key in
      let found : find order (key_of r) (changed_pairs r ps) ≡ value_of r = find-changed (key_of r) r ps rises
      ∙ ap (λ b. cond b (value_of r) (find order (key_of r) ps)) (itself (key_of r)) in
      back_adds_by r back (find order (key_of r) ps) (changed_pairs r ps) (find order (key_of r) (changed_pairs r ps)) s is found
      (reads (key_of r) (changed_pairs r ps) s (rises-changed r ps rises) here)
