-- A walk from page to page finds the first pair of the map at or above a key.

use Rattle.std.proofs.Common.{inl, refl, List, ◌∷◌, ◌≡◌, ℕ, ◌≤◌, ◌<◌, true, false, if◌then◌else◌, Option, Some, None, Err, [], length, sym, ap, ◌∙◌, subst, arith}
use Rattle.std.specs.Prelude.{is_some, IsTrue, ◌==◌}
use Rattle.std.proofs.lemmas.Bool.{eqb-true}
use Rattle.bw_record.specs.Keys.{is_below}
use Rattle.bw_record.proofs.Order.{upto-trans, below_upto}
use Rattle.bw_record.specs.declared.leaf.Leaf.{Leaf}
use Rattle.bw_log.specs.Reads.{HoldsPage}
use Rattle.bw_leaf.specs.Above.{pair_above}
use Rattle.bw_page.specs.Ahead.{IsFirst, IsFirstPair, HasNoPair, HasCome, HasNoLowAbove, IsNextLow, IsStretch, HasGone, ahead}
use Rattle.bw_leaf.specs.Above.{pairs_above, with_some}
use Rattle.bw_leaf.specs.Changed.{Bytes, Pairs, Map}
use Rattle.bw_page.specs.Leaves.{home, leaf_at, plain, union}
use Rattle.bw_page.specs.Shown.{Shown, is_evicted_page, leaf_here}
use Rattle.bw_page.proofs.Ahead.{ahead_less, come_first, come_found, come_further, come_last}
use Rattle.bw_page.proofs.PageByPage.{home_there}
use Rattle.bw_page.proofs.Stretch.{gone_first, gone_more, gone_last, gone_full}
use Rattle.bw_terms.specs.declared.fault.StoreFault.{StoreFault}
use Rattle.bw_terms.specs.declared.fault.StoreFault.TheVariants.{NoMemory, BadConfig, NoSegment, Device, Failed, Spent, NoPage, NothingOld}
use Rattle.bw_history.specs.Entries.{records}
use Rattle.bw_core.specs.Kept.{Kept, IsSound}
use Rattle.bw_core.specs.Reading.{HasRead, ReadLeaves, WalkLeaves}

-- the map of the history
abbrev pub map_of : Kept → Map
map_of s = plain s.start (records s.entries)

-- fewer pages lie ahead of the next low
pub fewer_ahead : (from low : Bytes) (was now : Shown) → now ≡ was → IsNextLow now.leaves from low → ahead low now.leaves < ahead from was.leaves
fewer_ahead from low was now same next =
    (let less = ahead_less from low now.leaves next.above next.its in
    let as_many = ap (λ (f : Shown). ahead from f.leaves) same in
    omega arith)

-- a leaf in memory is that of its page
pub here_at : (f : Shown) (p : ℕ) (leaf : Leaf) → leaf_here p f ≡ Some leaf → leaf_at p f.leaves ≡ Some leaf
here_at f p leaf e = elim (is_evicted_page p f) as (λ b. (if b then None else leaf_at p f.leaves) ≡ Some leaf → leaf_at p f.leaves ≡ Some leaf) [
  | true ↦ λ none. absurd cc
  | false ↦ λ some. some
] e

module _ (s : Kept) (h : IsSound s) where
  -- the page of a key's home has its leaf
  pub home_leaf : (key : Bytes) (p : ℕ) (leaf : Leaf) → p ≡ (home key s.filed.leaves).page → leaf_at p s.filed.leaves ≡ Some leaf
      → leaf ≡ home key s.filed.leaves
  home_leaf key p leaf at there =
      let home_is : Some (home key s.filed.leaves) ≡ Some leaf =
      sym (home_there s.filed.m s.filed.leaves key h.grown.stands.lawful) ∙ ap (λ (q : ℕ). leaf_at q s.filed.leaves) (sym at) ∙ there in
      cc

  pub walk_first : (key : Bytes) → HasCome (map_of s) key key
  walk_first key = subst (λ (u : Map). HasCome u key key) h.mapped (come_first s.filed.leaves key)

  -- what the pages' map says, the map of the history says, and the other way round
  pub walk_past : (key to : Bytes) → HasCome (union s.filed.leaves) key to → HasCome (map_of s) key to
  walk_past key to come = subst (λ (u : Map). HasCome u key to) h.mapped come

  gap_here : (key to : Bytes) (leaves : List Leaf) → leaves ≡ s.filed.leaves → HasCome (map_of s) key to → HasCome (union leaves) key to
  gap_here key to leaves same come =
      subst (λ (ls : List Leaf). HasCome (union ls) key to) (sym same) (subst (λ (u : Map). HasCome u key to) (sym h.mapped) come)

  pub walk_found : (key to : Bytes) (p : Bytes × Bytes) → HasCome (map_of s) key to → pair_above to (home to s.filed.leaves).pairs ≡ Some p
      → IsFirstPair (map_of s) key p
  walk_found key to p come e =
      subst (λ (u : Map). IsFirstPair u key p) h.mapped
      (come_found s.filed.m s.filed.leaves h.grown.stands.lawful key to p (subst (λ (u : Map). HasCome u key to) (sym h.mapped) come) e)

  pub walk_some : (key to : Bytes) (found : Option (Bytes × Bytes)) → HasCome (map_of s) key to → found ≡ pair_above to (home to s.filed.leaves).pairs
      → is_some found ≡ true → IsFirst (map_of s) key found
  walk_some key to None come e some = absurd cc
  walk_some key to (Some p) come e some = walk_found key to p come (sym e)

  pub walk_further : (key to low : Bytes) → HasCome (map_of s) key to → pair_above to (home to s.filed.leaves).pairs ≡ None
      → IsNextLow s.filed.leaves to low → HasCome (map_of s) key low
  walk_further key to low come e next =
      subst (λ (u : Map). HasCome u key low) h.mapped
      (come_further s.filed.m s.filed.leaves h.grown.stands.lawful key to low (subst (λ (u : Map). HasCome u key to) (sym h.mapped) come) e next)

  pub walk_last : (key to : Bytes) → HasCome (map_of s) key to → pair_above to (home to s.filed.leaves).pairs ≡ None
      → HasNoLowAbove s.filed.leaves to → HasNoPair (map_of s) key
  walk_last key to come e last =
      subst (λ (u : Map). HasNoPair u key) h.mapped
      (come_last s.filed.m s.filed.leaves h.grown.stands.lawful key to (subst (λ (u : Map). HasCome u key to) (sym h.mapped) come) e last)

module _ (s : Kept) (h : IsSound s) where
  -- a page without a pair at or above a key makes a gap up to the next low
  pub gap_next : (from low : Bytes) (leaves : List Leaf) → leaves ≡ s.filed.leaves → pair_above from (home from s.filed.leaves).pairs ≡ None
      → IsNextLow s.filed.leaves from low → HasCome (union leaves) from low
  gap_next from low leaves same none next = gap_here s h from low leaves same (walk_further s h from from low (walk_first s h from) none next)

  -- so does a walk that has found nothing
  pub gap_gone : (key from low : Bytes) (most : ℕ) (found : Pairs) (leaves : List Leaf) → leaves ≡ s.filed.leaves → is_below from key ≡ false
      → IsTrue (is_below from low) → HasGone (map_of s) key low most found → length found == 0 ≡ true → 0 < most → HasCome (union leaves) from low
  gap_gone key from low most [] leaves same at above gone none some = gap_here s h from low leaves same (record {
    upto = below_upto from low above;
    none = λ q u b. gone.all q (upto-trans key from q at u) b (inl some);
  })
  gap_gone key from low most (p ∷ ps) leaves same at above gone none some = absurd (let e = eqb-true (length (p ∷ ps)) 0 none in omega arith)

  pub stretch_past : (key from : Bytes) (most : ℕ) → HasCome (union s.filed.leaves) key from → HasGone (map_of s) key from most []
  stretch_past key from most come =
      let there = walk_past s h key from come in
      record {
        few = omega arith;
        ascends = refl;
        from = tt;
        below = tt;
        upto = there.upto;
        all = λ q u b more. there.none q u b;
      }

  pub stretch_first : (key : Bytes) (most : ℕ) → HasGone (map_of s) key key most []
  stretch_first key most = subst (λ (u : Map). HasGone u key key most []) h.mapped (gone_first s.filed.leaves key most)

  module _ (key to : Bytes) (most : ℕ) (found : Pairs) (gone : HasGone (map_of s) key to most found) where
    here : HasGone (union s.filed.leaves) key to most found
    here = subst (λ (u : Map). HasGone u key to most found) (sym h.mapped) gone

    pub stretch_more : (low : Bytes) → length found < most → IsNextLow s.filed.leaves to low
        → HasGone (map_of s) key low most (with_some most found (pairs_above to (home to s.filed.leaves).pairs))
    stretch_more low few next =
        subst (λ (u : Map). HasGone u key low most (with_some most found (pairs_above to (home to s.filed.leaves).pairs))) h.mapped
        (gone_more s.filed.m s.filed.leaves h.grown.stands.lawful key to most found here low few next)

    pub stretch_last : length found < most → HasNoLowAbove s.filed.leaves to
        → IsStretch (map_of s) key most (with_some most found (pairs_above to (home to s.filed.leaves).pairs))
    stretch_last few last =
        subst (λ (u : Map). IsStretch u key most (with_some most found (pairs_above to (home to s.filed.leaves).pairs))) h.mapped
        (gone_last s.filed.m s.filed.leaves h.grown.stands.lawful key to most found here few last)

    pub stretch_full : most ≤ length found → IsStretch (map_of s) key most found
    stretch_full full =
        subst (λ (u : Map). IsStretch u key most found) h.mapped
        (gone_full s.filed.m s.filed.leaves h.grown.stands.lawful key to most found here full)

pub no_pair : (found above : Option (Bytes × Bytes)) → found ≡ above → is_some found ≡ false → above ≡ None
no_pair None above e none = sym e
no_pair (Some p) above e none = absurd cc

-- a page of a walk that was refused
pub walk_refused : (A B : Type 0) (page : ℕ) (old new : Kept) (fault : StoreFault) → HasRead old new
    → ReadLeaves {A = A} (HoldsPage old.log page) old (Err fault) new → WalkLeaves {A = B} old (Err fault) new
walk_refused A B page old new NoMemory read h = h
walk_refused A B page old new BadConfig read h = absurd h
walk_refused A B page old new NoSegment read h = absurd h
walk_refused A B page old new (Device lease) read h = record { page = page; read = read; failed = h }
walk_refused A B page old new Failed read h = absurd h
walk_refused A B page old new Spent read h = (h.0, record { page = page; worn = h.1 })
walk_refused A B page old new NoPage read h = absurd h
walk_refused A B page old new NothingOld read h = absurd h
