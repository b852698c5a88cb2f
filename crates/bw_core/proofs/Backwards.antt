-- A walk back over the pages of a store finds the last pair of its map in reach of a key.

use Rattle.std.proofs.Common.{◌≡◌, ℕ, Option, Some, None, refl, sym, ap, ◌∙◌, subst}
use Rattle.std.specs.Option.{IsSomeAnd}
use Rattle.std.specs.FinMap as finite
use Rattle.bw_record.specs.declared.leaf.Leaf.{Leaf}
use Rattle.bw_leaf.specs.Changed.{Bytes, Map}
use Rattle.bw_page.specs.Leaves.{home, leaf_at, AreLeaves}
use Rattle.bw_page.proofs.PageByPage.{home_there}
use Rattle.bw_walks.specs.Back.{IsGreatest, IsGreatestPair, IsInReach, IsLeafBefore, IsPageBefore, HasComeTo, HasComeBack, TellsOn, TellsOfPage}
use Rattle.bw_walks.specs.declared.back.Look.TheVariants.{Found, Before, End}
use Rattle.bw_walks.specs.declared.back.Reach.{Reach}
use Rattle.bw_walks.proofs.Backwards.{come_first, come_found, come_further, come_last}
use Rattle.bw_core.specs.Kept.{Kept, IsSound}
use Rattle.bw_core.proofs.Walks.{map_of}

module _ (s : Kept) (h : IsSound s) where
  lawful : AreLeaves s.filed.m s.filed.leaves
  lawful = h.grown.stands.lawful

  pub back_first : (reach : Reach) (key : Bytes) (page : ℕ) → page ≡ (home key s.filed.leaves).page → HasComeBack (map_of s) s.filed.leaves reach key page
  back_first reach key page at =
      let is : leaf_at page s.filed.leaves ≡ Some (home key s.filed.leaves) =
      ap (λ (p : ℕ). leaf_at p s.filed.leaves) at ∙ home_there s.filed.m s.filed.leaves key lawful in
      subst (λ (o : Option Leaf). IsSomeAnd o (HasComeTo (map_of s) s.filed.leaves reach key)) (sym is)
      (subst (λ (u : Map). HasComeTo u s.filed.leaves reach key (home key s.filed.leaves)) h.mapped (come_first s.filed.m s.filed.leaves lawful reach key))

  pub back_found : (reach : Reach) (key : Bytes) (page : ℕ) (pair : Bytes × Bytes) → HasComeBack (map_of s) s.filed.leaves reach key page
      → TellsOfPage reach key page s.filed.leaves (Found pair) → IsGreatestPair (λ q. finite.get (map_of s) q) (IsInReach reach key) pair
  back_found reach key page pair come tells =
      elim (leaf_at page s.filed.leaves) as (λ o. leaf_at page s.filed.leaves ≡ o → IsSomeAnd o (HasComeTo (map_of s) s.filed.leaves reach key)
      → IsSomeAnd o (λ leaf. TellsOn reach key leaf (Found pair)) → IsGreatestPair (λ q. finite.get (map_of s) q) (IsInReach reach key) pair) [
        | None ↦ λ e c t. absurd c
        | Some leaf ↦ λ e c t.
            subst (λ (u : Map). IsGreatestPair (λ q. finite.get u q) (IsInReach reach key) pair) h.mapped
            (come_found s.filed.m s.filed.leaves lawful page leaf e reach key
            (subst (λ (u : Map). HasComeTo u s.filed.leaves reach key leaf) (sym h.mapped) c) pair t)
      ] refl come tells

  pub back_further : (reach : Reach) (key low : Bytes) (page before : ℕ) → HasComeBack (map_of s) s.filed.leaves reach key page
      → TellsOfPage reach key page s.filed.leaves (Before low) → IsPageBefore s.filed.leaves low before
      → HasComeBack (map_of s) s.filed.leaves reach key before
  back_further reach key low page before come tells is =
      elim (leaf_at page s.filed.leaves) as (λ o. leaf_at page s.filed.leaves ≡ o → IsSomeAnd o (HasComeTo (map_of s) s.filed.leaves reach key)
      → IsSomeAnd o (λ leaf. TellsOn reach key leaf (Before low)) → HasComeBack (map_of s) s.filed.leaves reach key before) [
        | None ↦ λ e c t. absurd c
        | Some leaf ↦ λ e c t.
            elim (leaf_at before s.filed.leaves) as (λ o. IsSomeAnd o (IsLeafBefore s.filed.leaves low)
            → IsSomeAnd o (HasComeTo (map_of s) s.filed.leaves reach key)) [
              | None ↦ λ none. absurd none
              | Some under ↦ λ under_is.
                  subst (λ (u : Map). HasComeTo u s.filed.leaves reach key under) h.mapped
                  (come_further s.filed.m s.filed.leaves lawful page leaf e reach key
                  (subst (λ (u : Map). HasComeTo u s.filed.leaves reach key leaf) (sym h.mapped) c) under t.0
                  (subst (λ (k : Bytes). IsLeafBefore s.filed.leaves k under) t.1 under_is))
            ] is
      ] refl come tells

  pub back_last : (reach : Reach) (key : Bytes) (page : ℕ) → HasComeBack (map_of s) s.filed.leaves reach key page
      → TellsOfPage reach key page s.filed.leaves End → IsGreatest (λ q. finite.get (map_of s) q) (IsInReach reach key) None
  back_last reach key page come tells =
      elim (leaf_at page s.filed.leaves) as (λ o. leaf_at page s.filed.leaves ≡ o → IsSomeAnd o (HasComeTo (map_of s) s.filed.leaves reach key)
      → IsSomeAnd o (λ leaf. TellsOn reach key leaf End) → IsGreatest (λ q. finite.get (map_of s) q) (IsInReach reach key) None) [
        | None ↦ λ e c t. absurd c
        | Some leaf ↦ λ e c t.
            subst (λ (u : Map). IsGreatest (λ q. finite.get u q) (IsInReach reach key) None) h.mapped
            (come_last s.filed.m s.filed.leaves lawful page leaf e reach key
            (subst (λ (u : Map). HasComeTo u s.filed.leaves reach key leaf) (sym h.mapped) c) t.0 t.1)
      ] refl come tells
