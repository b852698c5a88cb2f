-- How boxes are read where they are made: a function that makes all of them has no name for it.

use Rattle.std.proofs.Common.{◌≡◌, sym, ◌⊎◌, inl, inr, subst}
use mathlib.Core.Path.{fun_ext}
use Rattle.std.specs.declared.dyn_box.DynBox.{DynBox}
use Rattle.std.specs.declared.alloc.Global.{Global}
use Rattle.std.specs.declared.vec.Vec.{Vec}
use Rattle.bw_device.specs.Holding.{Holding}
use Rattle.bw_ring.specs.declared.feed.Feed.{Feed}
use Rattle.bw_core.specs.declared.store.Core.{Core}
use Rattle.bw_store.specs.declared.store.Store.{Store}
use Rattle.bw_home.specs.Ready.{AreReadyBeside}
use Rattle.bw_home.specs.Sharing.{AreSharedBeside}

-- the kind of a box, where boxes of two kinds are made
abbrev pub Kind : Type 0
Kind = Unit {0} ⊎ (Unit {0} ⊎ ⊥)

-- a reading of the boxes of each kind
abbrev pub First : (Kind → Type 0) → Type 0
First H = (i : Unit {0}) → H (inl i) → Holding

abbrev pub Second : (Kind → Type 0) → Type 0
Second H = (i : Unit {0}) → H (inr (inl i)) → Holding

module _ {H : Kind → Type 0} where
  -- a box, read by its kind
  pub by_kind : First H → Second H → DynBox Kind Global H → Holding
  by_kind m n b =
      elim b.vtable as (λ i. H i → Holding) [ inl i ↦ m i | inr j ↦ elim j as (λ j'. H (inr j') → Holding) [ inl i ↦ n i | inr none ↦ elim none [ ] ] ] b.value

  -- a reading that says so of each box of the first kind, and so of each of the second
  pub record Says (m : First H) (n : Second H) (w : DynBox Kind Global H → Holding) : Type 0 where
    pub first : (b : DynBox Kind Global H) (i : Unit {0}) (x : H (inl i)) → w (record b { vtable = inl i; value = x }) ≡ m i x
    pub second : (b : DynBox Kind Global H) (i : Unit {0}) (x : H (inr (inl i))) → w (record b { vtable = inr (inl i); value = x }) ≡ n i x

  -- it says the same of every box
  alike : (m : First H) (n : Second H) (w : DynBox Kind Global H → Holding) → Says m n w → w ≡ by_kind m n
  unfolding by_kind
  alike m n w says = fun_ext (λ b.
      elim b.vtable as (λ i. (x : H i) → w (record b { vtable = i; value = x }) ≡ by_kind m n (record b { vtable = i; value = x })) [
        | inl i ↦ says.first b i
        | inr j ↦
            elim j as (λ j'. (x : H (inr j')) → w (record b { vtable = inr j'; value = x }) ≡ by_kind m n (record b { vtable = inr j'; value = x }))
            [ inl i ↦ says.second b i | inr none ↦ elim none [ ] ]
      ] b.value
      )

  -- so a store and its feeds are ready by the one reading where they are by the other
  pub ready_by_kind : {s : Core Kind H} {ends : Vec Feed Global} {m : First H} {n : Second H} {w : DynBox Kind Global H → Holding}
      → Says m n w → AreReadyBeside s ends w → AreReadyBeside s ends (by_kind m n)
  ready_by_kind {s = s} {ends = ends} {m = m} {n = n} {w = w} says ready = subst (AreReadyBeside s ends) (alike m n w says) ready

  pub ready_from_kind : {s : Core Kind H} {ends : Vec Feed Global} {m : First H} {n : Second H} {w : DynBox Kind Global H → Holding}
      → Says m n w → AreReadyBeside s ends (by_kind m n) → AreReadyBeside s ends w
  ready_from_kind {s = s} {ends = ends} {m = m} {n = n} {w = w} says ready = subst (AreReadyBeside s ends) (sym (alike m n w says)) ready

  -- a home with readers is ready by the one reading if it is by the other
  pub shared_by_kind : {s : Store Kind H} {ends : Vec Feed Global} {m : First H} {n : Second H} {w : DynBox Kind Global H → Holding}
      → Says m n w → AreSharedBeside s ends w → AreSharedBeside s ends (by_kind m n)
  shared_by_kind {s = s} {ends = ends} {m = m} {n = n} {w = w} says ready = subst (AreSharedBeside s ends) (alike m n w says) ready

  pub shared_from_kind : {s : Store Kind H} {ends : Vec Feed Global} {m : First H} {n : Second H} {w : DynBox Kind Global H → Holding}
      → Says m n w → AreSharedBeside s ends (by_kind m n) → AreSharedBeside s ends w
  shared_from_kind {s = s} {ends = ends} {m = m} {n = n} {w = w} says ready = subst (AreSharedBeside s ends) (sym (alike m n w says)) ready
