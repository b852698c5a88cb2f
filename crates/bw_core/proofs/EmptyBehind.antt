-- A log with an empty frame in the making after its counted ones, and the place of each page as the
-- log has it.

use Rattle.std.proofs.Common.{◌≡◌, ℕ, zero, suc, ◌+◌, ◌-◌, ◌<◌, ◌≤◌, true, false, Option, Some, None, List, [], ◌∷◌, ◌++◌}
use Rattle.std.proofs.Common.{length, refl, sym, ap, ◌∙◌, subst, arith}
use Rattle.std.specs.Prelude.{nat_le}
use Rattle.std.specs.List.{AllByRecursion as All, slice_get}
use Rattle.std.proofs.lemmas.Bool.{leb-true, leb-false}
use Rattle.std.proofs.lemmas.Option.{slice_get_past}
use Rattle.bw_codec.specs.Grammar.{IsPlace}
use Rattle.bw_record.specs.Touch.{touches}
use Rattle.bw_record.specs.declared.leaf.Leaf.{Leaf}
use Rattle.bw_record.specs.declared.block.Place.{Place}
use Rattle.bw_record.specs.declared.block.Block.{Block}
use Rattle.bw_record.specs.declared.block.Frame.{Frame}
use Rattle.bw_page.specs.Standing.{Stand}
use Rattle.bw_buffer.specs.Filling.{Filling, frame_of}
use Rattle.bw_log.specs.Contents as logs
use Rattle.bw_log.specs.Places.{all_placed, bad_link, first_number, last_place, place_of, AreLinked}
use Rattle.bw_log.specs.declared.places.PageAt.{PageAt}
use Rattle.bw_core.specs.Growing.{Grown}
use Rattle.bw_core.proofs.FrameMore.{empty_frame, placed_same, stands_next}
use Rattle.bw_core.proofs.FramesBehind.{first_ahead, place_lawful, pages_counted}

all_of_get : {X : Type 0} (P : X → Type 0) (xs : List X) → ((i : ℕ) (x : X) → i < length xs → slice_get xs i ≡ Some x → P x) → All P xs
all_of_get P [] h = tt
all_of_get P (x ∷ xs) h = (h zero x (omega arith) refl, all_of_get P xs (λ i y lt is. h (suc i) y (omega arith) is))

linked_next : (fs : List Frame) (n : ℕ) → 1 ≤ length fs → AreLinked fs → AreLinked (fs ++ empty_frame n ∷ [])
linked_next fs n some linked =
    ap (λ k. bad_link k [] (all_placed (fs ++ empty_frame n ∷ []))) (first_ahead fs (empty_frame n ∷ []) some)
    ∙ ap (bad_link (first_number fs) []) (placed_same fs n)
    ∙ linked

place_next : (fs : List Frame) (n p : ℕ) → place_of p (fs ++ empty_frame n ∷ []) ≡ place_of p fs
place_next fs n p = ap (last_place (touches p)) (placed_same fs n)

-- ---- the place of each page, noted as the log has it

-- so it is for each page that there is
abbrev pub AreNoted : logs.Contents → List Leaf → List Place → Type 0
AreNoted c leaves newest = (p : ℕ) → 1 ≤ p → p ≤ length leaves → slice_get newest (p - 1) ≡ place_of p (logs.counted c)

module _ (c : logs.Contents) (leaves : List Leaf) (sound : logs.IsSound c) (stands : Stand c.m (logs.counted c) leaves) where
  -- a page beyond all of them has no place
  beyond_none : (p : ℕ) → length leaves + 1 ≤ p → place_of p (logs.counted c) ≡ None
  beyond_none p beyond =
      let many = pages_counted c leaves sound stands in
      sym (sound.holds.table.places p (omega arith))
      ∙ ap (λ (o : Option PageAt). logs.entry_place (λ e. e.place) o) (slice_get_past c.pages (p - 1) (omega arith))

  each_page : (newest : List Place) → length newest ≡ length leaves → AreNoted c leaves newest
      → (p : ℕ) → 1 ≤ p → slice_get newest (p - 1) ≡ place_of p (logs.counted c)
  each_page newest count noted p from =
      elim (nat_le p (length leaves)) as (λ b. nat_le p (length leaves) ≡ b → slice_get newest (p - 1) ≡ place_of p (logs.counted c)) [
        | true ↦ λ e. noted p from (leb-true _ _ e)
        | false ↦ λ e. (let gt = leb-false _ _ e in slice_get_past newest (p - 1) (omega arith) ∙ sym (beyond_none p (omega arith)))
      ] refl

  pub grown_empty : (newest : List Place) (making : Filling) → length newest ≡ length leaves → AreNoted c leaves newest → making.blocks ≡ []
      → Grown c.m (logs.counted c) (frame_of making) leaves newest
  grown_empty newest making count noted empty =
      let each = each_page newest count noted in
      subst (λ (bs : List Block). Grown c.m (logs.counted c) (record { number = making.frame; blocks = bs }) leaves newest) (sym empty)
      (record {
        stands = stands_next c.m (logs.counted c) making.frame leaves stands;
        linked = linked_next (logs.counted c) making.frame stands.some sound.holds.linked;
        count = count;
        places = all_of_get IsPlace newest (λ i place lt is. (
            let at : i + 1 - 1 ≡ i = omega arith in
            place_lawful c (i + 1) place sound (sym (each (i + 1) (omega arith)) ∙ ap (slice_get newest) at ∙ is)));
        each = λ p from. each p from ∙ sym (place_next (logs.counted c) making.frame p);
        lawful = tt;
      })
