-- A frame in the making, after those that stand: one block more.

use Rattle.std.proofs.Common.{◌≡◌, ℕ, ◌+◌, Bool, Option, None, List, [], ◌∷◌, ◌++◌, length, refl, sym, ap, ◌∙◌, append_assoc, append-nil, arith}
use Rattle.std.proofs.lemmas.Grind.{fold-append}
use Rattle.bw_record.specs.declared.block.Place.{Place}
use Rattle.bw_record.specs.declared.block.Block.{Block}
use Rattle.bw_record.specs.declared.block.Frame.{Frame}
use Rattle.bw_log.specs.Places.{placed, all_placed, later, last_place, fault_of, bad_link, or_else, first_number, AreLinked}
use Rattle.bw_log.proofs.Links.{bad_link-append}
use Rattle.bw_log.proofs.GivenUp.{placed_more}

abbrev pub frame_with : ℕ → List Block → Frame
frame_with n bs = record { number = n; blocks = bs }

abbrev pub at_end : ℕ → ℕ → Block → List (Place × Block)
at_end n i b = (record { frame = n; index = i }, b) ∷ []

placed_push : (n i : ℕ) (bs : List Block) (b : Block) → placed n i (bs ++ b ∷ []) ≡ placed n i bs ++ at_end n (i + length bs) b
placed_push n i [] b = let e : i ≡ i + length {A = Block} [] = omega arith in ap (λ (k : ℕ). at_end n k b) e
placed_push n i (c ∷ bs) b =
    let e : i + 1 + length bs ≡ i + length (c ∷ bs) = omega arith in
    ap (λ (l : List (Place × Block)). (record { frame = n; index = i }, c) ∷ l)
    (placed_push n (i + 1) bs b ∙ ap (λ (k : ℕ). placed n (i + 1) bs ++ at_end n k b) e)

one_frame : (fs : List Frame) (n : ℕ) (bs : List Block) → all_placed (fs ++ frame_with n bs ∷ []) ≡ all_placed fs ++ placed n 0 bs
one_frame fs n bs = placed_more fs (frame_with n bs ∷ []) ∙ ap (λ (l : List (Place × Block)). all_placed fs ++ l) (append-nil (placed n 0 bs))

pub all_push : (fs : List Frame) (n : ℕ) (bs : List Block) (b : Block)
    → all_placed (fs ++ frame_with n (bs ++ b ∷ []) ∷ []) ≡ all_placed (fs ++ frame_with n bs ∷ []) ++ at_end n (length bs) b
all_push fs n bs b =
    one_frame fs n (bs ++ b ∷ [])
    ∙ ap (λ (l : List (Place × Block)). all_placed fs ++ l)
    (placed_push n 0 bs b ∙ (let e : 0 + length bs ≡ length bs = omega arith in ap (λ (k : ℕ). placed n 0 bs ++ at_end n k b) e))
    ∙ sym (append_assoc (all_placed fs) (placed n 0 bs) (at_end n (length bs) b))
    ∙ ap (λ (l : List (Place × Block)). l ++ at_end n (length bs) b) (sym (one_frame fs n bs))

-- the last block that passes a test: this one, or the one before
pub place_push : (test : Block → Bool) (fs : List Frame) (n : ℕ) (bs : List Block) (b : Block)
    → last_place test (all_placed (fs ++ frame_with n (bs ++ b ∷ []) ∷ []))
    ≡ later test (last_place test (all_placed (fs ++ frame_with n bs ∷ []))) (record { frame = n; index = length bs }, b)
place_push test fs n bs b = ap (last_place test) (all_push fs n bs b)
    ∙ fold-append (later test) None (all_placed (fs ++ frame_with n bs ∷ [])) (at_end n (length bs) b)

same_first : (fs : List Frame) (n : ℕ) (bs cs : List Block) → first_number (fs ++ frame_with n bs ∷ []) ≡ first_number (fs ++ frame_with n cs ∷ [])
same_first [] n bs cs = refl
same_first (f ∷ fs) n bs cs = refl

both_none : {A : Type 0} (x y : Option A) → x ≡ None → y ≡ None → or_else x y ≡ None
both_none x y a b = rw a b

-- links stay lawful where the new block's is
pub linked_push : (fs : List Frame) (n : ℕ) (bs : List Block) (b : Block) → AreLinked (fs ++ frame_with n bs ∷ [])
    → fault_of (first_number (fs ++ frame_with n bs ∷ [])) (all_placed (fs ++ frame_with n bs ∷ [])) b ≡ None
    → AreLinked (fs ++ frame_with n (bs ++ b ∷ []) ∷ [])
linked_push fs n bs b linked lawful =
    let all = all_placed (fs ++ frame_with n bs ∷ []) in
    let first = first_number (fs ++ frame_with n bs ∷ []) in
    ap (λ (k : ℕ). bad_link k [] (all_placed (fs ++ frame_with n (bs ++ b ∷ []) ∷ []))) (same_first fs n (bs ++ b ∷ []) bs)
    ∙ ap (bad_link first []) (all_push fs n bs b)
    ∙ bad_link-append first [] all (at_end n (length bs) b)
    ∙ both_none (bad_link first [] all) (bad_link first all (at_end n (length bs) b)) linked (both_none (fault_of first all b) None lawful refl)
