-- The block of a run is cut into its fields, and made whole again. Assumes `Logic`.
use Rattle.std.proofs.Common.{◌≡◌, ℕ, ◌+◌, List, [], ◌∷◌, refl, arith}
use seplogic.Ra.Ura.{Ura}
use base.Fraction.{full_share}
use base.Logic.{SProp, ent, sep, apply∗}
use base.Fml.{Fml, ftrue, fsep, fat, froom}
use mir.Syntax.{Ty, w8, w16, w64, ty_int, ty_array}
use mir.Val.{Val}
use types.Logic.{Logic, sem}
use types.Kit.{‵, ◌$◌, ◌∵◌, !, qed, by, move, keep, use1, use2, group, fsplit, fjoin, fpick, done}
use denote.Array.{Array}
use denote.Builtin.{u8}
use denote.Memory.{part_of, part_at}
use denote.Param.Laws.{of_field}
use denote.Param.Shared.{copy_shared}
use denote.RawPtr.{Ptr, block_ptr, lies_at}
use denote.Steps.{nothing}
use denote.Struct.Field.{u8-field}
use denote.Struct.Laws.{u8-laws, u8-copy}
use Rattle.core.proofs.scope.Steps.{cell_room}
use Rattle.std_alloc.proofs.VecSteps.El.{El, no_al}
use Rattle.bw_run.specs.Token.{chunk}
use Rattle.bw_run.specs.Ownership.{block_type, rejoins, room_owns}

-- `u8`, as the element of a row of slots
abbrev pub bytes : El
bytes = record { row = u8; laws = of_field u8-field u8-laws refl (copy_shared u8-field u8-copy); al = no_al }

-- where the bytes lie
pub behind : (o : ℕ) → 10 + o ≡ o + 10
behind o = omega arith

module _ {M : Type 1} {𝓤 : Ura M} (𝓛 : Logic 𝓤) (b o : ℕ) where
  open 𝓛 use {H}

  abbrev count_at : Val → Fml
  count_at v = fat full_share (ty_int w64) b (o + 0) v

  abbrev length_at : Val → Fml
  length_at v = fat full_share (ty_int w16) b (o + 8) v

  -- bytes are room for bytes
  bytes_room : (n k : ℕ) (xs : List ℕ) → ent 𝓤 (sem 𝓛 (lies_at (Array u8 n) full_share (block_ptr b (o + k)) xs)) (H.room (ty_array (ty_int w8) n) b (o + k))
  unfolding part_of
  bytes_room n k xs = qed 𝓛 (‵ (part_at (Array u8 n) full_share xs b (o + k)) ∷ []) ∵ fpick ! (λ vs. fsplit ! $ keep ! (0 ∷ []) $ by ! (cell_room 𝓛 (ty_array (ty_int w8) n) vs b (o + k)))

  -- a block whose last owner has read its length is room again
  pub emptied : (n : ℕ) (xs : List ℕ) (u v : Val) → ent 𝓤 (sep 𝓤 (sem 𝓛 (count_at u)) (sep 𝓤 (sem 𝓛 (length_at v)) (sep 𝓤 (sem 𝓛 (lies_at (Array u8 n) full_share (block_ptr b (o + 10)) xs))
      (sem 𝓛 (fsep (chunk (block_type n) (block_ptr b o)) (rejoins n (block_ptr b o))))))) (sem 𝓛 (room_owns (block_ptr b o) n))
  emptied n xs u v = let p : Ptr = block_ptr b o in let τ : Ty = ty_array (ty_int w8) n in
      let Parts : SProp 𝓤 = sep 𝓤 (H.room (ty_int w64) b (o + 0)) (sep 𝓤 (H.room (ty_int w16) b (o + 8)) (sep 𝓤 (H.room τ b (o + 10)) (sem 𝓛 ftrue))) in
      qed 𝓛 (‵ (count_at u) ∷ ‵ (length_at v) ∷ ‵ (lies_at (Array u8 n) full_share (block_ptr b (o + 10)) xs) ∷ ‵ (fsep (chunk (block_type n) p) (rejoins n p)) ∷ []) ∵
      use1 𝓛 (‵ (froom (ty_int w64) b (o + 0))) (𝓛.laws.at_room (ty_int w64) b (o + 0) u) $ move ! (1 ∷ []) $ use1 𝓛 (‵ (froom (ty_int w16) b (o + 8))) (𝓛.laws.at_room (ty_int w16) b (o + 8) v) $
      move ! (2 ∷ []) $ use1 𝓛 (‵ (froom τ b (o + 10))) (bytes_room n 10 xs) $ move ! (3 ∷ []) $ fsplit ! $ nothing ! $ move ! (5 ∷ 4 ∷ 3 ∷ 0 ∷ []) $ group ! 4 $ move ! (0 ∷ 2 ∷ []) $
      use2 𝓛 (‵ (froom (block_type n) b o)) (apply∗ 𝓤 Parts (H.room (block_type n) b o)) $ fjoin ! $ done !
