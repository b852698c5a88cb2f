-- What a `&` to an owner holds has the laws of that, and the block's contents are lent. Assumes `Logic`.
use Rattle.core.specs.Prelude.{ℕ, ◌+◌, List, [], ◌∷◌, length}
use seplogic.Ra.Ura.{Ura}
use base.Fraction.{full_share}
use base.Fml.{Lft, Fml, fsep, flft}
use contract.BorrowLft.{⊑_static}
use types.Logic.{Logic}
use denote.Array.{Array, Array-row_laws}
use denote.Builtin.{u8, u16}
use denote.Plain.{uint_row_laws}
use denote.RawPtr.{Ptr, block_of, count_of, lies_at, ◌+ₚ◌}
use denote.Shares.{Shares-less, Shares-Array}
use denote.Sharing.{ShrLaws, said, beside, some, one, held, always}
use denote.SharingLaws.{said_shr_laws, some_shr_laws, beside_shr_laws, one_shr_laws, always_shr_laws, held_shr_laws}
use denote.Param.Shared.{copy_shared}
use denote.Struct.Field.{u8-field, u16-field}
use denote.Struct.Laws.{u16-copy, u8-copy}
use denote.Struct.Lending.{lent_at, lent_at_shr_laws, Lends, Lends-lies, Lends-first, Lends-both}
use mir.Syntax.{w8, w16}
use Rattle.core.specs.Thread.Scope.{refcount_invariant}
use Rattle.bw_run.specs.Ownership.{block_type, rejoins, contents, seen, placed, owner_shares, run_shares}
use Rattle.bw_run.specs.Token.{chunk}

module _ (p : Ptr) (xs : List ℕ) where
  pub seen_laws : ShrLaws (seen p xs)
  seen_laws = beside_shr_laws (lent_at u16 (p +ₚ 8) (length xs)) (lent_at (Array u8 (length xs)) (p +ₚ 10) xs) (lent_at_shr_laws u16 (uint_row_laws w16) (p +ₚ 8) (length xs))
      (lent_at_shr_laws (Array u8 (length xs)) (Array-row_laws u8 (uint_row_laws w8) (length xs)) (p +ₚ 10) xs)

  owner_laws : (a : ℕ) → ShrLaws (owner_shares p xs a)
  owner_laws a = let I : Fml = refcount_invariant (contents p xs) (block_of p) (count_of p + 0) a in
      beside_shr_laws (one (λ q. flft (a ∷ []) q)) (beside (always I) (held (a ∷ []) (seen p xs))) (one_shr_laws (λ q. flft (a ∷ []) q))
      (beside_shr_laws (always I) (held (a ∷ []) (seen p xs)) (always_shr_laws I) (held_shr_laws (a ∷ []) (seen p xs) seen_laws))

  pub run_laws : ShrLaws (run_shares p xs)
  run_laws = beside_shr_laws (said (placed p xs)) (some ℕ (owner_shares p xs)) (said_shr_laws (placed p xs) ((λ _. tt), tt)) (some_shr_laws ℕ (owner_shares p xs) owner_laws)

  -- the contents are lent: the length and the bytes, without what frees the block
  pub Lends-contents : {M : Type 1} {𝓤 : Ura M} (𝓛 : Logic 𝓤) (l : Lft) → Lends 𝓛 (contents p xs) (seen p xs) l
  Lends-contents {M} {𝓤} 𝓛 l =
      let n = length xs in let Bytes : Fml = lies_at (Array u8 n) full_share (p +ₚ 10) xs in let Frees : Fml = fsep (chunk (block_type n) p) (rejoins n p) in
      Lends-both 𝓛 (lies_at u16 full_share (p +ₚ 8) n) (fsep Bytes Frees) (lent_at u16 (p +ₚ 8) n) (lent_at (Array u8 n) (p +ₚ 10) xs) l
      (Lends-lies 𝓛 u16 l (p +ₚ 8) n (Shares-less 𝓛 u16 u16.lives l (⊑_static l) ((copy_shared u16-field u16-copy).shares M 𝓤 𝓛) n))
      (Lends-first 𝓛 Bytes Frees (lent_at (Array u8 n) (p +ₚ 10) xs) l
      (Lends-lies 𝓛 (Array u8 n) l (p +ₚ 10) xs (Shares-Array 𝓛 u8 tt n l (Shares-less 𝓛 u8 u8.lives l (⊑_static l) ((copy_shared (u8-field) u8-copy).shares M 𝓤 𝓛)) xs)))
