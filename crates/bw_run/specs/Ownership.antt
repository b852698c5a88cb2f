-- The block of a run: a count, the length, and the bytes after them. Its owners share it by count,
-- as those of an `Arc` do.
use Rattle.core.specs.Prelude.{ℕ, ◌+◌, ◌^◌, List, [], ◌∷◌, length}
use Rattle.core.specs.Thread.Scope.{refcount_invariant}
use mir.Syntax.{Ty, w8, w16, w64, ty_int, ty_array, ty_struct, tcons, tnil}
use base.Fraction.{full_share}
use base.Fml.{Lft, Fml, ftrue, fsep, fex, fwand, flt, flft, finv}
use types.RcWeak.{part}
use denote.Array.{Array}
use denote.Builtin.{u8, u16}
use denote.RawPtr.{Ptr, InBlock, block_of, count_of, lies_at, room_for, ◌+ₚ◌}
use denote.Sharing.{said, beside, some, one, held, always}
use denote.Struct.Lending.{lent_at}
use Rattle.bw_run.specs.Token.{chunk}

-- the block for n bytes, as the machine sees it: the count at 0, the length at 8, the bytes at 10
abbrev pub block_type : ℕ → Ty
block_type n = ty_struct [] (tcons (ty_int w64) (tcons (ty_int w16) (tcons (ty_array (ty_int w8) n) tnil)))

-- the three fields, given back empty, make the whole block
abbrev pub rejoins : ℕ → Ptr → Fml
rejoins n p = fwand (fsep (room_for (ty_int w64) (p +ₚ 0)) (fsep (room_for (ty_int w16) (p +ₚ 8)) (fsep (room_for (ty_array (ty_int w8) n) (p +ₚ 10)) ftrue))) (room_for (block_type n) p)

-- what a `Room` owns
abbrev pub room_owns : Ptr → ℕ → Fml
room_owns p n = fsep (room_for (block_type n) p) (chunk (block_type n) p)

-- what a `Front` owns
abbrev pub front_owns : Ptr → ℕ → Fml
front_owns p n = fsep (room_for (ty_int w64) (p +ₚ 0)) (fsep (room_for (ty_int w16) (p +ₚ 8)) (fsep (chunk (block_type n) p) (rejoins n p)))

-- what the last owner gets
abbrev pub contents : Ptr → List ℕ → Fml
contents p xs = fsep (lies_at u16 full_share (p +ₚ 8) (length xs)) (fsep (lies_at (Array u8 (length xs)) full_share (p +ₚ 10) xs) (fsep (chunk (block_type (length xs)) p) (rejoins (length xs) p)))

-- what is shared of that
abbrev pub seen : Ptr → List ℕ → Lft → Fml
seen p xs = beside (lent_at u16 (p +ₚ 8) (length xs)) (lent_at (Array u8 (length xs)) (p +ₚ 10) xs)

-- what an owner has: its part of the token, the count's invariant, and what is shared
abbrev pub owner_owns : Ptr → List ℕ → ℕ → Fml
owner_owns p xs a = fsep (part 63 a) (fsep (finv (refcount_invariant (contents p xs) (block_of p) (count_of p + 0) a)) (seen p xs (a ∷ [])))

-- what a `&` to an owner has of those
abbrev pub owner_shares : Ptr → List ℕ → ℕ → Lft → Fml
owner_shares p xs a = beside (one (λ q. flft (a ∷ []) q)) (beside (always (refcount_invariant (contents p xs) (block_of p) (count_of p + 0) a)) (held (a ∷ []) (seen p xs)))

-- what holds of an owner always: its pointer is one, and the bytes are not too many
abbrev pub placed : Ptr → List ℕ → Fml
placed p xs = fsep (fex (InBlock p) (λ _. ftrue)) (flt (length xs) (2 ^ 16))

abbrev pub run_owns : Ptr → List ℕ → Fml
run_owns p xs = fsep (placed p xs) (fex ℕ (owner_owns p xs))

abbrev pub run_shares : Ptr → List ℕ → Lft → Fml
run_shares p xs = beside (said (placed p xs)) (some ℕ (owner_shares p xs))
