-- What an owner owns, and what a `&` to one holds, means the same in every thread.
use Rattle.std.proofs.Common.{ℕ, ◌+◌, Bool, true, false, List, [], ◌∷◌, length}
use mir.Syntax.{Ty, w8, w16, w64, ty_int, ty_array}
use base.Shift.{Keyless}
use denote.Array.{Array}
use denote.Builtin.{u8, u16}
use denote.Param.Send.{IsSend, IsSync, Common, array_send, array_sync, sendable}
use denote.RawPtr.{Ptr, block_ptr, null_ptr, block_of, count_of, room_for, ◌+ₚ◌}
use Rattle.core.specs.Thread.Scope.{refcount_if_alive}
use Rattle.std.proofs.Crossing as heap
use Rattle.std_alloc.proofs.SendSync.{lies, seen as shown}
use Rattle.std_heap.proofs.Handle.{handle}
use Rattle.bw_run.specs.Ownership.{block_type, contents, seen, run_owns, run_shares}

room : (τ : Ty) (p : Ptr) → Keyless (room_for τ p)
room τ (block_ptr b o) = tt
room τ null_ptr = tt

lengths : IsSend u16
lengths = search sendable

lengths_seen : IsSync u16
lengths_seen = search sendable

byte : IsSend u8
byte = search sendable

byte_seen : IsSync u8
byte_seen = search sendable

module _ (p : Ptr) (xs : List ℕ) where
  abbrev n : ℕ
  n = length xs

  whole : Keyless (contents p xs)
  whole = (
    lies u16 lengths (p +ₚ 8) n,
    (
      lies (Array u8 n) (array_send u8 n byte) (p +ₚ 10) xs,
      (heap.frees.frees handle (block_type n) p, ((room (ty_int w64) (p +ₚ 0), (room (ty_int w16) (p +ₚ 8), (room (ty_array (ty_int w8) n) (p +ₚ 10), tt))), room (block_type n) p)),
    ),
  )

  counted : (a : ℕ) (alive : Bool) → Keyless (refcount_if_alive (contents p xs) (block_of p) (count_of p + 0) a alive)
  counted a true = λ m. (tt, ((λ r c. tt), whole))
  counted a false = tt

  looked : Common (seen p xs)
  looked κ = (shown u16 lengths_seen (p +ₚ 8) n κ, shown (Array u8 n) (array_sync u8 n byte_seen) (p +ₚ 10) xs κ)

  pub owned_anywhere : Keyless (run_owns p xs)
  owned_anywhere = (((λ _. tt), tt), λ a. ((λ u c. tt), (counted a, looked (a ∷ []))))

  pub shared_anywhere : Common (run_shares p xs)
  shared_anywhere κ = (((λ _. tt), tt), λ a. ((λ q. tt), (counted a, looked (a ∷ []))))
