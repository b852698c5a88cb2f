-- The last box of many, as questions answer it.

use Rattle.std.proofs.Common.{◌≡◌, ℕ, zero, suc, ◌+◌, ◌-◌, ◌^◌, ◌<◌, ◌≤◌, ◌==◌, Bool, true, false, nat_le, List, [], ◌∷◌, length, map, slice_get, Option, Some}
use Rattle.std.proofs.Common.{IfSome, inl, inr, refl, sym, ap, subst, ◌∙◌, arith}
use Rattle.std.proofs.lemmas.Bool.{eq-eqb, ne_eqb, le-leb, lt-leb, cases_lt}
use Rattle.std.proofs.lemmas.List.{length-map}
use Rattle.bw_device.specs.Holding.{Holding}
use Rattle.bw_log.specs.Appends.{last_of, has_room, is_worn}
use Rattle.bw_log.proofs.Asked.{found}

pub last_is : (hs : List Holding) → last_of hs ≡ slice_get hs (length hs - 1)
last_is [] = refl
last_is (h ∷ []) = refl
last_is (h ∷ k ∷ hs) = last_is (k ∷ hs) ∙ ap (λ (i : ℕ). slice_get (h ∷ k ∷ hs) i)
    (let e : suc (length (k ∷ hs) - 1) ≡ length (h ∷ k ∷ hs) - 1 = omega arith in e)

-- the last box, and where it stands
pub record Last {X : Type 0} (v : X → Holding) (xs : List X) : Type 0 where
  pub holding : Holding
  pub at : slice_get (map v xs) (length xs - 1) ≡ Some holding
  pub last : last_of (map v xs) ≡ Some holding

pub the_last : {X : Type 0} (v : X → Holding) (xs : List X) → 0 < length xs → Last v xs
the_last v xs some =
    let there = found v xs (length xs - 1) (omega arith) in
    record { holding = there.0; at = there.1; last = last_is (map v xs) ∙ ap (λ (n : ℕ). slice_get (map v xs) (n - 1)) (length-map xs v) ∙ there.1 }

at_some : (P : Holding → Type 0) (o : Option Holding) (h : Holding) → o ≡ Some h → IfSome o P → P h
at_some P o h is told = subst (λ (x : Option Holding). IfSome x P) is told

greatest : (n : ℕ) → n < 2 ^ 64 → (n == 2 ^ 64 - 1) ≡ nat_le (2 ^ 64 - 1) n
greatest n small =
    elim (cases_lt n (2 ^ 64 - 1)) [
      | inl below ↦ ne_eqb n (2 ^ 64 - 1) (λ e. absurd (omega arith)) ∙ sym (lt-leb (2 ^ 64 - 1) n below)
      | inr top ↦ eq-eqb n (2 ^ 64 - 1) (omega arith) ∙ sym (le-leb (2 ^ 64 - 1) n top)
    ]

pub worn_told : {X : Type 0} (v : X → Holding) (xs : List X) (n : ℕ) → 0 < length xs → n < 2 ^ 64
    → IfSome (slice_get (map v xs) (length xs - 1)) (λ h. n ≡ h.failed)
    → (n == 2 ^ 64 - 1) ≡ is_worn (last_of (map v xs))
worn_told v xs n some small told =
    let l = the_last v xs some in
    let same : n ≡ l.holding.failed = at_some (λ (h : Holding). n ≡ h.failed) (slice_get (map v xs) (length xs - 1)) l.holding l.at told in
    greatest n small ∙ ap (λ (k : ℕ). nat_le (2 ^ 64 - 1) k) same ∙ ap is_worn (sym l.last)

room_is : (len used room : ℕ) → used ≤ room → nat_le len (room - used) ≡ nat_le (used + len) room
room_is len used room within =
    elim (cases_lt (room - used) len) [
      | inl over ↦ lt-leb len (room - used) over ∙ sym (lt-leb (used + len) room (omega arith))
      | inr fits ↦ le-leb len (room - used) fits ∙ sym (le-leb (used + len) room (omega arith))
    ]

pub room_told : {X : Type 0} (v : X → Holding) (xs : List X) (len used room : ℕ) → 0 < length xs
    → IfSome (slice_get (map v xs) (length xs - 1)) (λ h. used ≡ length h.bytes) → IfSome (slice_get (map v xs) (length xs - 1)) (λ h. used ≤ h.room)
    → IfSome (slice_get (map v xs) (length xs - 1)) (λ h. room ≡ h.room)
    → nat_le len (room - used) ≡ has_room len (last_of (map v xs))
room_told v xs len used room some used_is within room_of =
    let l = the_last v xs some in
    let at = slice_get (map v xs) (length xs - 1) in
    let u : used ≡ length l.holding.bytes = at_some (λ (h : Holding). used ≡ length h.bytes) at l.holding l.at used_is in
    let w : used ≤ l.holding.room = at_some (λ (h : Holding). used ≤ h.room) at l.holding l.at within in
    let r : room ≡ l.holding.room = at_some (λ (h : Holding). room ≡ h.room) at l.holding l.at room_of in
    room_is len used room (omega arith) ∙ ap (λ (k : ℕ). nat_le (k + len) room) u ∙ ap (λ (k : ℕ). nat_le (length l.holding.bytes + len) k) r
    ∙ ap (has_room len) (sym l.last)

pub not_empty : (n : ℕ) (r : Bool) → r ≡ (n == 0) → r ≡ false → 0 < n
not_empty zero r is none = absurd (let no : true ≡ false = sym is ∙ none in cc)
not_empty (suc n) r is none = omega arith
