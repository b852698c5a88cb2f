-- Which box a failed append asked.

use Rattle.std.proofs.Common.{inl, inr, ◌≡◌, ◌⊎◌, ℕ, zero, suc, ◌+◌, ◌&&◌, nat_lt, Bool, true, false, if◌then◌else◌, Option, Some, None}
use Rattle.std.proofs.Common.{List, [], ◌∷◌, ◌++◌, length, slice_get, refl, sym, ap, subst, ◌∙◌, append_assoc, arith}
use Rattle.bw_codec.specs.Grammar.{frame_bytes, header_bytes}
use Rattle.bw_record.specs.declared.block.Frame.{Frame}
use Rattle.bw_device.specs.Holding.{Holding, appended}
use Rattle.bw_log.specs.Contents.{Contents, boxes}
use Rattle.bw_log.specs.Appends.{begun, begun_with, header_of, is_spent, last_of, roomy, torn, refusal, wants_segment, with_first, with_last, HasFramePart, Rose, Stopped}
use Rattle.bw_log.specs.declared.fault.LogFault.TheVariants.{Failed, NoSegment, Spent}
use Rattle.bw_log.proofs.Stepped.{with_last_at}
use Rattle.bw_care.specs.Moving.{receiver}

-- the box that was asked has this lease
pub record Asked (c : Contents) (len lease : ℕ) : Type 0 where
  pub box : Holding
  pub is : receiver c len ≡ Some box
  pub named : box.lease ≡ lease

-- a box whose count rose is not what it was
no_rise : (h k : Holding) → ◌≡◌ {A = Option Holding} (Some h) (Some k) → k.failed ≡ h.failed + 1 → ⊥
no_rise h k same counts = let e : h ≡ k = cc in let f : h.failed ≡ k.failed = ap (λ (x : Holding). x.failed) e in omega arith

-- only the box after these is another one
rose_at : (front : List Holding) (x y : Holding) (back : List Holding) (at : ℕ) (before after : Holding) → slice_get (front ++ x ∷ back) at ≡ Some before
    → slice_get (front ++ y ∷ back) at ≡ Some after → after.failed ≡ before.failed + 1 → x.lease ≡ before.lease
rose_at [] x y back zero before after was is counts = let e : x ≡ before = cc in ap (λ (h : Holding). h.lease) e
rose_at [] x y back (suc at) before after was is counts = absurd (no_rise before after (sym was ∙ is) counts)
rose_at (h ∷ hs) x y back zero before after was is counts = absurd (no_rise before after (sym was ∙ is) counts)
rose_at (h ∷ hs) x y back (suc at) before after was is counts = rose_at hs x y back at before after was is counts

-- only the last of the first ones is another one
rose_last : (f : Holding → Holding) (hs back : List Holding) (at : ℕ) (before after : Holding) → slice_get (hs ++ back) at ≡ Some before
    → slice_get (with_last f hs ++ back) at ≡ Some after → after.failed ≡ before.failed + 1 → (h : Holding) × (last_of hs ≡ Some h) × (h.lease ≡ before.lease)
rose_last f [] back at before after was is counts = absurd (no_rise before after (sym was ∙ is) counts)
rose_last f (h ∷ []) back zero before after was is counts = let e : h ≡ before = cc in (h, refl, ap (λ (x : Holding). x.lease) e)
rose_last f (h ∷ []) back (suc at) before after was is counts = absurd (no_rise before after (sym was ∙ is) counts)
rose_last f (h ∷ k ∷ hs) back zero before after was is counts = absurd (no_rise before after (sym was ∙ is) counts)
rose_last f (h ∷ k ∷ hs) back (suc at) before after was is counts = rose_last f (k ∷ hs) back at before after was is counts

-- the boxes, as what they are
rose_in : {lease : ℕ} {old new hs ks : List Holding} → Rose lease old new → old ≡ hs → new ≡ ks → Rose lease hs ks
rose_in {lease} {old} {new} {hs} {ks} r a b = subst (λ (l : List Holding). Rose lease l ks) a (subst (Rose lease old) b r)

front_rose : (lease : ℕ) (front : List Holding) (x y : Holding) (back : List Holding) → Rose lease (front ++ x ∷ back) (front ++ y ∷ back) → x.lease ≡ lease
front_rose lease front x y back r = rose_at front x y back r.at r.before r.after r.was r.is r.counts ∙ r.named

none_rose : (lease : ℕ) (hs : List Holding) → Rose lease hs hs → ⊥
none_rose lease hs r = no_rise r.before r.after (sym r.was ∙ r.is) r.counts

by_wants : (c : Contents) (len : ℕ) (wants : Bool) → wants_segment c len ≡ wants → receiver c len ≡ (if wants then slice_get c.spares 0 else last_of c.live)
by_wants c len wants is = ap (λ (b : Bool). if b then slice_get c.spares 0 else last_of c.live) is

-- the header's append failed
asked_header : (c new : Contents) (len lease kept : ℕ) (spares : List Holding) → c.spares ≡ spares → wants_segment c len ≡ true → new.live ≡ c.live
    → new.spares ≡ with_first (torn kept (header_bytes (header_of c))) spares → Rose lease (boxes c) (boxes new) → Asked c len lease
asked_header c new len lease kept [] are wants live torn_one rose =
    absurd (none_rose lease (c.live ++ []) (rose_in rose (ap (λ (l : List Holding). c.live ++ l) are)
    (ap (λ (l : List Holding). l ++ new.spares) live ∙ ap (λ (l : List Holding). c.live ++ l) torn_one)))
asked_header c new len lease kept (s ∷ ss) are wants live torn_one rose = record {
  box = s;
  is = by_wants c len true wants ∙ ap (λ (l : List Holding). slice_get l 0) are;
  named = front_rose lease c.live s (torn kept (header_bytes (header_of c)) s) ss (rose_in rose (ap (λ (l : List Holding). c.live ++ l) are)
      (ap (λ (l : List Holding). l ++ new.spares) live ∙ ap (λ (l : List Holding). c.live ++ l) torn_one));
}

-- the frame's append failed in a segment that was begun for it
asked_begun : (c new : Contents) (x : Frame) (lease kept : ℕ) (spares : List Holding) → c.spares ≡ spares → wants_segment c (length (frame_bytes x)) ≡ true
    → nat_lt (length spares) 1 ≡ false → HasFramePart kept c x new → Rose lease (boxes c) (boxes new) → Asked c (length (frame_bytes x)) lease
asked_begun c new x lease kept [] are wants some part rose = absurd cc
asked_begun c new x lease kept (s ∷ ss) are wants some part rose =
    let len = length (frame_bytes x) in
    let f : Holding → Holding = torn kept (frame_bytes x) in
    let h : Holding = appended s (header_bytes (header_of c)) in
    let begun_is : roomy c len ≡ begun_with c (s ∷ ss) = ap (λ (b : Bool). if b then begun c else c) wants ∙ ap (begun_with c) are in
    let live : new.live ≡ c.live ++ f h ∷ [] = part.0 ∙ ap (λ (k : Contents). with_last f k.live) begun_is ∙ with_last_at f c.live h in
    let rest : new.spares ≡ ss = part.1 ∙ ap (λ (k : Contents). k.spares) begun_is in
    record {
      box = s;
      is = by_wants c len true wants ∙ ap (λ (l : List Holding). slice_get l 0) are;
      named = front_rose lease c.live s (f h) ss (rose_in rose (ap (λ (l : List Holding). c.live ++ l) are)
          (ap (λ (l : List Holding). l ++ new.spares) live ∙ ap (λ (l : List Holding). (c.live ++ f h ∷ []) ++ l) rest ∙ append_assoc c.live (f h ∷ []) ss));
    }

-- the frame's append failed in the newest segment
asked_newest : (c new : Contents) (x : Frame) (lease kept : ℕ) → wants_segment c (length (frame_bytes x)) ≡ false → HasFramePart kept c x new
    → Rose lease (boxes c) (boxes new) → Asked c (length (frame_bytes x)) lease
asked_newest c new x lease kept wants part rose =
    let len = length (frame_bytes x) in
    let f : Holding → Holding = torn kept (frame_bytes x) in
    let same : roomy c len ≡ c = ap (λ (b : Bool). if b then begun c else c) wants in
    let now : boxes new ≡ with_last f c.live ++ c.spares = ap (λ (l : List Holding). l ++ new.spares) (part.0 ∙ ap (λ (k : Contents). with_last f k.live) same)
    ∙ ap (λ (l : List Holding). with_last f c.live ++ l) (part.1 ∙ ap (λ (k : Contents). k.spares) same) in
    let r = rose_in rose refl now in
    let last = rose_last f c.live c.spares r.at r.before r.after r.was r.is r.counts in
    record { box = last.0; is = by_wants c len false wants ∙ last.1; named = last.2 ∙ r.named }

lacks_none : (a b d : Bool) → (if a then Some Failed else if b then Some NoSegment else if d then Some Spent else None) ≡ None → b ≡ false
lacks_none true b d is = absurd cc
lacks_none false true d is = absurd cc
lacks_none false false d is = refl

wants_or_not : (b : Bool) → (b ≡ true) ⊎ (b ≡ false)
wants_or_not true = inl refl
wants_or_not false = inr refl

asked_frame : (c new : Contents) (x : Frame) (lease kept : ℕ) → refusal c (length (frame_bytes x)) true ≡ None → HasFramePart kept c x new
    → Rose lease (boxes c) (boxes new) → Asked c (length (frame_bytes x)) lease
asked_frame c new x lease kept may part rose =
    let len = length (frame_bytes x) in
    elim (wants_or_not (wants_segment c len)) [
      | inl wants ↦ asked_begun c new x lease kept c.spares refl wants
          (ap (λ (b : Bool). b && nat_lt (length c.spares) 1) (sym wants)
          ∙ lacks_none c.is_failed (wants_segment c len && nat_lt (length c.spares) 1) (is_spent c len) may) part rose
      | inr other ↦ asked_newest c new x lease kept other part rose
    ]

-- a failed append asked the box of the frame
pub asked_box : (c new : Contents) (x : Frame) (lease : ℕ) → refusal c (length (frame_bytes x)) true ≡ None
    → Rose lease (boxes c) (boxes new) × Stopped c x new → Asked c (length (frame_bytes x)) lease
asked_box c new x lease may device =
    elim device.1.where_it_stands [
      | inl header ↦ asked_header c new (length (frame_bytes x)) lease device.1.kept c.spares refl header.0 header.1 header.2 device.0
      | inr part ↦ asked_frame c new x lease device.1.kept may part device.0
    ]
