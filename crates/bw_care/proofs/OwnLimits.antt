-- The boxes of a sound log have its page limit; and if anything is found, there is a segment.

use Rattle.std.proofs.Common.{◌≡◌, ◌≤◌, Bool, true, false, Option, Some, None, Ok, List, [], ◌∷◌, length, refl, ap, ◌∙◌, subst, arith}
use Rattle.bw_device.specs.Holding.{Holding}
use Rattle.bw_record.specs.declared.block.Frame.{Frame}
use Rattle.bw_log.specs.Contents.{Contents, IsSound, boxes, image, limits_of}
use Rattle.bw_log.specs.Segments.{Limits}
use Rattle.bw_care.specs.Laws.{OwnLimitsRead, frames_held}
use Rattle.bw_care.specs.Recovery.{Finding, answer, bytes_fault, fault_of_frames, fault_of_order, first_fault, found_in, frames_in, has_gap}
use Rattle.bw_care.specs.Recovery.{is_mixed, is_none, is_small, live_in, pairs_in, recovery, too_large, when}
use Rattle.bw_log.specs.Places.{or_else}
use Rattle.bw_lines.specs.declared.cause.RecoverCause.{RecoverCause}
use Rattle.bw_lines.specs.declared.cause.RecoverCause.TheVariants.{BadConfig, Empty, Gap, Mixed}
use Rattle.bw_care.proofs.OwnFound.{all_bounded, pairs_sorted, spares_loose}
use Rattle.bw_care.proofs.ShortenedBoxes.{SortsOut, loose_sorts, torn_sorts}
use Rattle.bw_care.proofs.SurveyFacts.{or_none, when_none}

-- ---- the page limit

own_sorts : (c : Contents) (sound : IsSound c) (failed : Bool) → c.is_failed ≡ failed
    → SortsOut (limits_of (image c) sound.holds.live.0) (boxes c) (frames_held c.live)
own_sorts c sound true failed =
    torn_sorts c c.spares sound.holds refl (sound.torn failed) sound.rooms sound.few (all_bounded c.f c.live c.spares sound.bounds sound.rooms)
own_sorts c sound false works =
    loose_sorts c c.spares sound.holds (spares_loose c.f c.spares (sound.empty works)) sound.few
    (all_bounded c.f c.live c.spares sound.bounds sound.rooms)

pub own_limits : OwnLimitsRead
own_limits c sound some =
    let x = own_sorts c sound c.is_failed refl in
    let z = limits_of (image c) sound.holds.live.0 in
    ap pairs_in x.is ∙ pairs_sorted z x.number x.live x.loose x.sorted (subst (λ (hs : List Holding). 1 ≤ length (live_in hs)) x.is some)

-- ---- what is found has a segment

none_told : (o : Option RecoverCause) (x f : Finding) → answer o x ≡ Ok f → o ≡ None
none_told None x f e = refl
none_told (Some cause) x f e = absurd cc

some_live : (hs : List Holding) → is_none (frames_held hs) ≡ false → 1 ≤ length hs
some_live [] e = absurd cc
some_live (h ∷ hs) e = omega arith

pub found_some : (hs : List Holding) (f : Finding) → recovery hs ≡ Ok f → 1 ≤ length (live_in hs)
found_some hs f found =
    let none = none_told (first_fault hs) (found_in hs) f found in
    let bytes = or_none (when (too_large hs) BadConfig) _ none in
    let order = or_none (bytes_fault 0 hs) _ bytes.1 in
    let frames = or_none (fault_of_order hs) _ order.1 in
    let mixed = or_none (when (is_mixed hs) Mixed) _ frames.0 in
    let gap = or_none (when (has_gap hs) Gap) _ mixed.1 in
    some_live (live_in hs) (when_none (is_none (frames_in hs)) Empty gap.1)
