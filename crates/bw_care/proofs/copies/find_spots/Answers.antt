use Rattle.std.proofs.Common.{◌∙◌, ℕ, Some, ap, length, slice_get}
use Rattle.std.proofs.lemmas.List.{length-replicate}
use Rattle.bw_care.specs.Views.{seen}
use Rattle.bw_care.proofs.FrameNoted.{oldest_version, line_of}
use Rattle.bw_care.proofs.ReadAhead.{first_is, none_tell}
use Rattle.bw_care.proofs.copies.find_spots.Goals as goal

pub loop-i-init : goal.loop-i-init
loop-i-init g c = record {
  many = rw c.in_ok-spots.ensures (length-replicate _ _);
  spots = rw c.in_ok-spots.ensures (none_tell _ c.args.bytes.now (length c.args.pages.now) c.args.pages.now);
}

pub returns-then-version-ne-LATEST-clause-spots : goal.returns-then-version-ne-LATEST-clause-spots
returns-then-version-ne-LATEST-clause-spots g c =
    rw c.in_ok-spots.ensures (none_tell _ c.args.bytes.now (length c.args.pages.now) c.args.pages.now)

pub note_frame-requires-clause-line : goal.note_frame-requires-clause-line
note_frame-requires-clause-line g c =
    let log = seen c.args.log.now (λ b. (goal.Segment-dyn g b).holding b.1) in
    let first = first_is log (slice_get log.live 0) c.in-Some.segment c.in-Some.field-0-1 c.in-Some.field-0-2 c.in-Some.ensures in
    line_of log c.loop-i.i c.in-Some-line.line.now c.args.bytes.now c.requires.sound c.in-Some-line.ensures (c.if-line-segment.false ∙ first)
    (oldest_version log _ c.requires.sound c.requires.some c.live_version.ensures
    (c.in-Some-live_version.is ∙ ap (λ (v : ℕ). Some v) c.if-version-ne-LATEST.false)) c.requires.oldest
