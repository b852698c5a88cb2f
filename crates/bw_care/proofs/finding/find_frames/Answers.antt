use Rattle.std.proofs.Common.{ℕ, ◌+◌, sym, refl, List, ◌∷◌, ◌++◌, [], ◌<◌, ◌^◌, arith, rules, subst}
use Rattle.std.proofs.lemmas.Result.{err_from_is_err_and}
use Rattle.bw_record.specs.declared.block.Frame.{Frame}
use Rattle.bw_codec.specs.declared.check.FrameSeen.TheVariants as told
use Rattle.bw_codec.specs.declared.head.FrameRead.TheVariants.{Whole, Tail}
use Rattle.bw_codec.proofs.FrontFormat.{is_front}
use Rattle.bw_log.specs.Places.{placed, all_placed, bad_link}
use Rattle.bw_care.specs.Behind.{frames_behind}
use Rattle.bw_lines.specs.Reading.{IsRead, LinkFaultIs}
use Rattle.bw_care.proofs.FrontsRead.{whole_from, tail_from, unseen_from, fits_there, body_there, read_more, ends_tail}
use Rattle.bw_lines.proofs.FramesJoined.{frames_step, frames_wrong}
use Rattle.bw_care.proofs.SecondPass.{frames_around, never_bad}
use Rattle.bw_care.proofs.finding.find_frames.Goals as goal

pub known-requires : goal.known-requires
known-requires c = λ none.
    never_bad c.args.header c.args.bytes.now c.frames.at c.frames.invariant.seen.0 c.frames.invariant.seen.1 c.requires.lawful c.frames.invariant.seen.2
    (unseen_from c.args.header c.args.bytes.now c.frames.at none)

pub slice_bounds-body-count : goal.slice_bounds-body-count
slice_bounds-body-count c =
    let k = c.args.header in
    let small : k.m < 2 ^ 16 = search rules in
    let seen = c.frames.invariant.seen in
    let w = whole_from k c.args.bytes.now c.frames.at (told.Whole c.in-Whole.number c.in-Whole.used) c.in-Whole.number c.in-Whole.used
    c.in-Whole.ensures refl in
    let fits = fits_there k c.frames.at c.args.bytes.now w.frame c.in-Whole.used seen.2.within w.there in
    let used = fits.1 in
    omega (arith, used)

pub slice_bounds-body-start : goal.slice_bounds-body-start
slice_bounds-body-start c =
    let k = c.args.header in
    let small : k.m < 2 ^ 16 = search rules in
    let seen = c.frames.invariant.seen in
    let w = whole_from k c.args.bytes.now c.frames.at (told.Whole c.in-Whole.number c.in-Whole.used) c.in-Whole.number c.in-Whole.used
    c.in-Whole.ensures refl in
    let fits = fits_there k c.frames.at c.args.bytes.now w.frame c.in-Whole.used seen.2.within w.there in
    let used = fits.1 in
    omega (arith, used)

pub read_blocks_linked-requires : goal.read_blocks_linked-requires
read_blocks_linked-requires c =
    let k = c.args.header in
    let small : k.m < 2 ^ 16 = search rules in
    let seen = c.frames.invariant.seen in
    let w = whole_from k c.args.bytes.now c.frames.at (told.Whole c.in-Whole.number c.in-Whole.used) c.in-Whole.number c.in-Whole.used
    c.in-Whole.ensures refl in
    let fits = fits_there k c.frames.at c.args.bytes.now w.frame c.in-Whole.used seen.2.within w.there in
    let used = fits.2 in
    omega (arith, used)

pub frames-preserved : goal.frames-preserved
frames-preserved c =
    let k = c.args.header in
    let small : k.m < 2 ^ 16 = search rules in
    let seen = c.frames.invariant.seen in
    let w = whole_from k c.args.bytes.now c.frames.at (told.Whole c.in-Whole.number c.in-Whole.used) c.in-Whole.number c.in-Whole.used
    c.in-Whole.ensures refl in
    let limit : k.f < 2 ^ 32 = search rules in
    let front = is_front k.version k.m k.f _ (Whole w.frame c.in-Whole.used) small limit w.there in
    let more = read_more k c.args.bytes.now c.frames.at seen.0 seen.1 w.frame c.in-Whole.used seen.2 front w.there in
    record {
      seen = (
        seen.0 ++ w.frame ∷ [],
        _,
        more,
        λ done read. frames_step c.args.first done seen.0 w.frame c.read_blocks_linked.new.lines
            (subst (λ (n : ℕ). IsRead c.args.first ((done ++ all_placed seen.0) ++ placed n 0 w.frame.blocks) c.read_blocks_linked.new.lines) (sym w.number_is)
            ((c.in_ok-read_blocks_linked-in-Whole).ensures.ok k.m w.frame.blocks (done ++ all_placed seen.0)
            (body_there k c.args.bytes.now c.frames.at c.in-Whole.number c.in-Whole.used w small) (seen.3 done read))),
      );
    }

pub returns-in-Tail-clause-ok : goal.returns-in-Tail-clause-ok
returns-in-Tail-clause-ok c =
    let k = c.args.header in
    let small : k.m < 2 ^ 16 = search rules in
    let limit : k.f < 2 ^ 32 = search rules in
    let seen = c.frames.invariant.seen in
    let there = tail_from k c.args.bytes.now c.frames.at told.Tail c.in-Tail.ensures refl in
    let front = is_front k.version k.m k.f _ Tail small limit there in
    let e = ends_tail k c.args.bytes.now c.frames.at seen.0 seen.1 seen.2 front in
    λ done read. subst (λ (fs : List Frame). IsRead c.args.first (done ++ all_placed fs) c.frames.lines) e.frames (seen.3 done read)

pub returns-in_err-read_blocks_linked-in-Whole-clause-fault : goal.returns-in_err-read_blocks_linked-in-Whole-clause-fault
returns-in_err-read_blocks_linked-in-Whole-clause-fault c =
    let p = err_from_is_err_and c.from_residual.result c.from_residual.ensures.1 in
    let k = c.args.header in
    let small : k.m < 2 ^ 16 = search rules in
    let seen = c.frames.invariant.seen in
    let w = whole_from k c.args.bytes.now c.frames.at (told.Whole c.in-Whole.number c.in-Whole.used) c.in-Whole.number c.in-Whole.used
    c.in-Whole.ensures refl in
    let limit : k.f < 2 ^ 32 = search rules in
    let front = is_front k.version k.m k.f _ (Whole w.frame c.in-Whole.used) small limit w.there in
    let more = read_more k c.args.bytes.now c.frames.at seen.0 seen.1 w.frame c.in-Whole.used seen.2 front w.there in
    let around = frames_around k c.args.bytes.now (c.frames.at + c.in-Whole.used) seen.0 _ w.frame more in
    λ done rest read. rw (p.1, p.2) (frames_wrong c.args.first done rest seen.0 w.frame around.0 (frames_behind k c.args.bytes.now)
    (c.in_err-read_blocks_linked-in-Whole).field-0.0 around.1
    (subst (λ (n : ℕ). LinkFaultIs (bad_link c.args.first []
    ((done ++ all_placed seen.0) ++ (placed n 0 w.frame.blocks ++ (all_placed around.0 ++ rest)))) (c.in_err-read_blocks_linked-in-Whole).field-0.0) (sym w.number_is)
    ((c.in_err-read_blocks_linked-in-Whole).ensures.fault k.m w.frame.blocks (done ++ all_placed seen.0) (all_placed around.0 ++ rest)
    (body_there k c.args.bytes.now c.frames.at c.in-Whole.number c.in-Whole.used w small) (seen.3 done read))))
