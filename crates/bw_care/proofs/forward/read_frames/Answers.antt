use Rattle.std.proofs.Common.{◌+◌, List, [], ◌∷◌, ◌++◌, subst}
use Rattle.std.proofs.lemmas.Result.{err_from_is_err_and}
use Rattle.bw_record.specs.declared.block.Block.{Block}
use Rattle.bw_record.specs.declared.block.Frame.{Frame}
use Rattle.bw_log.specs.Places.{placed, all_placed, bad_link}
use Rattle.bw_care.specs.Behind.{frames_behind}
use Rattle.bw_lines.specs.Reading.{IsRead, LinkFaultIs}
use Rattle.bw_care.proofs.FrontsRead.{front_from, there_from, none_from, read_more, ends_tail}
use Rattle.bw_lines.proofs.FramesJoined.{frames_step, frames_wrong}
use Rattle.bw_care.proofs.SecondPass.{frames_around, never_bad}
use Rattle.bw_care.proofs.forward.read_frames.Goals as goal

pub frames-preserved : goal.frames-preserved
frames-preserved c =
    let seen = c.frames.invariant.seen in
    record {
      seen = (
        seen.0 ++ c.in-Ok-Whole.frame ∷ [],
        _,
        read_more c.args.header c.args.bytes.now c.frames.at seen.0 seen.1 c.in-Ok-Whole.frame c.in-Ok-Whole.used seen.2
            (front_from c.args.header c.args.bytes.now c.frames.at c.in-Ok-Whole.field-0 _ c.in-Ok-Whole.ensures.gives c.in-Ok-Whole.field-0-is)
            (there_from c.args.header c.args.bytes.now c.frames.at c.in-Ok-Whole.field-0 _ c.in-Ok-Whole.ensures.found c.in-Ok-Whole.field-0-is),
        λ done read. frames_step c.args.first done seen.0 c.in-Ok-Whole.frame c.read_blocks_linked.new.lines
            (subst (λ (bs : List Block). IsRead c.args.first ((done ++ all_placed seen.0) ++ placed c.in-Ok-Whole.frame.number 0 bs)
            c.read_blocks_linked.new.lines)
            c.into_vec.ensures ((c.in_ok-read_blocks_linked-in-Ok-Whole).ensures.ok (done ++ all_placed seen.0) (seen.3 done read))),
      );
    }

pub returns-in-Ok-Tail-clause-ok : goal.returns-in-Ok-Tail-clause-ok
returns-in-Ok-Tail-clause-ok c =
    let seen = c.frames.invariant.seen in
    let front = front_from c.args.header c.args.bytes.now c.frames.at c.in-Ok-Tail.field-0 _ c.in-Ok-Tail.ensures.gives c.in-Ok-Tail.field-0-is in
    let e = ends_tail c.args.header c.args.bytes.now c.frames.at seen.0 seen.1 seen.2 front in
    λ done read. subst (λ (fs : List Frame). IsRead c.args.first (done ++ all_placed fs) c.frames.lines) e.frames (seen.3 done read)

pub unreachable-requires : goal.unreachable-requires
unreachable-requires c =
    let seen = c.frames.invariant.seen in
    never_bad c.args.header c.args.bytes.now c.frames.at seen.0 seen.1 c.requires.lawful seen.2
    (none_from c.args.header c.args.bytes.now c.frames.at c.in-Err-BadBytes.field-0 c.in-Err-BadBytes.ensures.gives c.in-Err-BadBytes.field-0-is)

pub returns-in_err-read_blocks_linked-in-Ok-Whole-clause-fault : goal.returns-in_err-read_blocks_linked-in-Ok-Whole-clause-fault
returns-in_err-read_blocks_linked-in-Ok-Whole-clause-fault c =
    let p = err_from_is_err_and c.from_residual.result c.from_residual.ensures.1 in
    let seen = c.frames.invariant.seen in
    let around = frames_around c.args.header c.args.bytes.now (c.frames.at + c.in-Ok-Whole.used) seen.0 _ c.in-Ok-Whole.frame
    (read_more c.args.header c.args.bytes.now c.frames.at seen.0 seen.1 c.in-Ok-Whole.frame c.in-Ok-Whole.used seen.2
    (front_from c.args.header c.args.bytes.now c.frames.at c.in-Ok-Whole.field-0 _ c.in-Ok-Whole.ensures.gives c.in-Ok-Whole.field-0-is)
    (there_from c.args.header c.args.bytes.now c.frames.at c.in-Ok-Whole.field-0 _ c.in-Ok-Whole.ensures.found c.in-Ok-Whole.field-0-is)) in
    λ done rest read. rw (p.1, p.2) (frames_wrong c.args.first done rest seen.0 c.in-Ok-Whole.frame around.0 (frames_behind c.args.header c.args.bytes.now)
    (c.in_err-read_blocks_linked-in-Ok-Whole).field-0.0 around.1
    (subst (λ (bs : List Block). LinkFaultIs (bad_link c.args.first []
    ((done ++ all_placed seen.0) ++ (placed c.in-Ok-Whole.frame.number 0 bs ++ (all_placed around.0 ++ rest))))
    (c.in_err-read_blocks_linked-in-Ok-Whole).field-0.0) c.into_vec.ensures
    ((c.in_err-read_blocks_linked-in-Ok-Whole).ensures.fault (done ++ all_placed seen.0) (all_placed around.0 ++ rest) (seen.3 done read))))
