use Rattle.std.proofs.Common.{arith}
use Rattle.std.proofs.lemmas.Result.{err_from_is_err_and}
use Rattle.bw_care.proofs.PagesMoved.{moved_none}
use Rattle.bw_care.proofs.CleaningSteps.{moved_end, none_behind, rest_pages, moved_more, stopped_at, rest_inside}
use Rattle.bw_care.proofs.ReadAhead.{spots_rest}
use Rattle.bw_care.proofs.moves.move_all.Goals as goal

pub loop-at-init : goal.loop-at-init
loop-at-init g c = record {
  inside = omega arith;
  few = omega arith;
  sound = c.requires.sound;
  works = c.requires.works;
  moved = λ last behind. moved_none last _ _ behind c.requires.works;
}

pub move_some-requires-clause-ahead : goal.move_some-requires-clause-ahead
move_some-requires-clause-ahead g c =
    spots_rest 0 _ _ c.args.ahead.now.bytes.items c.args.ahead.now.spots.items c.args.pages.now c.loop-at.at _ _ c.loop-at.frames
    (c.loop-at.invariant.moved 0 (none_behind _ c.requires.sound)) c.requires.ahead

pub move_some-requires-clause-pages : goal.move_some-requires-clause-pages
move_some-requires-clause-pages g c = rest_pages 0 _ _ c.args.pages.now c.loop-at.at _ c.loop-at.frames c.requires.pages
    (c.loop-at.invariant.moved 0 (none_behind _ c.requires.sound))

pub returns-in_err-at-clause-refused : goal.returns-in_err-at-clause-refused
returns-in_err-at-clause-refused g c =
    let p = err_from_is_err_and c.from_residual.result c.from_residual.ensures.1 in
    λ last behind. rw (p.1, p.2) (stopped_at last _ _ _ c.args.pages.now c.loop-at.at c.loop-at.frames c.in_err-at.field-0.0
    (c.loop-at.invariant.moved last behind) c.in_err-at.ensures.refused c.in_err-at.ensures.reason)

pub returns-clause-moved : goal.returns-clause-moved
returns-clause-moved g c = λ last behind.
    moved_end last _ _ c.args.pages.now c.loop-at.at c.loop-at.frames (omega (arith, c.loop-at-test.false)) (c.loop-at.invariant.moved last behind)

pub loop-at-preserved : goal.loop-at-preserved
loop-at-preserved g c =
    let some = c.in_ok-at.ensures.some.0 in
    let inside = c.in_ok-at.ensures.some.1 in
    let kept = c.loop-at.invariant.inside in
    let few = c.loop-at.invariant.few in
    record {
      inside = rest_inside c.args.pages.now c.loop-at.at c.in_ok-at.field-0 inside kept;
      few = omega arith;
      sound = c.in_ok-at.ensures.sound;
      works = (c.in_ok-at.ensures.moved 0 (none_behind _ c.loop-at.invariant.sound)).works;
      moved = λ last behind. (
          let so_far = c.loop-at.invariant.moved last behind in
          moved_more last _ _ _ c.args.pages.now c.loop-at.at c.in_ok-at.field-0 c.loop-at.frames so_far (c.in_ok-at.ensures.moved last so_far.next));
    }
