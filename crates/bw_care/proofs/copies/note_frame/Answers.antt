use Rattle.std.proofs.Common.{◌+◌, ◌∙◌, refl, arith}
use Rattle.bw_care.proofs.FrameNoted.{noting_starts, step_of, steps_on, page_told, noted_on, spot_tells}
use Rattle.bw_care.proofs.ReadAhead.{note_tells}
use Rattle.bw_care.proofs.copies.note_frame.Goals.{then-is_last_base, else-is_last_base}
use Rattle.bw_care.proofs.copies.note_frame.Goals as goal

pub loop-at-init : goal.loop-at-init
loop-at-init g c = record {
  many = c.requires.many;
  spots = c.requires.spots;
  walk = noting_starts _ c.args.bytes.now c.args.line.now (c.args.line.now.at + c.args.line.now.len) (c.args.line.now.at + 20) c.requires.line refl refl;
}

pub overflow_add-at-in-loop-at : goal.overflow_add-at-in-loop-at
overflow_add-at-in-loop-at g c =
    let s = step_of c.loop-at.invariant.walk c.in-Some.outline c.requires.sound c.loop-at-test.true c.in-Some.ensures in
    let on = steps_on s in
    let within = on.within in
    let long = on.long in
    omega arith

pub loop-at-smaller : goal.loop-at-smaller
loop-at-smaller g c =
    let s = step_of c.loop-at.invariant.walk c.in-Some.outline c.requires.sound c.loop-at-test.true c.in-Some.ensures in
    let on = steps_on s in
    omega (arith, on.some, on.within)

pub loop-at-preserved : goal.loop-at-preserved
loop-at-preserved g c =
    let s = step_of c.loop-at.invariant.walk c.in-Some.outline c.requires.sound c.loop-at-test.true c.in-Some.ensures in
    elim c.if-is_last_base.branch [
      | then-is_last_base w ↦ (let told = (w.if-is_last_base.ensures (page_told s)).0 refl in
          record {
            many = c.if-is_last_base.auto.spots ∙ c.loop-at.invariant.many;
            spots = rw w.spots-is (note_tells _ c.args.bytes.now c.loop-at.spots w.note.new.spots c.args.pages.now c.in-Some.outline.page _ w.note.ensures
                c.loop-at.invariant.spots
                (spot_tells s (record { frame = c.args.line.now.number; index = c.loop-at.index }) c.requires.sound refl told.0 told.1));
            walk = noted_on s;
          })
      | else-is_last_base w ↦ record {
        many = c.if-is_last_base.auto.spots ∙ c.loop-at.invariant.many;
        spots = rw w.spots-is c.loop-at.invariant.spots;
        walk = noted_on s;
      }
    ]
