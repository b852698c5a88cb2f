use Rattle.std.proofs.Common.{inl, sym, refl}
use Rattle.bw_care.specs.Views.{seen}
use Rattle.bw_care.proofs.CleaningSteps.{none_behind}
use Rattle.bw_care.proofs.Rewritten.{failed_none, refused_by, stands_by}
use Rattle.bw_care.proofs.rewriter.rewrite.Goals as goal

pub returns-then-is_failed-clause-refused : goal.returns-then-is_failed-clause-refused
returns-then-is_failed-clause-refused g c = inl (refl, refl, sym c.if-is_failed.ensures)

pub returns : goal.returns
returns g c =
    let log = seen c.args.log.now (λ b. (goal.Segment-dyn g b).holding b.1) in
    let works = sym c.if-is_failed.ensures in
    let moved = c.move_all.ensures.moved 0 (none_behind log c.requires.sound) in
    let refused = c.move_all.ensures.refused 0 (none_behind log c.requires.sound) in
    record {
      sound = c.move_all.ensures.sound;
      failed = failed_none log _ _ c.move_all.result works refused;
      rewritten = moved;
      refused = refused_by log _ _ c.move_all.result works refused;
      stands = λ leaves stand. stands_by log _ _ c.move_all.result leaves moved refused stand;
    }
