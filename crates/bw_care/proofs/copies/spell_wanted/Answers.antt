use Rattle.std.proofs.Common.{◌∙◌, get_or, refl}
use Rattle.bw_care.specs.Views.{seen}
use Rattle.bw_care.proofs.CleaningSteps.{each_of, read_lawful}
use Rattle.bw_care.proofs.SpelledAhead.{says_read, one_spelled}
use Rattle.bw_care.proofs.copies.spell_wanted.Goals.{then-is_wanted+in-Some, else-is_wanted}
use Rattle.bw_care.proofs.copies.spell_wanted.Goals as goal

pub spell-requires : goal.spell-requires
spell-requires g c =
    let log = seen c.args.log.now (λ b. (goal.Segment-dyn g b).holding b.1) in
    let page = get_or c.args.pages.now c.loop-at.at 0 in
    let is = each_of _ c.args.pages.now c.loop-at.at 0 c.requires.pages c.loop-at-test.true in
    λ leaf held. read_lawful log page leaf c.requires.sound
    (says_read log c.loop-at.lines c.args.last page c.requires.sound c.requires.works c.requires.last c.loop-at.invariant.says is
    (c.is_wanted.ensures is.0 c.if-is_wanted.true) leaf held)

pub loop-at-preserved : goal.loop-at-preserved
loop-at-preserved g c =
    let log = seen c.args.log.now (λ b. (goal.Segment-dyn g b).holding b.1) in
    let page = get_or c.args.pages.now c.loop-at.at 0 in
    let is = each_of _ c.args.pages.now c.loop-at.at 0 c.requires.pages c.loop-at-test.true in
    elim c.if-is_wanted.branch [
      | then-is_wanted+in-Some w ↦ record {
        many = c.if-is_wanted.auto.spots ∙ c.loop-at.invariant.many;
        says = rw w.lines-is (λ p leaf held. c.loop-at.invariant.says p leaf (w.spell.ensures.part p leaf held));
        spots = rw (w.bytes-is, w.spots-is) (one_spelled log c.loop-at.lines c.loop-at.bytes.items w.spell.new.bytes.items c.loop-at.spots c.args.pages.now
            c.loop-at.at w.in-Some.spot w.in-Some.ensures.some
            (says_read log c.loop-at.lines c.args.last page c.requires.sound c.requires.works c.requires.last c.loop-at.invariant.says is
            (w.if-is_wanted.ensures is.0 refl)) c.loop-at.invariant.spots);
      }
      | else-is_wanted w ↦ record {
        many = c.if-is_wanted.auto.spots ∙ c.loop-at.invariant.many;
        says = rw w.lines-is c.loop-at.invariant.says;
        spots = rw (w.bytes-is, w.spots-is) c.loop-at.invariant.spots;
      }
    ]
