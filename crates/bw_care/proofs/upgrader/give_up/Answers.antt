use Rattle.std.proofs.Common.{◌≡◌, arith}
use Rattle.bw_care.proofs.UpgradeSteps.{up_at, going_none, going_on, in_turn_none, in_turn_on, two_live, still_works, no_base}
use Rattle.bw_care.proofs.upgrader.give_up.Goals as goal

pub loop-given-init : goal.loop-given-init
loop-given-init g c = record { within = omega arith; sound = c.requires.sound; going = going_none _; in_turn = in_turn_none _ c.requires.sound }

pub give_up_oldest-requires-clause-two : goal.give_up_oldest-requires-clause-two
give_up_oldest-requires-clause-two g c = two_live _ c.args.count _ _ c.loop-given-test.true c.requires.more c.loop-given.invariant.going

pub give_up_oldest-requires-clause-works : goal.give_up_oldest-requires-clause-works
give_up_oldest-requires-clause-works g c = still_works _ _ _ c.loop-given.invariant.going c.requires.works

pub give_up_oldest-requires-clause-bases : goal.give_up_oldest-requires-clause-bases
give_up_oldest-requires-clause-bases g c =
    no_base _ c.args.count _ _ c.requires.sound c.loop-given.invariant.sound c.loop-given-test.true c.loop-given.invariant.going c.requires.bases

pub loop-given-preserved : goal.loop-given-preserved
loop-given-preserved g c =
    let going = going_on _ _ _ _ (let less = c.loop-given-test.true in let more = c.requires.more in omega (arith, less, more)) c.loop-given.invariant.going
    c.give_up_oldest.ensures.given_up c.give_up_oldest.ensures.counted c.give_up_oldest.ensures.stands in
    record {
      within = (let less = c.loop-given-test.true in omega arith);
      sound = c.give_up_oldest.ensures.sound;
      going = going;
      in_turn = in_turn_on _ _ _ c.loop-given.invariant.in_turn going c.give_up_oldest.ensures.sound;
    }

pub returns-clause-given_up : goal.returns-clause-given_up
returns-clause-given_up g c =
    let within = c.loop-given.invariant.within in
    let same : c.loop-given.given ≡ c.args.count = omega (arith, within, c.loop-given-test.false) in
    up_at _ c.args.count _ _ same c.loop-given.invariant.going

pub returns-clause-stands : goal.returns-clause-stands
returns-clause-stands g c = λ leaves stand. c.loop-given.invariant.going.stands leaves stand

pub returns-clause-in_turn : goal.returns-clause-in_turn
returns-clause-in_turn g c = (let within = c.loop-given.invariant.within in λ j low. c.loop-given.invariant.in_turn j (omega (arith, within, low, c.loop-given-test.false)))
