use Rattle.std.proofs.Common.{ℕ, List, [], ◌∷◌, length, ap, arith, length-append}
use Rattle.bw_care.proofs.PassSoFar.{inside_map}
use Rattle.bw_care.proofs.SurveyFacts.{rooms_more, one_large}
use Rattle.bw_care.proofs.steps.rooms_of.Goals as goal

pub returns-in-None-clause-stops : goal.returns-in-None-clause-stops
returns-in-None-clause-stops g c =
    one_large _ c.loop-at.at (inside_map _ c.args.boxes.now c.loop-at.at (omega (arith, c.loop-at-test.true))) c.in-None.ensures.none

pub loop-at-preserved : goal.loop-at-preserved
loop-at-preserved g c = record {
  rooms = rooms_more _ c.loop-at.rooms.items _ c.in-Some.room c.loop-at.at (inside_map _ c.args.boxes.now c.loop-at.at (omega (arith, c.loop-at-test.true)))
      c.loop-at.invariant.count c.loop-at.invariant.rooms c.in-Some.ensures.some c.in_ok-push-in-Some.ensures.items;
  count = (let n = c.loop-at.invariant.count in let more = ap (λ (l : List ℕ). length l) c.in_ok-push-in-Some.ensures.items in
      omega (arith, more, length-append c.loop-at.rooms.items (c.in-Some.room ∷ [])));
}
