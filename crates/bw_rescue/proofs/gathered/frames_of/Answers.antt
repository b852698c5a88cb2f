use Rattle.std.proofs.Common.{◌≡◌, ◌∙◌, ◌+◌, ◌<◌, ◌∷◌, ◌++◌, [], List, Option, refl, sym, ap, take, length, arith}
use Rattle.std.proofs.lemmas.List.{take_more, length-take-le}
use Rattle.bw_rescue.specs.declared.held.Held.{Held}
use Rattle.bw_rescue.specs.declared.gathered.At.{At}
use Rattle.bw_rescue.specs.Gathered.{first_of, or_at, place_of}
use Rattle.bw_rescue.proofs.AllGathered.{place_more}
use Rattle.bw_rescue.proofs.gathered.frames_of.Goals as goal

pub loop-segment-preserved : goal.loop-segment-preserved
loop-segment-preserved c = record {
  long = refl;
  noted = λ number.
      let held = c.args.held.now in
      let at = c.loop-segment.segment in
      let its = c.index-held-segment.result in
      let below : at < length held = (let test = c.loop-segment-test.true in omega (arith, test)) in
      let long : length (take at held) ≡ at = length-take-le at held (omega (arith, below)) in
      let more : take at held ++ its ∷ [] ≡ take (at + 1) held = ap (λ (h : Held). take at held ++ h ∷ []) c.index-held-segment.is ∙ sym (take_more held at its below) in
      c.in_ok-add_spots.ensures number ∙ ap (λ (o : Option At). or_at o at (first_of number its.spots.items)) (c.loop-segment.invariant.noted number)
      ∙ place_more number 0 at (take at held) its (omega (arith, long))
      ∙ ap (λ (l : List Held). place_of number 0 l) more;
}
