use Rattle.std.proofs.Common.{◌≡◌, map, drop, arith}
use Rattle.std.proofs.lemmas.Bool.{lt-ltb}
use Rattle.bw_care.specs.Parting.{place_among}
use Rattle.bw_care.proofs.PartedByKind.{among_here}
use Rattle.bw_care.proofs.boxes.place_of.Goals as goal

pub returns-then-number-one-clause-place : goal.returns-then-number-one-clause-place
returns-then-number-one-clause-place g c =
    let here : place_among c.args.number (map (λ n. n.number) (drop c.loop-at.at c.args.live.now)) ≡ 0 =
    among_here _ c.args.number c.args.live.now c.loop-at.at c.index-live-at.result c.loop-at-test.true c.index-live-at.is
    (lt-ltb c.args.number c.index-live-at.result.number c.if-number-one.true) in
    let told : c.loop-at.at ≡ place_among c.args.number (map (λ n. n.number) c.args.live.now) = omega (arith, c.loop-at.invariant.place, here) in
    told
