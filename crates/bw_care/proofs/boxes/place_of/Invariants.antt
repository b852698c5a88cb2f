use Rattle.std.proofs.Common.{◌≡◌, ◌+◌, map, drop}
use Rattle.bw_care.specs.Parting.{place_among}
use Rattle.bw_care.proofs.boxes.place_of.Given as goal

abbrev pub invariant-loop-at : goal.invariant-loop-at
invariant-loop-at g l = record {
  place : place_among l.number (map (λ n. n.number) l.live) ≡ l.at + place_among l.number (map (λ n. n.number) (drop l.at l.live));
}
