use Rattle.std.proofs.Common.{◌≡◌, ◌+◌, map, drop}
use Rattle.bw_care.specs.Parting.{place_among}
use Rattle.bw_care.proofs.order.place_in.Given as goal

abbrev pub invariant-loop-at : goal.invariant-loop-at
invariant-loop-at l = record {
  place : place_among l.number (map (λ n. n.header.number) l.live) ≡ l.at + place_among l.number (map (λ n. n.header.number) (drop l.at l.live));
}
