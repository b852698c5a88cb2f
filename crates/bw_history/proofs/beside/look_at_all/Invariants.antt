use Rattle.std.proofs.Common.{◌≡◌, map, vec_len, take}
use Rattle.bw_ring.specs.Ends.{accepted, given}
use Rattle.bw_history.specs.Beside.{KeepsRings}
use Rattle.bw_history.proofs.beside.look_at_all.Given as goal

abbrev pub invariant-rings : goal.invariant-rings
invariant-rings l = record {
  kept : KeepsRings l.initial.lanes.items l.initial.feeds.items l.lanes.items l.feeds.items;
  len : vec_len l.lanes ≡ vec_len l.initial.lanes;
  whole : take l.at (map given l.lanes.items) ≡ take l.at (map accepted l.initial.feeds.items);
}
