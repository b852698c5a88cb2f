use Rattle.std.proofs.Common.{◌≡◌, ◌≤◌, ◌+◌, ◌-◌, length, vec_len}
use Rattle.std.specs.Vec.{vec_capacity}
use Rattle.bw_care.proofs.newest.blank_places.Given as goal

abbrev pub invariant-pages : goal.invariant-pages
invariant-pages l = record {
  count : length l.places.items ≡ l.counter;
  room : vec_len l.places + (l.pages - l.counter) ≤ vec_capacity l.places;
}
