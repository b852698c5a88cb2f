use Rattle.std.proofs.Common.{◌≤◌, ◌-◌, ap, length, take, drop, arith}
use Rattle.std.proofs.lemmas.List.{length-map}
use Rattle.bw_log.proofs.BlocksRead.{spotted_own, spot_inside, lent_at, rest_all}
use Rattle.bw_log.proofs.log.Log.lent_block.Goals as goal

pub lend_of-requires : goal.lend_of-requires
lend_of-requires g c =
    let inside = spot_inside (spotted_own c.requires.sound c.requires.inside c.requires.stands) in
    let there = simp length-map at inside in
    omega (arith, ap length c.deref.ensures.value, there)

pub slice_bounds-result-count : goal.slice_bounds-result-count
slice_bounds-result-count g c =
    (lent_at c.index.result.now (c.in_ok-start.start, c.in_ok-start.field-0-1) c.in_ok-bytes.bytes.now c.requires.sound c.requires.inside c.requires.stands
    c.index.ensures c.requires.there.1 c.in_ok-start.ensures (rw c.deref.ensures.value at c.in_ok-bytes.ensures)).0

pub slice_bounds-result-start : goal.slice_bounds-result-start
slice_bounds-result-start g c =
    (lent_at c.index.result.now (c.in_ok-start.start, c.in_ok-start.field-0-1) c.in_ok-bytes.bytes.now c.requires.sound c.requires.inside c.requires.stands
    c.index.ensures c.requires.there.1 c.in_ok-start.ensures (rw c.deref.ensures.value at c.in_ok-bytes.ensures)).0

pub slice_bounds-result-count-2 : goal.slice_bounds-result-count-2
slice_bounds-result-count-2 g c =
    rw (rest_all c.args.spot.from c.in_ok-bytes.bytes.now)
    (lent_at c.index.result.now (c.in_ok-start.start, c.in_ok-start.field-0-1) c.in_ok-bytes.bytes.now c.requires.sound c.requires.inside c.requires.stands
    c.index.ensures c.requires.there.1 c.in_ok-start.ensures (rw c.deref.ensures.value at c.in_ok-bytes.ensures)).1

pub slice_bounds-result-start-2 : goal.slice_bounds-result-start-2
slice_bounds-result-start-2 g c =
    let bytes = c.in_ok-bytes.bytes.now in
    let from = c.args.spot.from in
    let inside : c.in_ok-start.start ≤ length (take (length bytes - from) (drop from bytes)) =
    rw (rest_all from bytes)
    (lent_at c.index.result.now (c.in_ok-start.start, c.in_ok-start.field-0-1) bytes c.requires.sound c.requires.inside c.requires.stands
    c.index.ensures c.requires.there.1 c.in_ok-start.ensures (rw c.deref.ensures.value at c.in_ok-bytes.ensures)).1 in
    inside

pub returns : goal.returns
returns g c block x =
    rw (
      rest_all c.args.spot.from c.in_ok-bytes.bytes.now,
      rest_all c.in_ok-start.start (drop c.args.spot.from c.in_ok-bytes.bytes.now),
    )
    (lent_at c.index.result.now (c.in_ok-start.start, c.in_ok-start.field-0-1) c.in_ok-bytes.bytes.now c.requires.sound c.requires.inside c.requires.stands
    c.index.ensures x c.in_ok-start.ensures (rw c.deref.ensures.value at c.in_ok-bytes.ensures)).2
