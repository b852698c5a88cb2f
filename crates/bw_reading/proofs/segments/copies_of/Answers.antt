use Rattle.std.proofs.Common.{◌≡◌, ◌+◌, ◌*◌, ◌<◌, ◌≤◌, ◌++◌, ◌∙◌, List, length, map, take, drop, get_or, ap, refl, subst, arith}
use Rattle.std.proofs.lemmas.List.{map_push}
use Rattle.bw_device.specs.Holding.{Holding}
use Rattle.bw_device.specs.Memory.{memory_holding}
use Rattle.bw_reading.specs.Handed.{boxes_from, boxes_in, FitSums}
use Rattle.bw_reading.proofs.Handed.{taken, few, held, copied, all_copied, one_whole, all_whole}
use Rattle.bw_reading.proofs.segments.copies_of.Goals as goal

pub loop-i-preserved : goal.loop-i-preserved
loop-i-preserved c =
    let i = c.loop-i.i in
    let bytes = c.args.bytes.now in
    let sums = c.args.sums.now in
    let parts = c.args.parts.now in
    let at = c.loop-i.at in
    let sums_at = c.loop-i.sums_at in
    let len = get_or parts (2 * i) 0 in
    let sums_len = get_or parts (2 * i + 1) 0 in
    let its = c.in_ok-its.ensures {u = tt} in
    let those = c.in_ok-piece.ensures {u = tt} in
    let copy = c.in_ok-copy.ensures {u = tt} in
    let more = c.in_ok-push.ensures {u = tt} in
    let there : 2 * i + 1 < length parts = omega arith in
    let goes : c.saturating_add-at.result ≡ at + len = omega (arith, its.small) in
    let sums_goes : c.saturating_add-sums_at.result ≡ sums_at + sums_len = omega (arith, those.small) in
    let lease = taken c.loop-i.desk c.copy_of.new.desk (memory_holding c.in_ok-copy.copy).lease i c.min-count.result c.loop-i-test.true
    c.loop-i.invariant.leases copy.lease copy.taken in
    let is = held (memory_holding c.in_ok-copy.copy) c.in_ok-its.its.now bytes i at len its.within its.value lease.0 copy.made in
    let fits : FitSums (take len (drop at bytes)) (take sums_len (drop sums_at sums)) =
    subst (λ (bs : List _). FitSums bs (take sums_len (drop sums_at sums))) its.value
    (subst (λ (ss : List _). FitSums c.in_ok-its.its.now ss) those.value copy.fits) in
    record {
      boxes = ap (λ (hs : List Holding). hs ++ boxes_from (i + 1) (drop c.saturating_add-at.result bytes) (drop (2 * (i + 1)) parts))
          (ap (map memory_holding) more.items ∙ map_push memory_holding c.loop-i.copies.items c.in_ok-copy.copy)
          ∙ copied (map memory_holding c.loop-i.copies.items) (boxes_in bytes parts) (memory_holding c.in_ok-copy.copy) bytes parts i at
          c.saturating_add-at.result len there refl goes is c.loop-i.invariant.boxes;
      leases = lease.1;
      whole = one_whole bytes sums parts i at c.saturating_add-at.result len sums_at c.saturating_add-sums_at.result sums_len there refl refl goes
          sums_goes its.within those.within fits c.loop-i.invariant.whole;
    }

pub returns-clause-copies : goal.returns-clause-copies
returns-clause-copies c =
    let count : c.min-count.result ≤ 4096 = few c.min-count.result 4096 (λ bad. let no = (c.in_ok-desk.ensures {u = tt}).bad_config.1 bad in cc) in
    let done : length c.args.parts.now ≤ 2 * c.loop-i.i + 1 = omega arith in
    all_copied (map memory_holding c.loop-i.copies.items) (boxes_in c.args.bytes.now c.args.parts.now) c.args.bytes.now c.args.parts.now c.loop-i.i
    c.loop-i.at done c.loop-i.invariant.boxes

pub returns-clause-whole : goal.returns-clause-whole
returns-clause-whole c =
    let count : c.min-count.result ≤ 4096 = few c.min-count.result 4096 (λ bad. let no = (c.in_ok-desk.ensures {u = tt}).bad_config.1 bad in cc) in
    let done : length c.args.parts.now ≤ 2 * c.loop-i.i + 1 = omega arith in
    all_whole c.args.bytes.now c.args.sums.now c.args.parts.now c.loop-i.i c.loop-i.at c.loop-i.sums_at done c.loop-i.invariant.whole
