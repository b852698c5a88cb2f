use Rattle.std.proofs.Common.{arith}
use Rattle.bw_keys.proofs.Stretches.{counted_whole}
use Rattle.bw_keys.proofs.reading.count_stretch.Goals as goal

pub returns-clause-count : goal.returns-clause-count
returns-clause-count g c =
    let count = rw c.as_slice.ensures.value at c.in_ok-count_of.ensures.count in
    counted_whole c.args.span.now c.args.pages.now.leaves.leaves c.in_ok-numbers.numbers.items c.in_ok-count_of.field-0
    c.in_ok-numbers.ensures count (omega arith)
