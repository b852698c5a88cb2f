use Rattle.std.proofs.Common.{◌≡◌, ◌+◌, ◌-◌, ◌∙◌, ◌++◌, ap, arith, take, drop, length}
use Rattle.std.specs.Prelude.{min}
use Rattle.bw_leaf.specs.Seek.{seek_of, end_of}
use Rattle.bw_leaf.proofs.Sought.{some_above}
use Rattle.bw_leaf.proofs.changes.add_pairs.Goals as goal

pub returns-clause-ok : goal.returns-clause-ok
returns-clause-ok c =
    let at = c.end_of-from.ensures ∙ ap end_of c.find_key.ensures.found ∙ ap (λ k. end_of (seek_of k c.args.leaf.now.pairs)) c.as_slice.ensures.value in
    let long = ap length c.as_slice-pairs.ensures in
    let is : c.min-count.result ≡ min (length c.args.leaf.now.pairs - c.end_of-from.result) (c.args.most - length c.args.found.now.items) =
    omega (arith, long, c.min-count.ensures, c.saturating_sub.ensures, c.len.ensures) in
    c.push_pairs.ensures
    ∙ (λ i. c.in_ok-reserve.ensures.items i
    ++ take (c.end_of-from.result + c.min-count.result - c.end_of-from.result) (drop c.end_of-from.result (c.as_slice-pairs.ensures i)))
    ∙ ap (λ ps. c.args.found.now.items ++ ps)
    (some_above c.args.key.now c.args.leaf.now.pairs c.end_of-from.result c.min-count.result (c.args.most - length c.args.found.now.items) at is)
