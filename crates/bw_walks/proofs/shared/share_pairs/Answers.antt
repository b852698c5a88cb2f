use Rattle.std.proofs.Common.{◌≡◌, ◌+◌, ◌-◌, ◌∙◌, ◌++◌, ap, arith, take, drop, length, Ok, Err, OnOk}
use Rattle.std.specs.Prelude.{min}
use Rattle.bw_leaf.specs.Above.{pairs_above, with_some}
use Rattle.bw_leaf.specs.Changed.{Pairs}
use Rattle.bw_leaf.proofs.Sought.{some_above}
use Rattle.bw_walks.proofs.shared.share_pairs.Goals as goal

pub returns : goal.returns
returns c =
    let at = c.first_from-from.ensures.at in
    let long = ap length c.as_slice-pairs.ensures in
    let is : c.min-count.result ≡ min (length c.args.leaf.now.pairs - c.first_from-from.result) (c.args.most - length c.args.found.now.items) =
    omega (arith, long, c.min-count.ensures, c.saturating_sub.ensures, c.len.ensures) in
    let same =
    (λ i. c.in_ok-reserve.ensures.items i
    ++ take (c.first_from-from.result + c.min-count.result - c.first_from-from.result) (drop c.first_from-from.result (c.as_slice-pairs.ensures i)))
    ∙ ap (λ (ps : Pairs). c.args.found.now.items ++ ps)
    (some_above c.args.key.now c.args.leaf.now.pairs c.first_from-from.result c.min-count.result (c.args.most - length c.args.found.now.items) at is) in
    elim c.push_shared.result as (λ r. OnOk r (c.push_shared.new.found.items ≡ c.reserve.new.self.items
    ++ take (c.first_from-from.result + c.min-count.result - c.first_from-from.result) (drop c.first_from-from.result c.as_slice-pairs.result.now))
    → OnOk r (c.push_shared.new.found.items ≡ with_some c.args.most c.args.found.now.items (pairs_above c.args.key.now c.args.leaf.now.pairs))) [
      | Ok done ↦ λ e. e ∙ same
      | Err fault ↦ λ none. none
    ] c.push_shared.ensures
