use Rattle.std.proofs.Common.{◌≡◌, true, not}
use Rattle.bw_record.specs.Keys.{is_below}
use Rattle.bw_record.proofs.Order.{must_be}
use Rattle.bw_leaf.proofs.Trees.{all_kept}
use Rattle.bw_leaf.proofs.tree.ends_behind.Goals as goal

pub returns-in-Some-clause-before : goal.returns-in-Some-clause-before
returns-in-Some-clause-before c kept =
    let told : c.is_before.result ≡ is_below c.in-Some.key.now c.args.separator.now = rw c.as_slice.ensures.value at c.is_before.ensures in
    let below : is_below c.in-Some.key.now c.args.separator.now ≡ true = must_be _ (λ no. let over : not c.is_before.result ≡ true = cc in absurd (cc)) in
    all_kept c.args.separator.now c.in-Some.key.now c.args.tree.now.entries below c.in-Some.ensures.all_up_to
