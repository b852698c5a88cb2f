use Rattle.std.proofs.Common.{arith}
use Rattle.bw_leaf.proofs.Hollowed.{one_longer}
use Rattle.bw_leaf.proofs.hollow.items_length.Goals as goal

pub loop-item-preserved : goal.loop-item-preserved
loop-item-preserved c =
    let more = one_longer c.args._keys.now c.args.items.now c.loop-item.item-index (record { at = 0; len = 0; size = 0 }) c.requires.there c.loop-item-test.true in
    record {
      value = omega (arith, c.loop-item.invariant.value, more, c.item_length-total.ensures.value);
      small = omega (arith, c.loop-item.invariant.small, c.item_length-total.ensures.small);
    }
