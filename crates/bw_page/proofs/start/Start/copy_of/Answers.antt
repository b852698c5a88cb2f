use Rattle.std.proofs.Common.{ℕ, ◌≡◌, ◌≤◌, ◌∙◌, ap, sym, subst, List, length, arith}
use Rattle.bw_record.specs.declared.leaf.Leaf.{Leaf}
use Rattle.bw_page.specs.Leaves.{AreLeaves}
use Rattle.bw_page.proofs.start.Start.copy_of.Goals as goal

pub invariant_of-result : goal.invariant_of-result
invariant_of-result c =
    let items : c.in_ok-copy_seats.field-0.items ≡ c.args.leaves.now.leaves = c.in_ok-copy_seats.ensures.items ∙ c.seats.ensures.items in
    let long : length c.in_ok-copy_seats.field-0.items ≡ c.count.result = ap (λ (ls : List Leaf). length ls) items ∙ sym c.count.ensures.value in
    record {
      limit = subst (λ m. (4 ≤ m) × (m ≤ 32)) (sym c.limit.ensures) c.count.ensures.limit;
      count = omega (arith, long);
      lawful = subst (λ (m : ℕ). AreLeaves m c.in_ok-copy_seats.field-0.items) (sym c.limit.ensures)
          (subst (AreLeaves c.args.leaves.now.m) (sym items) c.count.ensures.lawful);
      here = c.in_ok-copy_seats.ensures.evicted;
    }
