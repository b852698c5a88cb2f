use Rattle.std.proofs.Common.{◌≡◌, ◌∙◌, ◌≤◌, length, drop, arith}
use Rattle.std.specs.Ordering.{nat_cmp}
use Rattle.bw_record.specs.Heads.{head}
use Rattle.bw_record.specs.Keys.{order}
use Rattle.bw_record.proofs.Order.{order_behind_head, order_by_heads}
use Rattle.bw_record.proofs.heads.compare.Goals as goal

pub returns-then-head-other : goal.returns-then-head-other
returns-then-head-other c =
    let differ : head c.heads.ours.now ≡ head c.heads.theirs.now → ⊥ = λ same. grind arith in
    let by_heads = order_by_heads c.heads.ours.now c.heads.theirs.now c.head_of-head.ensures.bytes c.head_of-other.ensures.bytes differ in
    let ends : c.cmp.result ≡ nat_cmp (head c.heads.ours.now) (head c.heads.theirs.now) = grind arith in
    ends ∙ by_heads ∙ c.heads.invariant

pub heads-preserved : goal.heads-preserved
heads-preserved c =
    let same : head c.heads.ours.now ≡ head c.heads.theirs.now = grind arith in
    let ours : 8 ≤ length c.heads.ours.now = omega (arith, c.heads-test.true) in
    let theirs : 8 ≤ length c.heads.theirs.now = omega (arith, c.if-theirs-ge8.true) in
    let behind = order_behind_head 8 c.heads.ours.now c.heads.theirs.now c.head_of-head.ensures.bytes c.head_of-other.ensures.bytes ours theirs same in
    let a_rest : order c.behind_head-ours.result.now c.behind_head-theirs.result.now ≡ order (drop 8 c.heads.ours.now) (drop 8 c.heads.theirs.now) = grind arith in
    a_rest ∙ behind ∙ c.heads.invariant
