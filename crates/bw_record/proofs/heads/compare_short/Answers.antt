use Rattle.std.proofs.Common.{◌≡◌, ◌∙◌, length, arith}
use Rattle.std.specs.Ordering.{nat_cmp}
use Rattle.bw_record.specs.Heads.{head}
use Rattle.bw_record.proofs.Order.{order_by_heads, order_by_length}
use Rattle.bw_record.proofs.heads.compare_short.Goals as goal

pub returns-then-head-other : goal.returns-then-head-other
returns-then-head-other c =
    let differ : head c.args.a.now ≡ head c.args.b.now → ⊥ = λ same. grind arith in
    let by_heads = order_by_heads c.args.a.now c.args.b.now c.head_of-head.ensures.bytes c.head_of-other.ensures.bytes differ in
    let ends : c.cmp.result ≡ nat_cmp (head c.args.a.now) (head c.args.b.now) = grind arith in
    ends ∙ by_heads

pub returns : goal.returns
returns c =
    let same : head c.args.a.now ≡ head c.args.b.now = grind arith in
    let by_length = order_by_length 8 c.args.a.now c.args.b.now c.head_of-head.ensures.bytes c.head_of-other.ensures.bytes c.requires same in
    let ends : c.cmp-2.result ≡ nat_cmp (length c.args.a.now) (length c.args.b.now) = grind arith in
    ends ∙ by_length
