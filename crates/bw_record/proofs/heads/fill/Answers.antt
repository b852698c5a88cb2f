use Rattle.std.proofs.Common.{◌≡◌, ◌+◌, ◌∙◌, ℕ, suc, length, take, drop, subst, sym, ap, arith}
use Rattle.bw_record.specs.Heads.{Share, head}
use Rattle.bw_record.proofs.HeadRows.{rest_is, begins, share_more, heads_more}
use Rattle.bw_record.proofs.heads.fill.Goals as goal

pub loop-pair-preserved : goal.loop-pair-preserved
loop-pair-preserved c =
    let shared = c.args.shared.now in
    let pairs = c.args.pairs.now in
    let i = c.loop-pair.pair-index in
    let pair = c.pair-item.result in
    let next : suc i ≡ i + 1 = omega arith in
    let begun = begins shared _ c.in-Some.rest.now c.in-Some.ensures c.head_of.ensures.bytes in
    let one = rw c.key.ensures.value at begun in
    let behind = rest_is shared _ c.in-Some.rest.now c.in-Some.ensures in
    let rest = rw c.key.ensures.value at behind in
    let last : c.head_of.result ≡ head (drop (length shared) pair.0) = c.head_of.ensures.value ∙ ap head (sym rest) in
    let more = heads_more (length shared) pairs i pair c.loop-pair-test.true c.pair-item.is in
    let before = c.loop-pair.invariant.heads_are in
    record {
      share = subst (λ (n : ℕ). Share shared (take n pairs)) next
          (share_more shared pairs i pair c.loop-pair-test.true c.pair-item.is c.loop-pair.invariant.share one);
      heads_are = grind arith;
    }
