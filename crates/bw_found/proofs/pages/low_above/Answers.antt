use Rattle.std.proofs.Common.{◌≡◌, ℕ, List, Some, false, slice_get, sym, subst, IsSome}
use Rattle.std.specs.Option.{IfSome}
use Rattle.std.specs.BTreeMap as tree
use Rattle.std.specs.BTreeMap.Range.{IsEntryInRange, IsLeBy}
use Rattle.std.specs.declared.ops.Bound.TheVariants.{Excluded, Unbounded}
use Rattle.std.specs.Ordering.{is_gt}
use Rattle.std.specs.declared.cmp.Ordering.TheVariants.{Less}
use Rattle.bw_record.specs.Keys.{IsKey}
use Rattle.bw_leaf.specs.Changed.{Bytes, order}
use Rattle.bw_lines.specs.Paging.{IsNext}
use Rattle.bw_lines.proofs.LowsTold.{next_is}
use Rattle.bw_found.proofs.pages.low_above.Goals as goal

pub returns-in-Some : goal.returns-in-Some
returns-in-Some c =
    let range = c.range.ensures.in_range tt in
    let steps = c.in-Some.ensures.steps in
    let low = c.copy.ensures in
    let next = c.copy-in-Some.ensures in
    let here = subst (λ (r : List (Bytes × ℕ)). IfSome (slice_get r 0)
    (IsEntryInRange order (Excluded c.copy.result) Unbounded c.args.lows.now)) steps range.1 in
    let least : (q : Bytes) → order c.copy.result q ≡ Less → IsSome (tree.get order c.args.lows.now q) → is_gt (order c.in-Some.next.now q) ≡ false =
    λ q over held. subst (λ (r : List (Bytes × ℕ)). IfSome (slice_get r 0) (λ e. IsLeBy order e.0 q)) steps (range.2 q (over, tt) held) in
    subst (λ (k : Bytes). IsNext k (tree.get order c.args.lows.now) (Some c.copy-in-Some.result)) low
    (subst (λ (k : Bytes). IsNext c.copy.result (tree.get order c.args.lows.now) (Some k)) (sym next)
    (next_is c.copy.result c.in-Some.next.now (tree.get order c.args.lows.now) (subst IsKey next (search)) (cc (here.1)) here.0.0 least))
