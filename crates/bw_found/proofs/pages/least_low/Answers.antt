use Rattle.std.proofs.Common.{ℕ, refl, Option, Some, IsSome, [], sym, subst}
use Rattle.std.specs.BTreeMap as tree
use Rattle.bw_record.specs.Keys.{IsKey}
use Rattle.bw_leaf.specs.Changed.{Bytes, order}
use Rattle.bw_lines.specs.Paging.{IsNext}
use Rattle.bw_lines.proofs.LowsTold.{least_is}
use Rattle.bw_found.proofs.pages.least_low.Goals as goal

pub returns-in-Some : goal.returns-in-Some
returns-in-Some c =
    let next = c.copy.ensures in
    let value = c.in-Some.ensures.value in
    subst (λ (k : Bytes). IsNext [] (tree.get order c.args.lows.now) (Some k)) (sym next)
    (least_is c.in-Some.next.now (tree.get order c.args.lows.now) (subst IsKey next (search)) (subst (λ (o : Option ℕ). IsSome o) (sym value) refl)
    c.in-Some.ensures.least)
