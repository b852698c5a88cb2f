use Rattle.std.proofs.Common.{◌≡◌, ◌∙◌, ap, map, ◌++◌, ◌∷◌}
use Rattle.std.proofs.lemmas.List.{map-append}
use Rattle.bw_file.specs.FileHolding.{owes}
use Rattle.bw_file.proofs.Asking.{on_err}
use Rattle.bw_file.proofs.Cut.{cut_among}
use Rattle.bw_file.proofs.unsettled.settle_all.Goals as goal

pub returns-in_err-settle-clause-cut : goal.returns-in_err-settle-clause-cut
returns-in_err-settle-clause-cut g c =
    let its = owes {F = g.row.F.Denot} in
    let rest = c.next.new.self.rest.items in
    let left : c.loop-one.one-iterator.rest.items ≡ c.in-Some.one ∷ rest = c.in-Some.ensures.steps.0 in
    let whole : map its c.args.waiting.items ≡ map its c.loop-one.yielded ++ its c.in-Some.one ∷ map its rest =
    ap (λ l. map its l) (c.loop-one.invariant.1 ∙ ap (λ l. c.loop-one.yielded ++ l) left) ∙ map-append its c.loop-one.yielded (c.in-Some.one ∷ rest) in
    on_err c.from_residual.result
    (cut_among (map its c.args.waiting.items) (map its c.loop-one.yielded) (map its rest) (its c.in-Some.one) c.args.all.now.value c.loop-one.all.value c.settle.new.all.value
    whole c.loop-one.invariant.0 c.in_err-settle.ensures.cut)
