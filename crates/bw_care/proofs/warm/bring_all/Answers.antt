use Rattle.std.proofs.Common.{ap, ◌∙◌, arith}
use Rattle.bw_page.specs.Shown.{Shown, is_evicted_page}
use Rattle.bw_care.proofs.Warmed.{none_away}
use Rattle.bw_care.proofs.warm.bring_all.Goals as goal

pub returns-in_err-bring-clause-numbered : goal.returns-in_err-bring-clause-numbered
returns-in_err-bring-clause-numbered g c = ap (λ (f : Shown). is_evicted_page 0 f) c.in_err-bring.ensures.same ∙ c.loop-index.invariant.numbered

pub returns-clause-here : goal.returns-clause-here
returns-clause-here g c =
    none_away c.loop-index.leaves c.args.leaves.now c.loop-index.index c.loop-index.invariant.behind
    (λ p over. c.count-index-end.ensures.beyond p (let end = c.loop-index-test.false in let count = c.count-index-end.ensures.value in omega (arith, over, end, count)))
