use Rattle.std.proofs.Common.{sym, ap, ◌∙◌, ◌++◌, ◌∷◌, [], take, subst}
use Rattle.bw_keys.specs.Stretches.{wanted_of}
use Rattle.bw_keys.specs.Listed.{Writes}
use Rattle.bw_keys.proofs.Written.{one_after_the_other, wanted_more}
use Rattle.bw_keys.proofs.listing.Listing.up.Goals as goal

pub loop-pair-preserved : goal.loop-pair-preserved
loop-pair-preserved g c =
    let span = c.args.self.now.span.now in
    let style = c.args.self.now.order.style in
    let pairs = c.as_slice-pairs.result.now in
    let index = c.loop-pair.pair-index in
    subst (Writes style _ _ _ _)
    (sym (wanted_more span pairs index c.pair-item.result c.loop-pair-test.true
    ∙ ap (λ p. wanted_of span (take index pairs) ++ wanted_of span (p ∷ [])) (sym c.pair-item.is)))
    (one_after_the_other style _ _ _ _ _ _ _ _ c.loop-pair.invariant c.in_ok-due.ensures)
