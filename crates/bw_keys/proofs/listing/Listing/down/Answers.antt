use Rattle.std.proofs.Common.{◌-◌, length, take, sym, ap, ◌∙◌, ◌++◌, ◌∷◌, [], subst, refl, append-nil, append_assoc}
use Rattle.bw_keys.specs.Listed.{Writes}
use Rattle.bw_keys.proofs.Written.{no_pair, one_after_the_other, split_last, wanted_back}
use Rattle.bw_keys.proofs.listing.Listing.down.Goals as goal

pub pairs-init : goal.pairs-init
pairs-init g c = ([], sym (append-nil c.as_slice-rest.result.now), no_pair c.args.self.now.order.style c.args.due _ [] refl)

pub pairs-preserved : goal.pairs-preserved
pairs-preserved g c =
    let span = c.args.self.now.span.now in
    let style = c.args.self.now.order.style in
    let rest = c.pairs.rest.now in
    let gone = c.pairs.invariant.0 in
    let pair = c.pair-item.result in (
      pair ∷ gone,
      c.pairs.invariant.1 ∙ ap (λ l. l ++ gone) (split_last rest pair c.in-len1-up.len_at_least c.pair-item.is)
          ∙ append_assoc (take (length rest - 1) rest) (pair ∷ []) gone,
      subst (Writes style _ _ _ _) (sym (wanted_back span pair gone))
          (one_after_the_other style _ _ _ _ _ _ _ _ c.pairs.invariant.2 c.in_ok-due.ensures),
    )
