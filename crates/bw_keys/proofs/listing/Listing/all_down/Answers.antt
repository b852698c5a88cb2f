use Rattle.std.proofs.Common.{◌-◌, length, take, get_or, sym, ap, ◌∙◌, ◌++◌, ◌∷◌, [], subst, refl, reverse, append-nil, append_assoc}
use Rattle.bw_page.specs.Leaves.{leaf_at}
use Rattle.bw_keys.specs.Listed.{Writes}
use Rattle.bw_keys.specs.Stretches.{wanted_on}
use Rattle.bw_keys.proofs.Written.{moved, no_pair, one_after_the_other, split_last_at, stretch_back}
use Rattle.bw_keys.proofs.listing.Listing.all_down.Goals as goal

pub pages-init : goal.pages-init
pages-init g c = record {
  recovered = c.requires;
  leaves = refl;
  written = ([], sym (append-nil c.args.numbers.now), no_pair c.args.self.now.order.style c.args.due _ [] refl);
}

pub pages-preserved : goal.pages-preserved
pages-preserved g c =
    let span = c.args.self.now.span.now in
    let style = c.args.self.now.order.style in
    let leaves = c.args.pages.now.leaves.leaves in
    let rest = c.pages.rest.now in
    let gone = c.pages.invariant.written.0 in
    let number = get_or rest (length rest - 1) 0 in
    let page = moved style _ _ _ _ _ _ c.in_ok-due.ensures.written (ap (λ ls. reverse (wanted_on span (leaf_at number ls))) c.pages.invariant.leaves) in
    record {
      recovered = c.in_ok-due.ensures.recovered;
      leaves = c.in_ok-due.ensures.same ∙ c.pages.invariant.leaves;
      written = (
        number ∷ gone,
        c.pages.invariant.written.1 ∙ ap (λ l. l ++ gone) (split_last_at rest 0 c.in-len1-up.len_at_least)
            ∙ append_assoc (take (length rest - 1) rest) (number ∷ []) gone,
        subst (Writes style _ _ _ _) (sym (stretch_back span leaves number gone))
            (one_after_the_other style _ _ _ _ _ _ _ _ c.pages.invariant.written.2 page),
      );
    }
