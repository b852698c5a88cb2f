use Rattle.std.proofs.Common.{get_or, refl, sym, ap, ◌∙◌, subst}
use Rattle.bw_page.specs.Leaves.{leaf_at}
use Rattle.bw_keys.specs.Listed.{Writes}
use Rattle.bw_keys.specs.Stretches.{wanted_on}
use Rattle.bw_keys.proofs.Written.{moved, no_pair, one_after_the_other, stretch_more}
use Rattle.bw_keys.proofs.listing.Listing.all_up.Goals as goal

pub pages-init : goal.pages-init
pages-init g c = record {
  recovered = c.requires;
  leaves = refl;
  written = no_pair c.args.self.now.order.style c.args.due _ _ refl;
}

pub pages-preserved : goal.pages-preserved
pages-preserved g c =
    let span = c.args.self.now.span.now in
    let style = c.args.self.now.order.style in
    let leaves = c.args.pages.now.leaves.leaves in
    let numbers = c.args.numbers.now in
    let number = get_or numbers c.pages.index 0 in
    let page = moved style _ _ _ _ _ _ c.in_ok-due.ensures.written (ap (λ ls. wanted_on span (leaf_at number ls)) c.pages.invariant.leaves) in
    record {
      recovered = c.in_ok-due.ensures.recovered;
      leaves = c.in_ok-due.ensures.same ∙ c.pages.invariant.leaves;
      written = subst (Writes style _ _ _ _) (sym (stretch_more span leaves numbers c.pages.index 0 c.pages-test.true))
          (one_after_the_other style _ _ _ _ _ _ _ _ c.pages.invariant.written page);
    }
