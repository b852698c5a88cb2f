use Rattle.std.proofs.Common.{◌+◌, length, ap, ◌∙◌, arith}
use Rattle.bw_log.specs.Contents.{counted}
use Rattle.bw_log.specs.Places.{place_of}
use Rattle.bw_care.specs.Views.{seen}
use Rattle.bw_care.proofs.EachPlace.{each_next}
use Rattle.bw_care.proofs.newest.renew.Goals as goal

pub renew_at-requires-clause-there : goal.renew_at-requires-clause-there
renew_at-requires-clause-there g c =
    let inside = c.pages-test.true in
    let shown = ap length c.as_slice-pages.ensures.value in
    c.requires.there (c.pages.at + 1) (omega arith) (omega arith)

pub pages-preserved : goal.pages-preserved
pages-preserved g c = record {
  count = c.renew_at.ensures.count ∙ c.pages.invariant.count;
  each = each_next _ _ (λ p. place_of p (counted (seen c.args.log.now (λ b. (goal.Segment-dyn g b).holding b.1)))) c.pages.at c.pages.invariant.each
      c.renew_at.ensures.at c.renew_at.ensures.others;
}
