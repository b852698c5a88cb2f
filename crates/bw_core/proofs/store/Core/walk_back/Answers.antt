use Rattle.std.proofs.Common.{◌∙◌, ◌≡◌, refl, ap, subst, arith}
use Rattle.bw_page.specs.Leaves.{leaf_at}
use Rattle.bw_page.specs.Shown.{Shown}
use Rattle.bw_walks.specs.Back.{IsPageBefore, behind_leaf}
use Rattle.bw_walks.proofs.Backwards.{told_as, fewer_back}
use Rattle.bw_core.specs.Views.{kept_by}
use Rattle.bw_core.proofs.LookingMore.{reads_behind, stays_on, stays_yet}
use Rattle.bw_core.proofs.Backwards.{back_first, back_found, back_further, back_last}
use Rattle.bw_core.proofs.store.Core.walk_back.Goals as goal

pub pages-init : goal.pages-init
pages-init g c =
    let s = kept_by c.args.self.now (λ z. (goal.Segment-dyn g z).holding z.1) in
    record {
      stays = stays_yet _ _ c.requires;
      inside = c.find-page.ensures.within;
      come = back_first s c.requires c.args.reach c.args.key.now c.find-page.result c.find-page.ensures.directed;
    }

pub returns-in_err-pair-clause-reads : goal.returns-in_err-pair-clause-reads
returns-in_err-pair-clause-reads g c = reads_behind _ _ _ _ _ _ c.pages.invariant.stays c.look_back.ensures.looks

pub returns-in-Found-clause-value : goal.returns-in-Found-clause-value
returns-in-Found-clause-value g c =
    let s = kept_by c.args.self.now (λ z. (goal.Segment-dyn g z).holding z.1) in
    let tells = told_as c.args.reach c.args.key.now c.pages.page _ _ _ _ c.pages.invariant.stays.pages c.in-Found.is c.in_ok-pair.ensures.value in
    back_found s c.requires c.args.reach c.args.key.now c.pages.page c.in-Found.pair c.pages.invariant.come tells

pub returns-in-Found-clause-reads : goal.returns-in-Found-clause-reads
returns-in-Found-clause-reads g c = reads_behind _ _ _ _ _ _ c.pages.invariant.stays c.look_back.ensures.looks

pub pages-smaller : goal.pages-smaller
pages-smaller g c =
    let tells = told_as c.args.reach c.args.key.now c.pages.page c.pages.self.pages.leaves c.pages.self.pages.leaves _ _ refl c.in-Before.is c.in_ok-pair.ensures.value in
    let before = subst (λ (f : Shown). IsPageBefore f.leaves c.in-Before.low c.page_before-page.result) c.look_back.ensures.looks.pages c.page_before-page.ensures.before in
    let fewer = fewer_back c.args.reach c.args.key.now c.in-Before.low c.pages.page c.page_before-page.result c.pages.self.pages.leaves.leaves tells before in
    let same = ap (λ (f : Shown). behind_leaf (leaf_at c.page_before-page.result f.leaves) f.leaves) c.look_back.ensures.looks.pages in
    omega (arith, fewer, same)

pub pages-preserved : goal.pages-preserved
pages-preserved g c =
    let s = kept_by c.args.self.now (λ z. (goal.Segment-dyn g z).holding z.1) in
    let pages : c.look_back.new.self.pages.leaves ≡ c.args.self.now.pages.leaves = c.look_back.ensures.looks.pages ∙ c.pages.invariant.stays.pages in
    let tells = told_as c.args.reach c.args.key.now c.pages.page _ _ _ _ c.pages.invariant.stays.pages c.in-Before.is c.in_ok-pair.ensures.value in
    let before = subst (λ (f : Shown). IsPageBefore f.leaves c.in-Before.low c.page_before-page.result) pages c.page_before-page.ensures.before in
    record {
      stays = stays_on _ _ _ _ _ _ c.pages.invariant.stays c.in_ok-pair.ensures.looks;
      inside = c.page_before-page.ensures.within;
      come = back_further s c.requires c.args.reach c.args.key.now c.in-Before.low c.pages.page c.page_before-page.result c.pages.invariant.come tells before;
    }

pub returns-in-End-clause-value : goal.returns-in-End-clause-value
returns-in-End-clause-value g c =
    let s = kept_by c.args.self.now (λ z. (goal.Segment-dyn g z).holding z.1) in
    let tells = told_as c.args.reach c.args.key.now c.pages.page _ _ _ _ c.pages.invariant.stays.pages c.in-End.is c.in_ok-pair.ensures.value in
    back_last s c.requires c.args.reach c.args.key.now c.pages.page c.pages.invariant.come tells

pub returns-in-End-clause-reads : goal.returns-in-End-clause-reads
returns-in-End-clause-reads g c = reads_behind _ _ _ _ _ _ c.pages.invariant.stays c.look_back.ensures.looks
