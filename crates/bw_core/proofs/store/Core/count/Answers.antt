use Rattle.std.proofs.Common.{◌+◌, sym, ap, ◌∙◌, arith}
use Rattle.std.specs.FinMap as finite
use Rattle.bw_leaf.specs.Changed.{Map}
use Rattle.bw_page.proofs.Counted.{counted, pairs_more, total_all, total_few, total_none}
use Rattle.bw_core.proofs.LookingMore.{reads_behind, reads_no_more, stays_on, stays_yet}
use Rattle.bw_core.proofs.store.Core.count.Goals as goal

pub pages-init : goal.pages-init
pages-init g c = record { stays = stays_yet _ _ c.requires; so_far = sym (total_none c.args.self.now.pages.leaves.leaves) }

pub returns-in_err-pairs-clause-reads : goal.returns-in_err-pairs-clause-reads
returns-in_err-pairs-clause-reads g c = reads_behind _ _ _ _ _ _ c.pages.invariant.stays c.pairs_on.ensures.looks

pub overflow_add-pairs : goal.overflow_add-pairs
overflow_add-pairs g c =
    let leaves = c.args.self.now.pages.leaves.leaves in
    let within = c.pages-test.true in
    let count = c.count-pages.ensures.value in
    let more = pairs_more c.args.self.now.pages.leaves _ c.pages.before _ _ c.pages.invariant.stays.pages (omega arith) c.pages.invariant.so_far
    c.in_ok-pairs.ensures.value in
    let few = total_few c.args.self.now.pages.leaves.m leaves (c.pages.before + 1) c.count-pages.ensures.limit.1 c.count-pages.ensures.lawful in
    omega arith

pub pages-preserved : goal.pages-preserved
pages-preserved g c =
    let within = c.pages-test.true in
    let count = c.count-pages.ensures.value in
    let more = pairs_more c.args.self.now.pages.leaves _ c.pages.before _ _ c.pages.invariant.stays.pages (omega arith) c.pages.invariant.so_far
    c.in_ok-pairs.ensures.value in
    record {
      stays = stays_on _ _ _ _ _ _ c.pages.invariant.stays c.in_ok-pairs.ensures.looks;
      so_far = more;
    }

pub returns-clause-value : goal.returns-clause-value
returns-clause-value g c =
    let leaves = c.args.self.now.pages.leaves.leaves in
    let within = c.pages-test.false in
    let end = c.pages.auto.before-end in
    let count = c.count-pages.ensures.value in
    c.pages.invariant.so_far
    ∙ total_all leaves c.pages.before (omega arith)
    ∙ sym (counted c.args.self.now.pages.leaves.m leaves c.count-pages.ensures.lawful)
    ∙ ap (λ (u : Map). finite.len u) c.requires.mapped

pub returns-clause-reads : goal.returns-clause-reads
returns-clause-reads g c = reads_no_more _ _ _ c.pages.invariant.stays
