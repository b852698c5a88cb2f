use Rattle.std.proofs.Common.{sym, ◌∙◌, arith}
use Rattle.bw_page.proofs.Counted.{counted, total_all, total_none}
use Rattle.bw_found.proofs.PairsCounted.{pairs_few, pairs_next}
use Rattle.bw_found.proofs.pages.count_pairs.Goals as goal

pub loop-page-init : goal.loop-page-init
loop-page-init c = sym (total_none c.args.pages.now)

pub overflow_add-pairs : goal.overflow_add-pairs
overflow_add-pairs c =
    let more = pairs_next c.args.pages.now c.loop-page.page-index c.loop-page.pairs c.count_of.result c.page-item.result c.loop-page-test.true c.page-item.is c.loop-page.invariant c.count_of.ensures.value in
    let few = pairs_few c.args.m c.args.pages.now c.loop-page.page-index c.page-item.result c.requires.limit c.requires.lawful c.loop-page-test.true c.page-item.is c.count_of.ensures.small in
    omega arith

pub loop-page-preserved : goal.loop-page-preserved
loop-page-preserved c =
    pairs_next c.args.pages.now c.loop-page.page-index c.loop-page.pairs c.count_of.result c.page-item.result c.loop-page-test.true c.page-item.is c.loop-page.invariant c.count_of.ensures.value

pub returns : goal.returns
returns c =
    c.loop-page.invariant
    ∙ total_all c.args.pages.now c.loop-page.page-index (let end = c.loop-page-test.false in let top = c.loop-page.auto.page-index-end in omega arith)
    ∙ sym (counted c.args.m c.args.pages.now c.requires.lawful)
