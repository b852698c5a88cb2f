use Rattle.std.proofs.Common.{◌∙◌, sym, ap}
use Rattle.bw_leaf.specs.Seek.{seek_of, passed}
use Rattle.bw_leaf.proofs.Skipping.{skipped_search, above_search, all_behind}
use Rattle.bw_leaf.proofs.changes.find_key.Goals as goal

pub returns-then-skip-clause-found : goal.returns-then-skip-clause-found
returns-then-skip-clause-found c =
    let ends = c.skip_for-skip.ensures in
    above_search c.args.key.now c.args.pairs.now c.skip_for-skip.result.count ends.within ends.below (ends.above c.if-skip.true)

pub returns-in-Ok-clause-found : goal.returns-in-Ok-clause-found
returns-in-Ok-clause-found c =
    let from = c.skip_for-skip.result.count in
    let found = sym c.in-Ok.is ∙ rw c.as_slice.ensures at c.find_whole.ensures.found in
    ap (passed from) (found ∙ ap (seek_of c.args.key.now) (all_behind from c.args.pairs.now))
    ∙ skipped_search c.args.key.now c.args.pairs.now from c.skip_for-skip.ensures.within c.skip_for-skip.ensures.below

pub returns-in-Err-clause-found : goal.returns-in-Err-clause-found
returns-in-Err-clause-found c =
    let from = c.skip_for-skip.result.count in
    let found = sym c.in-Err.is ∙ rw c.as_slice.ensures at c.find_whole.ensures.found in
    ap (passed from) (found ∙ ap (seek_of c.args.key.now) (all_behind from c.args.pairs.now))
    ∙ skipped_search c.args.key.now c.args.pairs.now from c.skip_for-skip.ensures.within c.skip_for-skip.ensures.below
