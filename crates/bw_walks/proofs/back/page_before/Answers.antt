use Rattle.std.proofs.Common.{refl}
use Rattle.bw_walks.proofs.Backwards.{first_before, taken_before, none_between, none_above}
use Rattle.bw_walks.proofs.back.page_before.Goals as goal

pub returns-in_default-clause-before : goal.returns-in_default-clause-before
returns-in_default-clause-before c = first_before _ c.args.leaves.now.leaves c.args.low.now c.count.ensures.lawful (c.last_below.ensures.none c.in_default.is)

pub returns-in-Some-low_above-clause-before : goal.returns-in-Some-low_above-clause-before
returns-in-Some-low_above-clause-before c =
    taken_before c.args.leaves.now.leaves c.args.low.now c.in-Some.last c.find.result c.in-Some.ensures.some
    (none_between c.args.leaves.now.leaves c.args.low.now c.in-Some.last c.in-Some-low_above.next c.in-Some.ensures.some c.in-Some-low_above.ensures.some c.head.ensures.bytes c.as_slice.ensures.lawful.1)
    c.find.ensures.greatest

pub returns-in-None-clause-before : goal.returns-in-None-clause-before
returns-in-None-clause-before c =
    taken_before c.args.leaves.now.leaves c.args.low.now c.in-Some.last c.find-in-None.result c.in-Some.ensures.some
    (none_above c.args.leaves.now.leaves c.args.low.now c.in-Some.last (c.in-None.ensures.none refl))
    c.find-in-None.ensures.greatest
