use Rattle.std.proofs.Common.{◌≤◌, ◌<◌, ◌∙◌, ap, sym, subst, length, cond, Some}
use Rattle.std.specs.Ordering.{eq_by_cmp}
use Rattle.std.specs.Prelude.{remove}
use Rattle.bw_record.specs.declared.leaf.Leaf.{Leaf}
use Rattle.bw_leaf.specs.Changed.{order}
use Rattle.bw_leaf.specs.SplitRule.{lower_of, upper_of}
use Rattle.bw_lows.specs.LowHeads.{page_of_low}
use Rattle.bw_leaf.specs.Seek.{IsWithin}
use Rattle.bw_page.proofs.Parting.{remove_inserted, with_pair}
use Rattle.bw_page.proofs.splits.split_leaf.Goals as goal

pub sever-requires-clause-over : goal.sever-requires-clause-over
sever-requires-clause-over c =
    let whole = with_pair c.args.leaf.now c.args.item.now c.args.found c.in_ok-at.at c.in_ok-at.own c.insert.new.self c.requires.found c.in_ok-at.ensures.at
    c.in_ok-at.ensures.pair c.in_ok-insert.ensures.ok in
    subst (λ (l : Leaf). c.args.m < length l.pairs) (sym whole) c.requires.over

pub returns-in-Ok-clause-lower : goal.returns-in-Ok-clause-lower
returns-in-Ok-clause-lower c =
    let whole = with_pair c.args.leaf.now c.args.item.now c.args.found c.in_ok-at.at c.in_ok-at.own c.insert.new.self c.requires.found c.in_ok-at.ensures.at
    c.in_ok-at.ensures.pair c.in_ok-insert.ensures.ok in
    c.in-Ok.ensures.lower ∙ ap (lower_of c.args.m) whole

pub returns-in-Ok-clause-upper : goal.returns-in-Ok-clause-upper
returns-in-Ok-clause-upper c =
    let whole = with_pair c.args.leaf.now c.args.item.now c.args.found c.in_ok-at.at c.in_ok-at.own c.insert.new.self c.requires.found c.in_ok-at.ensures.at
    c.in_ok-at.ensures.pair c.in_ok-insert.ensures.ok in
    c.in-Ok.ensures.upper ∙ ap (upper_of c.args.m c.args.page) whole

pub returns-in-Ok-clause-index : goal.returns-in-Ok-clause-index
returns-in-Ok-clause-index c q =
    let whole = with_pair c.args.leaf.now c.args.item.now c.args.found c.in_ok-at.at c.in_ok-at.own c.insert.new.self c.requires.found c.in_ok-at.ensures.at
    c.in_ok-at.ensures.pair c.in_ok-insert.ensures.ok in
    c.in-Ok.ensures.index q
    ∙ ap (λ (l : Leaf). cond (eq_by_cmp order q (upper_of c.args.m c.args.page l).low) (Some c.args.page) (page_of_low c.args.index.now q)) whole

pub returns-in-Err-clause-leaf_stays : goal.returns-in-Err-clause-leaf_stays
returns-in-Err-clause-leaf_stays c =
    let within : c.in_ok-at.at ≤ length c.args.leaf.now.pairs = subst (IsWithin (length c.args.leaf.now.pairs)) c.in_ok-at.ensures.at c.requires.within in
    let back = c.remove.ensures ∙ ap (λ (l : Leaf). remove l.pairs c.in_ok-at.at) c.in-Err.ensures.leaf_stays
    ∙ ap (λ ps. remove ps c.in_ok-at.at) c.in_ok-insert.ensures.ok
    ∙ remove_inserted c.args.leaf.now.pairs c.in_ok-at.at c.in_ok-at.own within in
    let same = c.in-Err.ensures.leaf_stays in
    λ i. record { page = (same i).page; low = (same i).low; pairs = back i }
