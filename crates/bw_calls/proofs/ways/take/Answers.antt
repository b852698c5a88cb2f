use Rattle.std.proofs.Common.{◌≡◌, length, sym, ◌∙◌, arith}
use Rattle.bw_home.proofs.Maps.{now_put, same_count, same_map}
use Rattle.bw_calls.proofs.LeaveLaws.{reads_by}
use Rattle.bw_calls.proofs.ways.take.Goals as goal

pub returns-in-Ok-clause-same : goal.returns-in-Ok-clause-same
returns-in-Ok-clause-same g c = same_map _ _ _ _ c.take_all.ensures.sequel.follows.continues.start c.take_all.ensures.feeds.accepted

pub returns-in-Err-clause-same : goal.returns-in-Err-clause-same
returns-in-Err-clause-same g c = same_map _ _ _ _ c.take_all.ensures.sequel.follows.continues.start c.take_all.ensures.feeds.accepted

pub returns-in-Ok-clause-taken : goal.returns-in-Ok-clause-taken
returns-in-Ok-clause-taken g c =
    let told = c.len.ensures in
    let is = c.if-len-ne1.false in
    let one : length c.args.home.now.feeds.items ≡ 1 = omega arith in
    let rings = c.take_all.ensures.ready.feeds ∙ c.take_all.ensures.sequel.follows.continues.rings ∙ sym c.requires.feeds in
    now_put c.take_all.new.self.store.origin.start.value.leaves _ _ (same_count _ _ rings one) c.in-Ok.ensures.exactly c.in-Ok.ensures.writers

pub returns-in-Ok-clause-leaves : goal.returns-in-Ok-clause-leaves
returns-in-Ok-clause-leaves g c = reads_by _ _ _ c.take_all.ensures.stays

pub returns-in-Err-clause-leaves : goal.returns-in-Err-clause-leaves
returns-in-Err-clause-leaves g c = reads_by _ _ _ c.take_all.ensures.stays
