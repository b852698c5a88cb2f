use Rattle.std.proofs.Common.{◌≡◌, length, refl, ◌∙◌, arith}
use Rattle.bw_core.proofs.FollowMore.{follows_as}
use Rattle.bw_home.proofs.Cuts.{fully_kept, stays_same}
use Rattle.bw_home.proofs.Maps.{now_put, plain_all, same_count, same_map}
use Rattle.bw_home.proofs.home.Home.keep.Goals as goal

pub returns-then-len-ne1-clause-follows : goal.returns-then-len-ne1-clause-follows
returns-then-len-ne1-clause-follows g c = (follows_as _ _ refl).follows

pub returns-in-Ok-clause-kept : goal.returns-in-Ok-clause-kept
returns-in-Ok-clause-kept g c =
    let told = c.len.ensures in
    let is = c.if-len-ne1.false in
    let one : length c.args.self.now.feeds.items ≡ 1 = omega arith in
    let put = same_map _ _ _ _ c.settle.ensures.sequel.follows.continues.start c.settle.ensures.feeds.accepted in
    let now = now_put c.settle.new.self.store.origin.start.value.leaves _ _ (same_count _ _ c.settle.ensures.feeds.ends one) c.in-Ok.ensures.goal.exactly c.in-Ok.ensures.goal.writers ∙ put in
    let kept = plain_all c.settle.new.self.store.origin.start.value.leaves _ _ c.in-Ok.ensures.goal.last_cut.1 ∙ now in
    record {
      has = record { put = put; now = now };
      kept = kept;
      cuts = fully_kept _ _ _ _ _ (same_count _ _ c.settle.ensures.feeds.ends one) c.in-Ok.ensures.goal.exactly c.in-Ok.ensures.goal.writers
          c.in-Ok.ensures.goal.last_cut.1 kept;
    }

pub returns-then-len-ne1-clause-stays : goal.returns-then-len-ne1-clause-stays
returns-then-len-ne1-clause-stays g c = stays_same _ _ _ c.requires.sound refl refl
