use Rattle.std.proofs.Common.{refl, rules, arith}
use Rattle.bw_log.proofs.LastOfLive.{searched, none_told, own_told, other_told}
use Rattle.bw_log.proofs.log.Log.last_in.Goals as goal

pub returns-then-count-eq0 : goal.returns-then-count-eq0
returns-then-count-eq0 g c =
    let s = searched _ _ c.args.self.now.live.items _ _ _ refl c.as_slice-lines.ensures.value c.requires.sound c.requires.from c.requires.inside
    c.partition_point-count.ensures.bound c.partition_point-count.ensures.partitioned (λ a r f' h. search rules) in
    none_told s c.if-count-eq0.true

pub returns-then-line-segment : goal.returns-then-line-segment
returns-then-line-segment g c =
    let s = searched _ _ c.args.self.now.live.items _ _ _ refl c.as_slice-lines.ensures.value c.requires.sound c.requires.from c.requires.inside
    c.partition_point-count.ensures.bound c.partition_point-count.ensures.partitioned (λ a r f' h. search rules) in
    own_told c.index-lines-count.result s c.index-lines-count.is (omega arith) c.if-line-segment.true

pub returns-else-line-segment : goal.returns-else-line-segment
returns-else-line-segment g c =
    let s = searched _ _ c.args.self.now.live.items _ _ _ refl c.as_slice-lines.ensures.value c.requires.sound c.requires.from c.requires.inside
    c.partition_point-count.ensures.bound c.partition_point-count.ensures.partitioned (λ a r f' h. search rules) in
    other_told c.index-lines-count.result s c.index-lines-count.is (omega arith) c.if-line-segment.false
