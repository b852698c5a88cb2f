use Rattle.std.proofs.Common.{◌≡◌, ◌∙◌, Some, rules}
use Rattle.bw_care.specs.Ordering.{order_fault}
use Rattle.bw_lines.specs.declared.cause.RecoverCause.TheVariants.{Gap}
use Rattle.bw_care.proofs.TailsFit.{sorted_few, sorted_short}
use Rattle.bw_care.proofs.order.order_of.Goals as goal

pub tail_of-tail-requires-clause-few : goal.tail_of-tail-requires-clause-few
tail_of-tail-requires-clause-few c = sorted_few c.args.scans.items _ 4096 (c.deref-9.ensures.value ∙ c.in_ok-live.ensures) c.requires.few

pub tail_of-tail-requires-clause-short : goal.tail_of-tail-requires-clause-short
tail_of-tail-requires-clause-short c = sorted_short c.args.scans.items _ (c.deref-9.ensures.value ∙ c.in_ok-live.ensures) c.requires.short

pub returns-then-not-is_gapless-clause-fault : goal.returns-then-not-is_gapless-clause-fault
returns-then-not-is_gapless-clause-fault c =
    let told : order_fault c.args.scans.items c.args.rooms.now ≡ Some Gap = search rules in
    told
