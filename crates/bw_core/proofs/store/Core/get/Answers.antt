use Rattle.bw_core.specs.Views.{kept_by}
use Rattle.bw_core.proofs.EvictedPages.{answer_is}
use Rattle.bw_core.proofs.LookingMore.{reads_no_more, reads_once}
use Rattle.bw_core.proofs.store.Core.get.Goals as goal

pub returns-then-is_here-clause-reads : goal.returns-then-is_here-clause-reads
returns-then-is_here-clause-reads g c =
    let its = c.note_asked.ensures in
    reads_no_more _ _ _ (record { sound = its.sound; same = its.same; pages = its.pages; noted = its.noted })

pub returns-clause-value : goal.returns-clause-value
returns-clause-value g c =
    answer_is (kept_by c.args.self.now (λ z. (goal.Segment-dyn g z).holding z.1)) c.requires c.args.key.now c.find-page.result
    c.find-page.ensures.directed c.find-page.ensures.within c.value_of_evicted.result c.value_of_evicted.ensures.value

pub returns-clause-reads : goal.returns-clause-reads
returns-clause-reads g c = reads_once _ _ _ _ _ c.requires c.value_of_evicted.ensures.looks
