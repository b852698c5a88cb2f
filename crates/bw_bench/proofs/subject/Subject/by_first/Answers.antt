use Rattle.bw_ring.specs.Ends.{ring_of_feed}
use Rattle.bw_history.proofs.Laned.{set_kept}
use Rattle.bw_bench.proofs.subject.Subject.by_first.Goals as goal

pub returns-clause-feeds : goal.returns-clause-feeds
returns-clause-feeds g c =
    set_kept ring_of_feed c.args.feeds.now.items 0 c.put_and_get.new.feed c.index_mut.result.now c.requires.some c.index_mut.ensures.value
    c.put_and_get.ensures.feed
