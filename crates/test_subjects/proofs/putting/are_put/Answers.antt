use Rattle.bw_ring.specs.Ends.{ring_of_feed}
use Rattle.bw_history.proofs.Laned.{set_kept}
use Rattle.test_subjects.proofs.putting.are_put.Goals as goal

pub returns : goal.returns
returns c = set_kept ring_of_feed c.args.feeds.now.items c.args.writer c.put_all.new.feed c.index_mut.result.now c.requires
    c.index_mut.ensures.value c.put_all.ensures
