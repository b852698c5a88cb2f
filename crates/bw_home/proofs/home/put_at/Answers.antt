use Rattle.std.proofs.lemmas.Result.{on_ok_weaker, on_err_weaker}
use Rattle.bw_ring.specs.Marks.{marked}
use Rattle.bw_ring.specs.Ends.{accepted, ring_of_feed}
use Rattle.bw_history.proofs.Laned.{set_kept, took}
use Rattle.bw_home.proofs.home.put_at.Goals as goal

pub returns-clause-rings : goal.returns-clause-rings
returns-clause-rings c =
    set_kept ring_of_feed c.args.feeds.now.items c.args.writer c.put_group.new.self c.index_mut.result.now
    c.requires c.index_mut.ensures.value c.put_group.ensures.ring

pub returns-clause-added : goal.returns-clause-added
returns-clause-added c =
    on_ok_weaker c.put_group.result (λ more. took accepted c.args.feeds.now.items c.args.writer c.put_group.new.self c.index_mut.result.now
    (marked c.args.group) c.requires c.index_mut.ensures.value more) c.put_group.ensures.added

pub returns-clause-unchanged : goal.returns-clause-unchanged
returns-clause-unchanged c =
    on_err_weaker c.put_group.result (λ same. set_kept accepted c.args.feeds.now.items c.args.writer c.put_group.new.self c.index_mut.result.now
    c.requires c.index_mut.ensures.value same) c.put_group.ensures.unchanged
