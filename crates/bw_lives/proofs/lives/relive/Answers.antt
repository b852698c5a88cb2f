use Rattle.bw_core.proofs.Relived.{go_on}
use Rattle.bw_lives.proofs.SecondLife.{begins_over_all, joined, refused_as}
use Rattle.bw_lives.proofs.lives.relive.Goals as goal

pub returns-in-Err-clause-refused : goal.returns-in-Err-clause-refused
returns-in-Err-clause-refused g c =
    refused_as _ _ _ _ _ c.requires
    (joined _ _ _ _ _ _ _ _ c.in-Ok.ensures.items c.add_all.ensures.items c.add_all-2.ensures.items c.shut-live.ensures.live c.shut-live.ensures.spares)
    c.in-Err.ensures.refuses

pub returns-in-Ok-reopen-clause-begins : goal.returns-in-Ok-reopen-clause-begins
returns-in-Ok-reopen-clause-begins g c =
    let found = c.in-Ok-recover.ensures in
    begins_over_all _ _ _
    (joined _ _ _ _ _ _ _ _ c.in-Ok.ensures.items c.add_all.ensures.items c.add_all-2.ensures.items c.shut-live.ensures.live c.shut-live.ensures.spares)
    (c.in-Ok-reopen.ensures.begins _ (record {
      found = found.found;
      live = found.live;
      spares = found.spares;
      is_open = found.open;
      limit = found.limit;
      pairs = found.pairs;
    }))

pub returns-in-Ok-reopen-clause-lives : goal.returns-in-Ok-reopen-clause-lives
returns-in-Ok-reopen-clause-lives g c = go_on _ _ c.requires (returns-in-Ok-reopen-clause-begins g c)
