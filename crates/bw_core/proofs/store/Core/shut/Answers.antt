use Rattle.bw_core.proofs.Stopping.{cut_handed, stop_handed}
use Rattle.bw_core.proofs.store.Core.shut.Goals as goal

pub returns-clause-live : goal.returns-clause-live
returns-clause-live g c = c.into_segments-live.ensures.live

pub returns-clause-spares : goal.returns-clause-spares
returns-clause-spares g c = c.into_segments-live.ensures.spares

pub returns-clause-stops : goal.returns-clause-stops
returns-clause-stops g c = stop_handed _ c.requires _ _ c.into_segments-live.ensures.live c.into_segments-live.ensures.spares

pub returns-clause-cuts : goal.returns-clause-cuts
returns-clause-cuts g c = cut_handed _ c.requires _ _ c.into_segments-live.ensures.live c.into_segments-live.ensures.spares

pub returns-clause-each_cut : goal.returns-clause-each_cut
returns-clause-each_cut g c = c.requires.stands
