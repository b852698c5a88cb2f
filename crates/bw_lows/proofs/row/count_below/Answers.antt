use Rattle.bw_lows.proofs.HeadCounts.{boundary_between, between_all}
use Rattle.bw_lows.proofs.row.count_below.Goals as goal

pub returns-clause-boundary : goal.returns-clause-boundary
returns-clause-boundary c asc =
    boundary_between c.args.row.now c.args.head c.args.least _ _ c.narrow-from-4.ensures.width
    (c.narrow-from-4.ensures.found c.args.least asc
    (c.narrow-from-3.ensures.found c.args.least asc
    (c.narrow-from-2.ensures.found c.args.least asc
    (c.narrow-from.ensures.found c.args.least asc
    (between_all c.args.row.now c.args.head c.args.least c.requires)))))
