use Rattle.bw_making.proofs.Begins.{fits_at}
use Rattle.bw_making.proofs.begin.first_frame.Goals as goal

pub put_first-requires-clause-fits : goal.put_first-requires-clause-fits
put_first-requires-clause-fits c = fits_at _ c.args.f _ _ c.in_ok-making.ensures c.requires.0 c.in_ok-blocks.ensures c.deref.ensures.value
