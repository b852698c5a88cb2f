use Rattle.bw_digest.proofs.Found.{what_fits}
use Rattle.bw_digest.proofs.laws.what_fits_was_written.Goals as goal

pub returns : goal.returns
returns c = what_fits
