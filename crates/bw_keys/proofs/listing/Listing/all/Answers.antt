use Rattle.std.proofs.KnownBytes.{Appends-trans}
use Rattle.bw_pairs.proofs.Parts.{trans_on_ok}
use Rattle.bw_keys.proofs.listing.Listing.all.Goals as goal

pub returns-clause-listed : goal.returns-clause-listed
returns-clause-listed g c =
    trans_on_ok c.end.result _ _ _ _ _ (Appends-trans _ _ _ _ _ c.in_ok-begin.ensures c.in_ok-wanted.ensures.written) c.end.ensures
