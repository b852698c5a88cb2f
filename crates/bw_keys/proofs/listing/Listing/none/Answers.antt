use Rattle.std.proofs.Common.{[], sym, ap, ◌∙◌, append-nil}
use Rattle.bw_pairs.proofs.Parts.{trans_on_ok}
use Rattle.bw_keys.specs.Listed.{before, behind, spelled}
use Rattle.bw_keys.proofs.Written.{listed_none}
use Rattle.bw_keys.proofs.listing.Listing.none.Goals as goal

pub returns : goal.returns
returns g c = listed_none c.args.self.now.order c.end.result _ _ _ c.in_ok-begin.ensures c.end.ensures
