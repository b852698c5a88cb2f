use Rattle.std.proofs.Common.{List, get_or, length, subst, sym}
use Rattle.bw_record.specs.declared.leaf.Leaf.{Leaf}
use Rattle.bw_leaf.specs.Seek.{IsWithin}
use Rattle.bw_page.proofs.splits.split_one.Goals as goal

pub split-requires-clause-found_within : goal.split-requires-clause-found_within
split-requires-clause-found_within c d =
    subst (λ (ls : List Leaf). IsWithin (length (get_or ls c.args.at d).pairs) c.args.found) (sym c.reserve.ensures.items) (c.requires.found_within d)
