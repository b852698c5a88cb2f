-- A chain holds its links oldest first, and shows them newest first.

use Rattle.std.specs.Prelude.{◌-◌, length, reverse}
use Rattle.bw_leaf.specs.declared.chain.Chain.TheInside.{Inside}
use Rattle.bw_leaf.specs.Links.{Chained}

abbrev pub view_of : Inside → Chained
view_of a = record { links = reverse a.links.items; end = a.end; room = a.links.capacity - length a.links.items }
