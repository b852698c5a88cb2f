use Rattle.bw_log.proofs.BlocksRead.{spelled_in_lent, lent_inside, cut_within, lent_reaches}
use Rattle.bw_log.proofs.log.Log.read_alone.Goals as goal

pub returns-in-Some-clause-found : goal.returns-in-Some-clause-found
returns-in-Some-clause-found g c block x =
    let lent = rw c.deref.ensures.value at c.in-Some.ensures in
    c.block_of.ensures.found block
    (spelled_in_lent c.in-Some.held.now _ lent (cut_within c.in-Some.held.now c.args.from c.args.len (lent_reaches c.in-Some.held.now lent x)) x)

pub read_onto-requires-clause-inside : goal.read_onto-requires-clause-inside
read_onto-requires-clause-inside g c = lent_inside _ c.args.self.now.live.items c.requires.1
