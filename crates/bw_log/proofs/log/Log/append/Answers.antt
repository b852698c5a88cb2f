use Rattle.bw_log.proofs.log.Log.append.Goals as goal

pub append_with-requires-clause-sound : goal.append_with-requires-clause-sound
append_with-requires-clause-sound g c = c.requires.sound

pub append_with-requires-clause-sealed : goal.append_with-requires-clause-sealed
append_with-requires-clause-sealed g c = c.requires.sealed

pub append_with-requires-clause-limit : goal.append_with-requires-clause-limit
append_with-requires-clause-limit g c = c.requires.limit

pub append_with-requires-clause-follows : goal.append_with-requires-clause-follows
append_with-requires-clause-follows g c = c.requires.follows

pub returns-clause-leaves : goal.returns-clause-leaves
returns-clause-leaves g c = c.append_with.ensures.leaves

pub returns-clause-prepared : goal.returns-clause-prepared
returns-clause-prepared g c = c.append_with.ensures.prepared
