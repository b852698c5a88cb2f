use Rattle.std.proofs.Common.{◌-◌, arith}
use Rattle.bw_log.proofs.Fetched.{sound_after, kept_after, short, dumped}
use Rattle.bw_log.proofs.log.Log.dump.Goals as goal

pub overflow_cast-len : goal.overflow_cast-len
overflow_cast-len g c =
    let few = short _ c.args.self.now.live.items (c.args.segment - c.args.self.now.number) c.len_of-len.result c.requires.bounds
    (omega (arith, c.len.ensures)) (rw c.deref.ensures.value at c.len_of-len.ensures.within) in
    omega arith

pub returns-in_err-read_onto-clause-sound : goal.returns-in_err-read_onto-clause-sound
returns-in_err-read_onto-clause-sound g c = sound_after _ _ _ c.in_err-read_onto.field-0.0 c.requires c.in_err-read_onto.ensures.stops

pub returns-clause-found : goal.returns-clause-found
returns-clause-found g c =
    dumped _ _ c.args.self.now.live.items c.args.segment c.len_of-len.result c.args.out.now.items c.read_onto.new.out.items
    (omega arith) (omega (arith, c.len.ensures))
    (rw c.deref.ensures.value at c.len_of-len.ensures.value) c.in_ok-read_onto.ensures.bytes

pub returns-in_err-read_onto-clause-kept : goal.returns-in_err-read_onto-clause-kept
returns-in_err-read_onto-clause-kept g c = kept_after _ _ _ c.in_err-read_onto.field-0.0 c.in_err-read_onto.ensures.stops
