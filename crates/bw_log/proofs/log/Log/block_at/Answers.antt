use Rattle.std.proofs.Common.{ap, sym, length, arith}
use Rattle.std.proofs.lemmas.List.{length-map}
use Rattle.bw_log.proofs.BlocksRead.{placed_spot, placed_alone, spot_inside, sum_within, stops_in_spot}
use Rattle.bw_log.proofs.Walked.{first_is, some_frames, numbered_at}
use Rattle.bw_log.proofs.log.Log.block_at.Goals as goal

pub index-requires : goal.index-requires
index-requires g c = omega (arith, some_frames c.requires.sound c.requires.there, c.args.self.now.frames.ok.0)

pub overflow_sub-i : goal.overflow_sub-i
overflow_sub-i g c = (numbered_at c.index.result.now c.requires.sound c.requires.there.1 c.index.ensures).from_first

pub spot-spot-requires-clause-inside : goal.spot-spot-requires-clause-inside
spot-spot-requires-clause-inside g c = (numbered_at c.index.result.now c.requires.sound c.requires.there.1 c.index.ensures).inside

pub index-requires-2 : goal.index-requires-2
index-requires-2 g c =
    let inside = (numbered_at c.index.result.now c.requires.sound c.requires.there.1 c.index.ensures).inside in
    omega (arith, c.args.self.now.frames.ok.0)

pub read_whole-requires-clause-inside : goal.read_whole-requires-clause-inside
read_whole-requires-clause-inside g c = (numbered_at c.index.result.now c.requires.sound c.requires.there.1 c.index.ensures).inside

pub read_whole-requires-clause-there : goal.read_whole-requires-clause-there
read_whole-requires-clause-there g c = (c.requires.there.0, (numbered_at c.index.result.now c.requires.sound c.requires.there.1 c.index.ensures).stands)

pub len_of-requires : goal.len_of-requires
len_of-requires g c =
    let inside = spot_inside (placed_spot c.index.result.now c.requires.sound c.requires.there.1 c.index.ensures c.spot-spot.ensures) in
    let there = simp length-map at inside in
    omega (arith, ap length c.deref.ensures.value, there)

pub overflow_add-from : goal.overflow_add-from
overflow_add-from g c =
    let s = placed_spot c.index.result.now c.requires.sound c.requires.there.1 c.index.ensures c.spot-spot.ensures in
    let one = placed_alone c.index.result.now c.index-2.result.now (c.in-Some.start, c.in-Some.end) c.requires.sound c.requires.there.1 c.index.ensures
    c.spot-spot.ensures c.index-2.ensures c.in-Some.ensures in
    let told = rw c.deref.ensures.value at c.len_of.ensures.value in
    let within = sum_within s c.len_of.result told in
    let order = one.0 in
    let end = one.1 in
    let from = c.from.ensures in
    let most = c.len_of.type_inv in
    record { fits = omega arith }

pub overflow_sub-end : goal.overflow_sub-end
overflow_sub-end g c =
    let one = placed_alone c.index.result.now c.index-2.result.now (c.in-Some.start, c.in-Some.end) c.requires.sound c.requires.there.1 c.index.ensures
    c.spot-spot.ensures c.index-2.ensures c.in-Some.ensures in
    one.0

pub read_alone-requires : goal.read_alone-requires
read_alone-requires g c =
    let one = placed_alone c.index.result.now c.index-2.result.now (c.in-Some.start, c.in-Some.end) c.requires.sound c.requires.there.1 c.index.ensures
    c.spot-spot.ensures c.index-2.ensures c.in-Some.ensures in
    (c.requires.there.0, rw c.from.ensures one.2)

pub returns-in-None-clause-found : goal.returns-in-None-clause-found
returns-in-None-clause-found g c block x = c.read_whole.ensures.found block (numbered_at c.index.result.now c.requires.sound x c.index.ensures).stands

pub returns-in-None-clause-stops : goal.returns-in-None-clause-stops
returns-in-None-clause-stops g c =
    let first = first_is _ c.index.result.now c.requires.sound (some_frames c.requires.sound c.requires.there) c.index.ensures in
    rw (sym first) c.read_whole.ensures.stops

pub returns-in-Some-clause-found : goal.returns-in-Some-clause-found
returns-in-Some-clause-found g c block x =
    let one = placed_alone c.index.result.now c.index-2.result.now (c.in-Some.start, c.in-Some.end) c.requires.sound x c.index.ensures
    c.spot-spot.ensures c.index-2.ensures c.in-Some.ensures in
    c.read_alone.ensures.found block (rw c.from.ensures one.2)

pub returns-in-Some-clause-stops : goal.returns-in-Some-clause-stops
returns-in-Some-clause-stops g c =
    let first = first_is _ c.index.result.now c.requires.sound (some_frames c.requires.sound c.requires.there) c.index.ensures in
    rw (sym first) (stops_in_spot c.spot-spot.ensures c.read_alone.result _ c.read_alone.ensures.stops)
