use Rattle.std.proofs.Common.{◌∙◌, ◌<◌, ◌^◌, Some, ap, sym, length, get_or, rules, arith}
use Rattle.std.proofs.lemmas.List.{length-map}
use Rattle.bw_log.specs.Starts.{starts_of}
use Rattle.bw_codec.specs.Reading.{Says}
use Rattle.bw_log.proofs.Looked.{not_bad}
use Rattle.bw_log.proofs.BlocksRead.{spotted_own, spot_inside, spot_within, spot_bytes, spot_law, spot_starts, looked_through, some_start, first_at, line_is}
use Rattle.bw_log.proofs.log.Log.read_whole.Goals as goal

pub read_onto-requires-clause-inside : goal.read_onto-requires-clause-inside
read_onto-requires-clause-inside g c =
    let inside = spot_inside (spotted_own c.requires.sound c.requires.inside c.spot-spot.ensures) in
    simp length-map at inside

pub read_onto-requires-clause-within : goal.read_onto-requires-clause-within
read_onto-requires-clause-within g c = spot_within (spotted_own c.requires.sound c.requires.inside c.spot-spot.ensures)

pub starts_in-requires : goal.starts_in-requires
starts_in-requires g c =
    let s = spotted_own c.requires.sound c.requires.inside c.spot-spot.ensures in
    let read = c.deref.ensures.value ∙ spot_bytes s c.new-bytes.result.items c.read_onto.new.out.items c.new-bytes.ensures.items
    c.in_ok-read_onto.ensures.bytes in
    let short : c.spot-spot.result.len < 2 ^ 32 = search rules in
    let size = s.boxed.size in
    let len = s.len in
    omega (arith, ap length read)

pub unreachable-requires : goal.unreachable-requires
unreachable-requires g c =
    let s = spotted_own c.requires.sound c.requires.inside c.spot-spot.ensures in
    let read = spot_bytes s c.new-bytes.result.items c.read_onto.new.out.items c.new-bytes.ensures.items c.in_ok-read_onto.ensures.bytes in
    not_bad c.in-Err-BadBytes.field-0 (starts_of c.spot-spot.result.version s.boxed.frame) c.in-Err-BadBytes.field-0-is
    (spot_law (λ frame. Says c.in-Err-BadBytes.field-0 (Some (starts_of c.spot-spot.result.version frame))) s c.deref.result.now c.requires.sound
    (c.deref.ensures.value ∙ read) c.in-Err-BadBytes.ensures)

pub unreachable-requires-in_default : goal.unreachable-requires-in_default
unreachable-requires-in_default g c =
    let w = looked_through c.new-bytes.result.items c.read_onto.new.out.items c.deref.result.now c.in-Ok.known.items c.requires.sound c.requires.inside
    c.spot-spot.ensures c.new-bytes.ensures.items c.in_ok-read_onto.ensures.bytes c.deref.ensures.value c.in-Ok.ensures in
    some_start w.spotted c.deref-2.result.now c.requires.there.1 (c.deref-2.ensures.value ∙ w.told) c.in_default.ensures

pub learn-requires : goal.learn-requires
learn-requires g c =
    let w = looked_through c.new-bytes.result.items c.read_onto.new.out.items c.deref.result.now c.in-Ok.known.items c.requires.sound c.requires.inside
    c.spot-spot.ensures c.new-bytes.ensures.items c.in_ok-read_onto.ensures.bytes c.deref.ensures.value c.in-Ok.ensures in
    let own = line_is c.requires.inside c.spot-spot.ensures c.index_mut.result.now
    (c.index_mut.ensures.value ∙ ap (λ l. get_or l.frames c.args.i c.index_mut.result.now) c.in_ok-read_onto.ensures.stops) in
    w.told ∙ spot_starts w.spotted ∙ ap (λ l. l.starts) (sym own)

pub block_from-requires : goal.block_from-requires
block_from-requires g c =
    let w = looked_through c.new-bytes.result.items c.read_onto.new.out.items c.deref.result.now c.in-Ok.known.items c.requires.sound c.requires.inside
    c.spot-spot.ensures c.new-bytes.ensures.items c.in_ok-read_onto.ensures.bytes c.deref.ensures.value c.in-Ok.ensures in
    let first = first_at (c.in-Some.start, c.in-Some.field-0-1) c.deref-2.result.now c.deref-3.result.now w.spotted c.requires.there.1
    (c.deref-2.ensures.value ∙ w.told) c.in-Some.ensures (c.deref-3.ensures.value ∙ w.read) in
    record { inside = first.0; spelled = (c.requires.there.0, first.1) }

pub returns-clause-found : goal.returns-clause-found
returns-clause-found g c block x =
    let w = looked_through c.new-bytes.result.items c.read_onto.new.out.items c.deref.result.now c.in-Ok.known.items c.requires.sound c.requires.inside
    c.spot-spot.ensures c.new-bytes.ensures.items c.in_ok-read_onto.ensures.bytes c.deref.ensures.value c.in-Ok.ensures in
    c.block_from.ensures.found block (first_at (c.in-Some.start, c.in-Some.field-0-1) c.deref-2.result.now c.deref-3.result.now w.spotted x
    (c.deref-2.ensures.value ∙ w.told) c.in-Some.ensures (c.deref-3.ensures.value ∙ w.read)).1
