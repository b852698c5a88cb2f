use Rattle.std.proofs.Common.{◌∙◌, [], Some, ap, refl, sym, length, take, drop, arith}
use Rattle.std.proofs.lemmas.List.{length-map, length-take-le}
use Rattle.bw_codec.specs.Reading.{Says}
use Rattle.bw_log.specs.Starts.{starts_of}
use Rattle.bw_log.proofs.Looked.{not_bad}
use Rattle.bw_log.proofs.BlocksRead.{spotted_own, spot_inside, spot_law, spot_bytes, spot_starts, looked_through, line_is, lent_frame, lent_within, rest_all}
use Rattle.bw_log.proofs.log.Log.look_through.Goals as goal

pub lend_of-requires : goal.lend_of-requires
lend_of-requires g c =
    let inside = spot_inside (spotted_own c.requires.sound c.requires.inside c.requires.stands) in
    let there = simp length-map at inside in
    omega (arith, ap length c.deref.ensures.value, there)

pub slice_bounds-frame-count : goal.slice_bounds-frame-count
slice_bounds-frame-count g c =
    (lent_within (spotted_own c.requires.sound c.requires.inside c.requires.stands) c.in-Some.bytes.now (rw c.deref.ensures.value at c.in-Some.ensures)).0

pub slice_bounds-frame-start : goal.slice_bounds-frame-start
slice_bounds-frame-start g c =
    (lent_within (spotted_own c.requires.sound c.requires.inside c.requires.stands) c.in-Some.bytes.now (rw c.deref.ensures.value at c.in-Some.ensures)).0

pub slice_bounds-frame-end-2 : goal.slice_bounds-frame-end-2
slice_bounds-frame-end-2 g c =
    let within = (lent_within (spotted_own c.requires.sound c.requires.inside c.requires.stands) c.in-Some.bytes.now
    (rw c.deref.ensures.value at c.in-Some.ensures)).1 in
    rw (rest_all c.args.spot.from c.in-Some.bytes.now) (sym (length-take-le c.args.spot.len (drop c.args.spot.from c.in-Some.bytes.now) within))

pub learn-requires : goal.learn-requires
learn-requires g c =
    let bytes = c.in-Some.bytes.now in
    let frame = take c.args.spot.len (drop c.args.spot.from bytes) in
    let w = looked_through [] frame _ c.in-Ok.known.items c.requires.sound c.requires.inside c.requires.stands refl
    (lent_frame _ bytes frame c.args.spot.from c.args.spot.len (rw c.deref.ensures.value at c.in-Some.ensures) refl)
    (ap (take c.args.spot.len) (rest_all c.args.spot.from bytes)) c.in-Ok.ensures in
    w.told ∙ spot_starts w.spotted
    ∙ ap (λ l. l.starts) (sym (line_is c.requires.inside c.requires.stands c.index_mut.result.now c.index_mut.ensures.value))

pub unreachable-requires : goal.unreachable-requires
unreachable-requires g c =
    let s = spotted_own c.requires.sound c.requires.inside c.requires.stands in
    let bytes = c.in-Some.bytes.now in
    let frame = take c.args.spot.len (drop c.args.spot.from bytes) in
    let read = spot_bytes s [] frame refl (lent_frame _ bytes frame c.args.spot.from c.args.spot.len (rw c.deref.ensures.value at c.in-Some.ensures) refl) in
    not_bad c.in-Err-BadBytes.field-0 (starts_of c.args.spot.version s.boxed.frame) c.in-Err-BadBytes.field-0-is
    (spot_law (λ f. Says c.in-Err-BadBytes.field-0 (Some (starts_of c.args.spot.version f))) s _ c.requires.sound
    (ap (take c.args.spot.len) (rest_all c.args.spot.from bytes) ∙ read) c.in-Err-BadBytes.ensures)
