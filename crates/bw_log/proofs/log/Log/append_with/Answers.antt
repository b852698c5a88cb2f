use Rattle.std.proofs.Common.{◌≤◌, ◌+◌, ◌/◌, ap, refl, length, vec_len, arith, rules}
use Rattle.std.specs.Vec.{vec_capacity}
use Rattle.std.proofs.lemmas.Result.{err_from_is_err_and}
use Rattle.bw_log.proofs.Whole.{starts_of, beginnable_of, room_made, takes_there, tables_there, begin_ends_at, put_ends, refused_ends}
use Rattle.bw_log.proofs.log.Log.append_with.Goals as goal

pub make_room-requires-clause-asks : goal.make_room-requires-clause-asks
make_room-requires-clause-asks g c =
    let size = ap length c.bytes.ensures.value in
    let st = starts_of _ _ _ _ _ c.requires.sound c.requires.follows c.in_ok-ready.ensures.same size c.in_ok-ready.ensures.ready.granted in
    λ w. beginnable_of _ _ _ _ _ st c.in_ok-ready.ensures.same size w

pub returns-in_err-ready-clause-leaves : goal.returns-in_err-ready-clause-leaves
returns-in_err-ready-clause-leaves g c =
    let p = err_from_is_err_and c.from_residual.result c.from_residual.ensures.1 in
    rw (p.1, p.2) (refused_ends _ _ _ _ _ _ c.in_err-ready.ensures.sound c.in_err-ready.ensures.same (ap length c.bytes.ensures.value)
    c.in_err-ready.ensures.checks)

pub returns-in_err-make_room-clause-leaves : goal.returns-in_err-make_room-clause-leaves
returns-in_err-make_room-clause-leaves g c =
    let p = err_from_is_err_and c.from_residual-in_err-make_room.result c.from_residual-in_err-make_room.ensures.1 in
    let size = ap length c.bytes.ensures.value in
    let st = starts_of _ _ _ _ _ c.requires.sound c.requires.follows c.in_ok-ready.ensures.same size c.in_ok-ready.ensures.ready.granted in
    rw (p.1, p.2) (begin_ends_at _ _ _ _ _ _ _ st c.in_ok-ready.ensures.same size c.in_err-make_room.ensures.outcome)

pub put-requires : goal.put-requires
put-requires g c =
    let size = ap length c.bytes.ensures.value in
    let m = room_made _ _ _ _ _ _ c.requires.sound c.requires.follows c.in_ok-ready.ensures.same size c.in_ok-ready.ensures.ready.granted
    c.in_ok-make_room.ensures.outcome in
    let takes = takes_there _ c.make_room.new.self.live.items _ _ _ _ m.0 m.1 refl in
    let tables = tables_there _ _ _ _ m.0 m.1 in
    let few = tables.few in
    let ready = c.in_ok-ready.ensures.ready.pages in
    let there : vec_len c.make_room.new.self.pages + length c.bytes.result.now / 8 ≤ vec_capacity c.make_room.new.self.pages =
    rw c.in_ok-make_room.ensures.pages ready in
    record {
      sealed = search rules;
      some = takes.3;
      fits = takes.0;
      countable = takes.1;
      number = takes.2;
      short = search rules;
      frames = search rules;
      pages = omega (arith, size, there, few);
      lines = tables.lines;
    }

pub returns-clause-leaves : goal.returns-clause-leaves
returns-clause-leaves g c =
    let m = room_made _ _ _ _ _ _ c.requires.sound c.requires.follows c.in_ok-ready.ensures.same (ap length c.bytes.ensures.value)
    c.in_ok-ready.ensures.ready.granted c.in_ok-make_room.ensures.outcome in
    put_ends _ _ _ _ _ c.put.result m.0 m.1 c.put.ensures.outcome
