use Rattle.std.proofs.Common.{◌∙◌, ap, [], false, refl, subst, arith}
use Rattle.bw_buffer.specs.Filling.{Filling}
use Rattle.bw_buffer.specs.declared.buffer.Buffer.TheInside.{Inside}
use Rattle.bw_buffer.specs.Rows.{IsUntouched}
use Rattle.bw_buffer.specs.Laid.{Holds}
use Rattle.bw_buffer.proofs.Holding.{filled, seen}
use Rattle.bw_buffer.proofs.Beginning.{begun}
use Rattle.bw_buffer.proofs.Closing.{none_open}
use Rattle.bw_buffer.proofs.buffer.Buffer.restart.Goals as goal
use Rattle.bw_buffer.proofs.buffer.Buffer.restart.Goals.{After-clear-3}

abbrev fields : After-clear-3 → Inside
fields c = record {
  frame = c.args.frame;
  limit = c.self.inside.limit;
  size = 20;
  is_sealed = false;
  rows = c.clear.new.self;
  pieces = c.clear-2.new.self;
  arena = c.clear-3.new.self;
  deltas = c.close_all.new.index;
  spots = c.self.inside.spots;
  bytes = c.self.inside.bytes;
}

empty : (c : After-clear-3) → Holds (fields c) []
empty c = begun (fields c) record {
  rows = c.clear.ensures.items;
  pieces = c.clear-2.ensures.items;
  arena = c.clear-3.ensures.items;
  size = refl;
  unsealed = refl;
  told = c.close_all.ensures.none;
  numbered = c.requires.numbered;
  limited = c.self.invariant.limited;
  rows_room = (let r = c.self.invariant.rows_room in omega (arith, c.clear.ensures.capacity));
  pieces_room = (let r = c.self.invariant.pieces_room in omega (arith, c.clear-2.ensures.capacity));
  arena_room = (let r = c.self.invariant.arena_room in omega (arith, c.clear-3.ensures.capacity));
  deltas_few = (let f = c.close_all.ensures.few in let m = c.most_kept.ensures in omega arith);
  deltas_room = (let r = c.self.invariant.deltas_room in let k = c.close_all.ensures.room in omega arith);
  spots_room = c.self.invariant.spots_room;
  bytes_room = c.self.invariant.bytes_room;
}

pub invariant_of-self : goal.invariant_of-self
invariant_of-self c = filled (fields c) [] (empty c)

pub returns : goal.returns
returns c =
    seen (fields c) [] (empty c)
    ∙ ap (λ (f : Filling). let g : Filling = record { frame = c.args.frame; limit = f.limit; blocks = []; is_sealed = false } in g) c.self.view_is

pub close_all-requires : goal.close_all-requires
close_all-requires c = record {
  told = λ q u. none_open c.self.inside q c.self.invariant (subst (IsUntouched q) c.as_slice.ensures.value u);
}
