use Rattle.std.proofs.Common.{◌∙◌, true, ap, refl}
use Rattle.bw_buffer.specs.Filling.{Filling}
use Rattle.bw_buffer.specs.Laid.{blocks_of, parts_of, Holds}
use Rattle.bw_buffer.specs.declared.buffer.Buffer.TheInside.{Inside}
use Rattle.bw_buffer.proofs.Holding.{filled}
use Rattle.bw_buffer.proofs.Sealing.{measured, body_size, spots_enough, laid_out}
use Rattle.bw_buffer.proofs.Growing.{few_rows_now}
use Rattle.bw_buffer.proofs.buffer.Buffer.seal.Goals as goal
use Rattle.bw_buffer.proofs.buffer.Buffer.seal.Goals.{After-lay_out}

pub lay_out-requires-clause-measured : goal.lay_out-requires-clause-measured
lay_out-requires-clause-measured c =
    rw (c.as_slice.ensures.value, c.as_slice-2.ensures.value, c.as_slice-3.ensures.value)
    (measured 0 c.self.inside.rows.items (parts_of c.self.inside) (blocks_of c.self.inside) c.self.invariant.lawful c.self.invariant.rows)

pub lay_out-requires-clause-within : goal.lay_out-requires-clause-within
lay_out-requires-clause-within c = rw (c.as_slice.ensures.value, c.as_slice-2.ensures.value) c.self.invariant.within

pub lay_out-requires-clause-size : goal.lay_out-requires-clause-size
lay_out-requires-clause-size c = rw (c.as_slice.ensures.value, c.as_slice-2.ensures.value, c.as_slice-3.ensures.value)
    (body_size c.self.inside c.self.invariant)

pub lay_out-requires-clause-spots : goal.lay_out-requires-clause-spots
lay_out-requires-clause-spots c = rw c.as_slice.ensures.value (spots_enough c.self.inside c.self.invariant)

abbrev fields : After-lay_out → Inside
fields c = record {
  frame = c.self.inside.frame;
  limit = c.self.inside.limit;
  size = c.self.inside.size;
  is_sealed = true;
  rows = c.self.inside.rows;
  pieces = c.self.inside.pieces;
  arena = c.self.inside.arena;
  deltas = c.self.inside.deltas;
  spots = c.lay_out.new.spots;
  bytes = c.lay_out.new.bytes;
}

now_holds : (c : After-lay_out) → Holds (fields c) (blocks_of c.self.inside)
now_holds c =
    laid_out c.self.inside c.lay_out.new.spots c.lay_out.new.bytes c.self.invariant c.lay_out.ensures.spots c.lay_out.ensures.capacity
    (c.lay_out.ensures.bytes ∙ rw (c.as_slice.ensures.value, c.as_slice-2.ensures.value, c.as_slice-3.ensures.value) refl)

pub invariant_of-self : goal.invariant_of-self
invariant_of-self c = filled (fields c) (blocks_of c.self.inside) (now_holds c)

pub returns : goal.returns
returns c = ap (λ (f : Filling). let g : Filling = record f { is_sealed = true } in g) c.self.view_is

pub lay_out-requires-clause-few : goal.lay_out-requires-clause-few
lay_out-requires-clause-few c = rw c.as_slice.ensures.value (few_rows_now c.self.inside c.self.invariant)
