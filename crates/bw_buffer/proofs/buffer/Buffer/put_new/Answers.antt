use Rattle.std.proofs.Common.{◌≡◌, ◌∙◌, ◌+◌, ◌∷◌, ◌++◌, ℕ, List, [], Some, length, refl, sym, ap, arith, if◌then◌else◌}
use Rattle.std.specs.Prelude.{◌==◌}
use Rattle.std.specs.List.{flat_map}
use Rattle.bw_codec.specs.Grammar.{op_bytes, block_bytes}
use Rattle.bw_record.specs.declared.block.Block.{Block}
use Rattle.bw_record.specs.declared.block.Block.TheVariants.{Delta}
use Rattle.bw_codec.proofs.Lengths.{length-delta}
use Rattle.bw_buffer.specs.Filling.{Filling}
use Rattle.bw_buffer.specs.Index.{index_at}
use Rattle.bw_buffer.specs.Laid.{blocks_of, Holds}
use Rattle.bw_buffer.specs.declared.mark.Mark.TheVariants.{Changes}
use Rattle.bw_buffer.specs.declared.rows.Row.{Row}
use Rattle.bw_buffer.specs.declared.rows.Piece.{Piece}
use Rattle.bw_buffer.specs.declared.buffer.Buffer.TheInside.{Inside}
use Rattle.bw_buffer.proofs.Holding.{filled, seen, size_is, some_bytes}
use Rattle.bw_buffer.proofs.Joined.{joins_none}
use Rattle.bw_buffer.proofs.Growing.{pushed, room_rows_of, few_rows_now, stays}
use Rattle.bw_buffer.proofs.buffer.Buffer.put_new.Goals as goal
use Rattle.bw_buffer.proofs.buffer.Buffer.put_new.Goals.{After-self-1}

pub overflow_cast-at : goal.overflow_cast-at
overflow_cast-at c = record { fits = (let few = few_rows_now c.self.inside c.self.invariant in omega (arith, ap length c.as_slice.ensures.value)) }

abbrev delta : After-self-1 → Block
delta c = Delta c.args.page c.args.back.now c.args.ops.now

abbrev row : After-self-1 → Row
row c = record { mark = Changes c.args.page; back = c.args.back.now; ops = length c.args.ops.now; len = c.ops_length-len.result }

abbrev piece : After-self-1 → Piece
piece c = record { block = length c.as_slice.result.now; len = c.ops_length-len.result }

abbrev fields : After-self-1 → Inside
fields c = record c.self.inside {
  size = c.self.inside.size + (19 + c.ops_length-len.result);
  rows = c.push_reserved.new.self;
  pieces = c.push_reserved-2.new.self;
  arena = c.write_ops.new.out;
  deltas = c.note.new.index;
}

now_holds : (c : After-self-1) → Holds (fields c) (blocks_of c.self.inside ++ delta c ∷ [])
now_holds c =
    let a = c.self.inside in
    let size = size_is a c.args.self.now c.self.invariant c.self.view_is in
    let limit = ap (λ (f : Filling). f.limit) c.self.view_is in
    let fits = c.requires.fits in
    let long = length-delta c.args.page c.args.back.now c.args.ops.now in
    let count : length c.as_slice.result.now ≡ length a.rows.items = ap length c.as_slice.ensures.value in
    pushed a (fields c) (delta c) (flat_map op_bytes c.args.ops.now) (row c) (piece c) (record {
      was = c.self.invariant;
      unsealed = ap (λ (f : Filling). f.is_sealed) c.self.view_is ∙ c.requires.unsealed;
      lawful = c.requires.lawful;
      fits = omega arith;
      stays = stays a (fields c) refl;
      size = omega (arith, long, c.ops_length-len.ensures.value);
      rows = c.push_reserved.ensures.items;
      pieces = c.push_reserved-2.ensures.items;
      arena = c.write_ops.ensures.items;
      piece = (count, c.ops_length-len.ensures.value);
      row_is = (refl, refl, refl, c.ops_length-len.ensures.value, refl);
      told = λ p. c.note.ensures.value p ∙ ap (λ (n : ℕ). if c.args.page == p then Some n else index_at a.deltas p) count;
      rows_room = c.push_reserved.ensures.capacity;
      pieces_room = c.push_reserved-2.ensures.capacity;
      arena_room = c.write_ops.ensures.capacity;
      deltas_few = c.note.ensures.len;
      deltas_room = c.note.ensures.room;
    })

pub invariant_of-self : goal.invariant_of-self
invariant_of-self c = filled (fields c) (blocks_of c.self.inside ++ delta c ∷ []) (now_holds c)

pub returns : goal.returns
returns c =
    seen (fields c) (blocks_of c.self.inside ++ delta c ∷ []) (now_holds c)
    ∙ ap (λ (f : Filling). let g : Filling = record f { blocks = f.blocks ++ delta c ∷ [] } in g) c.self.view_is
    ∙ ap (λ (bs : List Block). let g : Filling = record c.args.self.now { blocks = bs } in g)
    (sym (joins_none c.args.page c.args.back.now c.args.ops.now c.args.self.now.blocks c.requires.none))

pub push_reserved-requires : goal.push_reserved-requires
push_reserved-requires c =
    let block = Delta c.args.page c.args.back.now c.args.ops.now in
    let room = room_rows_of c.self.inside c.args.self.now c.self.view_is (length (block_bytes block)) c.self.invariant (some_bytes block) c.requires.fits in
    omega arith
