use Rattle.std.proofs.Common.{◌∙◌, ◌+◌, ◌∷◌, ℕ, [], length, refl, ap, arith}
use Rattle.std.specs.List.{flat_map}
use Rattle.bw_codec.specs.Grammar.{op_bytes}
use Rattle.bw_record.specs.declared.block.Block.TheVariants.{Delta}
use Rattle.bw_buffer.specs.Filling.{Filling, with_all}
use Rattle.bw_buffer.specs.Joining.{joins_of, joined}
use Rattle.bw_buffer.specs.Laid.{blocks_of, Holds}
use Rattle.bw_buffer.specs.declared.rows.Row.{Row}
use Rattle.bw_buffer.specs.declared.rows.Piece.{Piece}
use Rattle.bw_buffer.specs.declared.buffer.Buffer.TheInside.{Inside}
use Rattle.bw_buffer.proofs.Holding.{filled, seen, got}
use Rattle.bw_buffer.proofs.Growing.{lengthened, stays}
use Rattle.bw_buffer.proofs.buffer.Buffer.join.Goals as goal
use Rattle.bw_buffer.proofs.buffer.Buffer.join.Goals.{After-self-2-1}
use Rattle.bw_buffer.proofs.Joining.{joins_room}

pub index-row-requires : goal.index-row-requires
index-row-requires c = (joins_room c.self.inside c.args.self.now c.args.page c.args.at c.args.back.now c.args.ops.now c.self.invariant c.self.view_is
    c.requires.joins c.requires.fits c.requires.lawful).row

pub index_mut-requires : goal.index_mut-requires
index_mut-requires c = (joins_room c.self.inside c.args.self.now c.args.page c.args.at c.args.back.now c.args.ops.now c.self.invariant c.self.view_is
    c.requires.joins c.requires.fits c.requires.lawful).row

pub overflow_add-row : goal.overflow_add-row
overflow_add-row c =
    let r = joins_room c.self.inside c.args.self.now c.args.page c.args.at c.args.back.now c.args.ops.now c.self.invariant c.self.view_is
    c.requires.joins c.requires.fits c.requires.lawful in
    let f = r.few c.index-row.result.now c.index-row.ensures in record { fits = (let x = f.0 in omega arith) }

pub overflow_add-row-2 : goal.overflow_add-row-2
overflow_add-row-2 c =
    let r = joins_room c.self.inside c.args.self.now c.args.page c.args.at c.args.back.now c.args.ops.now c.self.invariant c.self.view_is
    c.requires.joins c.requires.fits c.requires.lawful in
    let f = r.few c.index-row.result.now c.index-row.ensures in record { fits = (let x = f.1 in omega (arith, c.ops_length-more.ensures.value)) }

pub push_reserved-requires : goal.push_reserved-requires
push_reserved-requires c = (joins_room c.self.inside c.args.self.now c.args.page c.args.at c.args.back.now c.args.ops.now c.self.invariant
    c.self.view_is c.requires.joins c.requires.fits c.requires.lawful).pieces

pub write_ops-requires : goal.write_ops-requires
write_ops-requires c = (joins_room c.self.inside c.args.self.now c.args.page c.args.at c.args.back.now c.args.ops.now c.self.invariant c.self.view_is
    c.requires.joins c.requires.fits c.requires.lawful).arena

abbrev row : After-self-2-1 → Row
row c = c.index-row.result.now

abbrev piece : After-self-2-1 → Piece
piece c = record { block = c.args.at; len = c.ops_length-more.result }

abbrev fields : After-self-2-1 → Inside
fields c = record c.self.inside {
  size = c.self.inside.size + c.ops_length-more.result;
  rows = Rattle.std.specs.Vec.with_item c.self.inside.rows c.args.at
      record { mark = (row c).mark; back = (row c).back; ops = (row c).ops + length c.args.ops.now; len = (row c).len + c.ops_length-more.result };
  pieces = c.push_reserved.new.self;
  arena = c.write_ops.new.out;
}

now_holds : (c : After-self-2-1) → Holds (fields c) (joined (blocks_of c.self.inside) (Delta c.args.page c.args.back.now c.args.ops.now))
now_holds c =
    let a = c.self.inside in
    let r = joins_room a c.args.self.now c.args.page c.args.at c.args.back.now c.args.ops.now c.self.invariant c.self.view_is c.requires.joins
    c.requires.fits c.requires.lawful in
    let fits = r.fits in
    let len = c.ops_length-more.ensures.value in
    lengthened a (fields c) c.args.page c.args.at c.args.back.now c.args.ops.now (flat_map op_bytes c.args.ops.now) (row c) (piece c) (record {
      was = c.self.invariant;
      unsealed = ap (λ (f : Filling). f.is_sealed) c.self.view_is ∙ c.requires.unsealed;
      some = c.requires.lawful.count.0;
      lawful = c.requires.lawful.each;
      joins = ap (λ (f : Filling). joins_of (length c.args.ops.now) c.args.page f.blocks) c.self.view_is ∙ c.requires.joins;
      fits = fits;
      stays = stays a (fields c) refl;
      size = omega (arith, len);
      stands = got a.rows.items c.args.at (row c) (let x = r.row in omega arith) c.index-row.ensures;
      rows = ap (λ (n : ℕ). Rattle.std.specs.Prelude.slice_set a.rows.items c.args.at
          (let x : Row = record { mark = (row c).mark; back = (row c).back; ops = (row c).ops + length c.args.ops.now; len = (row c).len + n } in x)) len;
      pieces = c.push_reserved.ensures.items;
      arena = c.write_ops.ensures.items;
      spelled = refl;
      piece = (refl, len);
      deltas = refl;
      rows_room = refl;
      pieces_room = c.push_reserved.ensures.capacity;
      arena_room = c.write_ops.ensures.capacity;
    })

pub invariant_of-self : goal.invariant_of-self
invariant_of-self c = filled (fields c) (joined (blocks_of c.self.inside) (Delta c.args.page c.args.back.now c.args.ops.now)) (now_holds c)

pub returns : goal.returns
returns c =
    seen (fields c) (joined (blocks_of c.self.inside) (Delta c.args.page c.args.back.now c.args.ops.now)) (now_holds c)
    ∙ ap (λ (f : Filling). with_all f (Delta c.args.page c.args.back.now c.args.ops.now ∷ [])) c.self.view_is
