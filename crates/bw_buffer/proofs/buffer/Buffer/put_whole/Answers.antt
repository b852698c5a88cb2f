use Rattle.std.proofs.Common.{◌≡◌, ◌∙◌, ◌+◌, ◌∷◌, ◌++◌, ℕ, List, [], None, Option, false, length, refl, ap, arith, if◌then◌else◌}
use Rattle.bw_codec.specs.Grammar.{block_bytes}
use Rattle.bw_record.specs.declared.block.Block.{Block}
use Rattle.bw_record.specs.declared.block.Block.TheVariants.{Delta, Base, Split}
use Rattle.bw_buffer.specs.Filling.{Filling}
use Rattle.bw_buffer.specs.Joining.{joined, is_delta, open_after}
use Rattle.bw_buffer.specs.Index.{index_at}
use Rattle.bw_buffer.specs.Marks.{mark_of, is_closed_by}
use Rattle.bw_buffer.specs.Rows.{IsRow}
use Rattle.bw_buffer.specs.Laid.{blocks_of, Holds}
use Rattle.bw_buffer.specs.declared.rows.Row.{Row}
use Rattle.bw_buffer.specs.declared.rows.Piece.{Piece}
use Rattle.bw_buffer.specs.declared.buffer.Buffer.TheInside.{Inside}
use Rattle.bw_buffer.proofs.Holding.{filled, seen, size_is, some_bytes}
use Rattle.bw_buffer.proofs.Growing.{pushed, room_rows_of, few_rows_now, stays}
use Rattle.bw_buffer.proofs.buffer.Buffer.put_whole.Goals as goal
use Rattle.bw_buffer.proofs.buffer.Buffer.put_whole.Goals.{After-self-1}

pub overflow_cast-at : goal.overflow_cast-at
overflow_cast-at c = record { fits = (let few = few_rows_now c.self.inside c.self.invariant in omega (arith, ap length c.as_slice.ensures.value)) }

abbrev piece : After-self-1 → Piece
piece c = record { block = length c.as_slice.result.now; len = c.block_length-len.result }

abbrev fields : After-self-1 → Inside
fields c = record c.self.inside {
  size = c.self.inside.size + c.block_length-len.result;
  rows = c.push_reserved.new.self;
  pieces = c.push_reserved-2.new.self;
  arena = c.write_block.new.out;
  deltas = c.close.new.index;
}

whole_row_is : (b : Block) (r : Row) (n : ℕ) → is_delta b ≡ false → r ≡ record { mark = mark_of b; back = record { frame = 0; index = 0 }; ops = 0; len = n }
    → n ≡ length (block_bytes b) → IsRow r (block_bytes b) b
whole_row_is (Delta page back ops) r n whole is len = absurd cc
whole_row_is (Base leaf) r n whole is len = (ap (λ (x : Row). x.mark) is, ap (λ (x : Row). x.len) is ∙ len, refl)
whole_row_is (Split page back upper) r n whole is len = (ap (λ (x : Row). x.mark) is, ap (λ (x : Row). x.len) is ∙ len, refl)

closed_is : (b : Block) (p n : ℕ) (was now : Option ℕ) → is_delta b ≡ false → now ≡ (if is_closed_by p (mark_of b) then None else was)
    → now ≡ open_after p n b was
closed_is (Delta page back ops) p n was now whole e = absurd cc
closed_is (Base leaf) p n was now whole e = e
closed_is (Split page back upper) p n was now whole e = e

whole_joined : (bs : List Block) (b : Block) → is_delta b ≡ false → joined bs b ≡ bs ++ b ∷ []
whole_joined bs (Delta page back ops) whole = absurd cc
whole_joined bs (Base leaf) whole = refl
whole_joined bs (Split page back upper) whole = refl

now_holds : (c : After-self-1) → Holds (fields c) (blocks_of c.self.inside ++ c.args.block.now ∷ [])
now_holds c =
    let a = c.self.inside in
    let size = size_is a c.args.self.now c.self.invariant c.self.view_is in
    let limit = ap (λ (f : Filling). f.limit) c.self.view_is in
    let fits = c.requires.fits in
    let count : length c.as_slice.result.now ≡ length a.rows.items = ap length c.as_slice.ensures.value in
    pushed a (fields c) c.args.block.now (block_bytes c.args.block.now) c.whole_row.result (piece c) (record {
      was = c.self.invariant;
      unsealed = ap (λ (f : Filling). f.is_sealed) c.self.view_is ∙ c.requires.unsealed;
      lawful = c.requires.lawful;
      fits = omega arith;
      stays = stays a (fields c) refl;
      size = omega (arith, c.block_length-len.ensures.value);
      rows = c.push_reserved.ensures.items;
      pieces = c.push_reserved-2.ensures.items;
      arena = c.write_block.ensures.items;
      piece = (count, c.block_length-len.ensures.value);
      row_is = whole_row_is c.args.block.now c.whole_row.result c.block_length-len.result c.requires.whole
          (c.whole_row.ensures ∙ ap (λ m. let r : Row = record
          { mark = m; back = record { frame = 0; index = 0 }; ops = 0; len = c.block_length-len.result } in r) c.of-mark.ensures)
          c.block_length-len.ensures.value;
      told = λ p. closed_is c.args.block.now p (length a.rows.items) (index_at a.deltas p) (index_at c.close.new.index p) c.requires.whole
          (c.close.ensures.value p ∙ ap (λ m. if is_closed_by p m then None else index_at a.deltas p) c.of-mark.ensures);
      rows_room = c.push_reserved.ensures.capacity;
      pieces_room = c.push_reserved-2.ensures.capacity;
      arena_room = c.write_block.ensures.capacity;
      deltas_few = omega (arith, c.close.ensures.len);
      deltas_room = omega (arith, c.close.ensures.len, c.close.ensures.room);
    })

pub invariant_of-self : goal.invariant_of-self
invariant_of-self c = filled (fields c) (blocks_of c.self.inside ++ c.args.block.now ∷ []) (now_holds c)

pub returns : goal.returns
returns c =
    seen (fields c) (blocks_of c.self.inside ++ c.args.block.now ∷ []) (now_holds c)
    ∙ ap (λ (f : Filling). let g : Filling = record f { blocks = f.blocks ++ c.args.block.now ∷ [] } in g) c.self.view_is

pub push_reserved-requires : goal.push_reserved-requires
push_reserved-requires c =
    let room = room_rows_of c.self.inside c.args.self.now c.self.view_is (length (block_bytes c.args.block.now)) c.self.invariant
    (some_bytes c.args.block.now) c.requires.fits in
    omega arith
