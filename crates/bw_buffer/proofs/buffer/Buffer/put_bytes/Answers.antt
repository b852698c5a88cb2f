use Rattle.std.proofs.Common.{◌≡◌, ◌∙◌, ◌+◌, ◌∷◌, ◌++◌, ℕ, List, [], None, length, refl, sym, ap, arith, if◌then◌else◌}
use Rattle.std.specs.Prelude.{◌==◌}
use Rattle.bw_codec.specs.Grammar.{block_bytes, IsBlock}
use Rattle.bw_record.specs.declared.leaf.Leaf.{Leaf}
use Rattle.bw_record.specs.declared.block.Block.TheVariants.{Base}
use Rattle.bw_buffer.specs.Filling.{Filling}
use Rattle.bw_buffer.specs.Index.{index_at}
use Rattle.bw_buffer.specs.Laid.{blocks_of, Holds}
use Rattle.bw_buffer.specs.declared.rows.Row.{Row}
use Rattle.bw_buffer.specs.declared.rows.Piece.{Piece}
use Rattle.bw_buffer.specs.declared.buffer.Buffer.TheInside.{Inside}
use Rattle.bw_buffer.proofs.Holding.{filled, seen, size_is, some_bytes}
use Rattle.bw_buffer.proofs.Growing.{pushed, room_rows_of, few_rows_now, stays}
use Rattle.bw_buffer.specs.declared.mark.Mark.TheVariants.{Sets}
use Rattle.bw_buffer.proofs.Holding.{same_block}
use Rattle.bw_buffer.proofs.buffer.Buffer.put_bytes.Goals as goal
use Rattle.bw_buffer.proofs.buffer.Buffer.put_bytes.Goals.{After-self-1}

pub overflow_cast-at : goal.overflow_cast-at
overflow_cast-at c = record { fits = (let few = few_rows_now c.self.inside c.self.invariant in omega (arith, ap length c.as_slice.ensures.value)) }

abbrev piece : After-self-1 → Piece
piece c = record { block = length c.as_slice.result.now; len = length c.args.bytes.now }

abbrev fields : After-self-1 → Inside
fields c = record c.self.inside {
  size = c.self.inside.size + length c.args.bytes.now;
  rows = c.push_reserved.new.self;
  pieces = c.push_reserved-2.new.self;
  arena = c.copy_in.new.bytes;
  deltas = c.forget.new.index;
}

now_holds : (c : After-self-1) (leaf : Leaf) → leaf.page ≡ c.args.page → IsBlock 32 (Base leaf) → c.args.bytes.now ≡ block_bytes (Base leaf)
    → Holds (fields c) (blocks_of c.self.inside ++ Base leaf ∷ [])
now_holds c leaf page lawful spelled =
    let a = c.self.inside in
    let size = size_is a c.args.self.now c.self.invariant c.self.view_is in
    let limit = ap (λ (f : Filling). f.limit) c.self.view_is in
    let fits = c.requires.fits in
    let long : length c.args.bytes.now ≡ length (block_bytes (Base leaf)) = ap (λ (l : List ℕ). length l) spelled in
    let count : length c.as_slice.result.now ≡ length a.rows.items = ap length c.as_slice.ensures.value in
    pushed a (fields c) (Base leaf) c.args.bytes.now c.whole_row.result (piece c) (record {
      was = c.self.invariant;
      unsealed = ap (λ (f : Filling). f.is_sealed) c.self.view_is ∙ c.requires.unsealed;
      lawful = lawful;
      fits = omega arith;
      stays = stays a (fields c) refl;
      size = omega (arith, long);
      rows = c.push_reserved.ensures.items;
      pieces = c.push_reserved-2.ensures.items;
      arena = c.copy_in.ensures.items;
      piece = (count, refl);
      row_is = (ap (λ (x : Row). x.mark) c.whole_row.ensures ∙ ap (λ (n : ℕ). Sets n) (sym page), ap (λ (x : Row). x.len) c.whole_row.ensures, spelled);
      told = λ p. c.forget.ensures.value p ∙ ap (λ (n : ℕ). if n == p then None else index_at a.deltas p) (sym page);
      rows_room = c.push_reserved.ensures.capacity;
      pieces_room = c.push_reserved-2.ensures.capacity;
      arena_room = c.copy_in.ensures.capacity;
      deltas_few = omega (arith, c.forget.ensures.len);
      deltas_room = omega (arith, c.forget.ensures.len, c.forget.ensures.room);
    })

pub invariant_of-self : goal.invariant_of-self
invariant_of-self c =
    filled (fields c) (blocks_of c.self.inside ++ Base c.requires.spells.0 ∷ [])
    (now_holds c c.requires.spells.0 c.requires.spells.1 c.requires.spells.2 c.requires.spells.3)

pub returns : goal.returns
returns c leaf lawful spelled =
    let same : Base c.requires.spells.0 ≡ Base leaf = same_block (Base c.requires.spells.0) (Base leaf) c.requires.spells.2 lawful
    (sym c.requires.spells.3 ∙ spelled) in
    let one : c.requires.spells.0 ≡ leaf = cc in
    let page : leaf.page ≡ c.args.page = ap (λ (l : Leaf). l.page) (sym one) ∙ c.requires.spells.1 in
    seen (fields c) (blocks_of c.self.inside ++ Base leaf ∷ []) (now_holds c leaf page lawful spelled)
    ∙ ap (λ (f : Filling). let g : Filling = record f { blocks = f.blocks ++ Base leaf ∷ [] } in g) c.self.view_is

pub push_reserved-requires : goal.push_reserved-requires
push_reserved-requires c =
    let a = c.self.inside in
    let some = some_bytes (Base c.requires.spells.0) in
    let long = ap (λ (l : List ℕ). length l) c.requires.spells.3 in
    let room = room_rows_of a c.args.self.now c.self.view_is (length c.args.bytes.now) c.self.invariant (omega arith) c.requires.fits in
    omega arith
