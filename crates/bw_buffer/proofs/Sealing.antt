-- A buffer whose frame is laid out.

use Rattle.std.proofs.Common.{◌≡◌, ◌∙◌, ℕ, suc, ◌+◌, ◌-◌, ◌≤◌, true, List, [], ◌∷◌, ◌++◌, length, sym, ap, subst, arith}
use Rattle.std.specs.List.{AllByRecursion as All}
use Rattle.std.specs.Vec.{vec_capacity}
use Rattle.std.specs.declared.vec.Vec.{Vec}
use Rattle.std.specs.declared.alloc.Global.{Global}
use Rattle.bw_codec.specs.Grammar.{body_bytes, head_bytes, IsBlock}
use Rattle.bw_record.specs.declared.block.Block.{Block}
use Rattle.bw_record.specs.declared.block.Block.TheVariants.{Delta, Base, Split}
use Rattle.bw_buffer.specs.Rows.{Parts, bytes_at, IsRow, AreRows, IsFewBy, AreMeasured}
use Rattle.bw_buffer.specs.Laid.{blocks_of, parts_of, body_of, Holds, IsLaid}
use Rattle.bw_buffer.specs.declared.mark.Mark.{Mark}
use Rattle.bw_buffer.specs.declared.rows.Row.{Row}
use Rattle.bw_buffer.specs.declared.buffer.Buffer.TheInside.{Inside}
use Rattle.bw_buffer.proofs.Pieces.{rows_spelled, rows_count}
use Rattle.bw_buffer.proofs.Holding.{few_blocks}

pub row_measured : (row : Row) (bytes : List ℕ) (b : Block) → IsBlock 32 b → IsRow row bytes b → (row.len ≡ length bytes) × IsFewBy row.mark row.ops
row_measured row bytes (Delta page back ops) law h = (
  h.3,
  subst (λ (m : Mark). IsFewBy m row.ops) (sym h.0)
      (let c = law.count.1 in let e = h.2 in omega arith),
)
row_measured row bytes (Base leaf) law h = (h.1, subst (λ (m : Mark). IsFewBy m row.ops) (sym h.0) tt)
row_measured row bytes (Split page back upper) law h = (h.1, subst (λ (m : Mark). IsFewBy m row.ops) (sym h.0) tt)

pub measured : (i : ℕ) (rows : List Row) (ps : Parts) (bs : List Block) → All (IsBlock 32) bs → AreRows i rows ps bs → AreMeasured i rows ps
measured i [] ps [] law h = tt
measured i [] ps (b ∷ bs) law h = absurd h
measured i (r ∷ rs) ps [] law h = absurd h
measured i (r ∷ rs) ps (b ∷ bs) law h = (let one = row_measured r (bytes_at i ps) b law.0 h.0 in (one.0, one.1, measured (suc i) rs ps bs law.1 h.1))

pub body_size : (a : Inside) → IsLaid a → a.size ≡ 20 + length (body_of a)
body_size a h = h.size ∙ ap (λ (l : List ℕ). 20 + length l) (sym (rows_spelled 0 a.rows.items (parts_of a) (blocks_of a) h.rows))

pub spots_enough : (a : Inside) → IsLaid a → length a.rows.items ≤ vec_capacity a.spots
spots_enough a h =
    (let n = rows_count 0 a.rows.items (parts_of a) (blocks_of a) h.rows in let f = few_blocks (blocks_of a) in let s = h.size in let l = h.fits in
    let r = h.spots_room in omega arith)

pub laid_out : (a : Inside) (spots bytes : Vec ℕ Global) → IsLaid a → vec_capacity a.spots ≤ vec_capacity spots → vec_capacity a.bytes ≤ vec_capacity bytes
    → bytes.items ≡ head_bytes a.frame (a.size - 20) (length a.rows.items) ++ body_of a
    → Holds (record a { is_sealed = true; spots = spots; bytes = bytes }) (blocks_of a)
laid_out a spots bytes h spots_room bytes_room is = record {
  rows = h.rows;
  within = h.within;
  parted = h.parted;
  size = h.size;
  lawful = h.lawful;
  told = h.told;
  numbered = h.numbered;
  fits = h.fits;
  limited = h.limited;
  sealed = λ e. (
      let body = rows_spelled 0 a.rows.items (parts_of a) (blocks_of a) h.rows in
      let long : a.size - 20 ≡ length (body_bytes (blocks_of a)) = (let s = h.size in omega arith) in
      is ∙ ap (λ (l : List ℕ). head_bytes a.frame (a.size - 20) (length a.rows.items) ++ l) body
      ∙ ap (λ (n : ℕ). head_bytes a.frame n (length a.rows.items) ++ body_bytes (blocks_of a)) long
      ∙ ap (λ (n : ℕ). head_bytes a.frame (length (body_bytes (blocks_of a))) n ++ body_bytes (blocks_of a))
      (rows_count 0 a.rows.items (parts_of a) (blocks_of a) h.rows));
  rows_room = h.rows_room;
  pieces_few = h.pieces_few;
  pieces_room = h.pieces_room;
  arena_few = h.arena_few;
  arena_room = h.arena_room;
  deltas_few = h.deltas_few;
  deltas_room = h.deltas_room;
  spots_room = (let r = h.spots_room in omega arith);
  bytes_room = (let r = h.bytes_room in omega arith);
}
