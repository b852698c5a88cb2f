-- What fits where records join a block.

use Rattle.std.proofs.Common.{◌≡◌, ◌∙◌, ℕ, zero, suc, ◌+◌, ◌^◌, ◌<◌, ◌≤◌, Bool, Option, Some, None, List, [], ◌∷◌, ◌++◌, length, get_or, refl, sym}
use Rattle.std.proofs.Common.{ap, subst, arith, length-append}
use Rattle.std.specs.List.{AllByRecursion as All, flat_map}
use Rattle.std.specs.Prelude.{is_some, nat_le, if◌then◌else◌}
use Rattle.std.specs.Vec.{vec_len, vec_capacity}
use Rattle.std.proofs.lemmas.Grind.{flat_map-append}
use Rattle.bw_codec.specs.Grammar.{op_bytes, block_bytes, body_bytes, IsBlock}
use Rattle.bw_record.specs.declared.record.Record.{Record}
use Rattle.bw_record.specs.declared.block.Place.{Place}
use Rattle.bw_record.specs.declared.block.Block.{Block}
use Rattle.bw_record.specs.declared.block.Block.TheVariants.{Delta}
use Rattle.bw_codec.proofs.Lengths.{length-delta}
use Rattle.bw_buffer.specs.Filling.{Filling, size_of, with_all}
use Rattle.bw_buffer.specs.Joining.{last_delta, open_records, takes, joins_of}
use Rattle.bw_buffer.specs.Index.{index_at}
use Rattle.bw_buffer.specs.Rows.{AreRows, IsRow, bytes_at}
use Rattle.bw_buffer.specs.Laid.{blocks_of, parts_of, filling_of, IsLaid}
use Rattle.bw_buffer.specs.declared.buffer.Buffer.TheInside.{Inside}
use Rattle.bw_buffer.specs.declared.rows.Row.{Row}
use Rattle.bw_buffer.proofs.Joined.{StandsOpen, found, joins_parts, records_stand}
use Rattle.bw_buffer.proofs.Pieces.{rows_count}
use Rattle.bw_buffer.proofs.Holding.{size_is}
use Rattle.bw_buffer.proofs.Growing.{ops_some, room_pieces, room_arena}
use Rattle.bw_buffer.proofs.Sizes.{joined_size_at, last_some}

pub record Room (a : Inside) (at : ℕ) (ops : List Record) : Type 0 where
  pub fits : a.size + length (flat_map op_bytes ops) ≤ a.limit
  pub row : at < vec_len a.rows
  pub pieces : vec_len a.pieces < vec_capacity a.pieces
  pub arena : vec_len a.arena + length (flat_map op_bytes ops) ≤ vec_capacity a.arena
  pub few : (row : Row) → row ≡ get_or a.rows.items at row → (row.ops + length ops < 2 ^ 32) × (row.len + length (flat_map op_bytes ops) < 2 ^ 32)

-- the row at an index is the block's there
row_at : (i k : ℕ) (rows : List Row) (ps : List (ℕ × List ℕ)) (before behind : List Block) (b : Block) (row : Row) → length before ≡ k
    → row ≡ get_or rows k row → AreRows i rows ps (before ++ b ∷ behind) → (bytes : List ℕ) × IsRow row bytes b
row_at i k [] ps [] behind b row at is h = absurd h
row_at i k [] ps (x ∷ xs) behind b row at is h = absurd h
row_at i zero (r ∷ rs) ps [] behind b row at is h = (bytes_at i ps, subst (λ (y : Row). IsRow y (bytes_at i ps) b) (sym is) h.0)
row_at i (suc k) (r ∷ rs) ps [] behind b row at is h = absurd (omega arith)
row_at i zero (r ∷ rs) ps (x ∷ xs) behind b row at is h = absurd (omega arith)
row_at i (suc k) (r ∷ rs) ps (x ∷ xs) behind b row at is h = row_at (suc i) k rs ps xs behind b row (omega arith) is h.1

pub joins_room : (a : Inside) (f : Filling) (page at : ℕ) (back : Place) (ops : List Record) → IsLaid a → filling_of a ≡ f
    → joins_of (length ops) page f.blocks ≡ Some at
    → size_of (with_all f (Delta page back ops ∷ [])) ≤ f.limit → IsBlock 32 (Delta page back ops) → Room a at ops
joins_room a f page at back ops h view js fits lawful =
    let there : joins_of (length ops) page (blocks_of a) ≡ Some at = ap (λ (x : Filling). joins_of (length ops) page x.blocks) view ∙ js in
    let size = size_is a f h view in
    let limit : a.limit ≡ f.limit = ap (λ (x : Filling). x.limit) view in
    let grown = joined_size_at f.blocks page back ops at js in
    let within : a.size + length (flat_map op_bytes ops) ≤ a.limit = omega arith in
    let three : 3 ≤ length (flat_map op_bytes ops) = (let o = ops_some ops lawful.each in let n = lawful.count.0 in omega arith) in
    let s : StandsOpen page at (blocks_of a) = found page (blocks_of a) at (joins_parts (length ops) page at (blocks_of a) there).0 in
    let count = rows_count 0 a.rows.items (parts_of a) (blocks_of a) h.rows in
    let long : length (blocks_of a) ≡ length s.before + suc (length s.behind) = ap (λ (l : List Block). length l) s.split
    ∙ length-append s.before (Delta page s.back s.was ∷ s.behind) in
    let index = s.index in
    let top = h.limited.1 in
    let held = h.fits in
    record {
      fits = within;
      row = omega arith;
      pieces = (let r = room_pieces a (length (flat_map op_bytes ops)) h three within in omega arith);
      arena = (let r = room_arena a (length (flat_map op_bytes ops)) h within in omega arith);
      few = λ row is. (
          let x = row_at 0 at a.rows.items (parts_of a) s.before s.behind (Delta page s.back s.was) row s.index is
          (subst (λ (l : List Block). AreRows 0 a.rows.items (parts_of a) l) s.split h.rows) in
          let n = x.1.2 in
          let l = x.1.3 in
          let b = ap (λ (l : List ℕ). length l) x.1.4 in
          let body = ap (λ (l : List Block). length (body_bytes l)) s.split
          ∙ ap (λ (l : List ℕ). length l) (flat_map-append block_bytes s.before (Delta page s.back s.was ∷ s.behind))
          ∙ length-append (body_bytes s.before) (block_bytes (Delta page s.back s.was) ++ body_bytes s.behind) in
          let rest = length-append (block_bytes (Delta page s.back s.was)) (body_bytes s.behind) in
          let d = length-delta page s.back s.was in
          let each = middle s.before (Delta page s.back s.was) s.behind (subst (All (IsBlock 32)) s.split h.lawful) in
          let o = ops_some ops lawful.each in
          let c = each.count.1 in
          let z = h.size in
          (omega arith, omega arith));
    }
  where
    middle : (xs : List Block) (y : Block) (ys : List Block) → All (IsBlock 32) (xs ++ y ∷ ys) → IsBlock 32 y
    middle [] y ys h = h.0
    middle (x ∷ xs) y ys h = middle xs y ys h.1

-- ---- what the map says

pub record Told (a : Inside) (page at : ℕ) : Type 0 where
  pub inside : at < vec_len a.rows
  pub last : last_delta page (blocks_of a) ≡ Some at
  pub records : (row : Row) → row ≡ get_or a.rows.items at row → open_records page (blocks_of a) ≡ Some row.ops

pub told_some : (a : Inside) (page at : ℕ) → IsLaid a → Some at ≡ index_at a.deltas page → Told a page at
told_some a page at h e =
    let last : last_delta page (blocks_of a) ≡ Some at = sym (h.told page) ∙ sym e in
    let s : StandsOpen page at (blocks_of a) = found page (blocks_of a) at last in
    let count = rows_count 0 a.rows.items (parts_of a) (blocks_of a) h.rows in
    let long : length (blocks_of a) ≡ length s.before + suc (length s.behind) = ap (λ (l : List Block). length l) s.split
    ∙ length-append s.before (Delta page s.back s.was ∷ s.behind) in
    let index = s.index in
    record {
      inside = omega arith;
      last = last;
      records = λ row is. (
          let x = row_at 0 at a.rows.items (parts_of a) s.before s.behind (Delta page s.back s.was) row s.index is
          (subst (λ (l : List Block). AreRows 0 a.rows.items (parts_of a) l) s.split h.rows) in
          records_stand page at (blocks_of a) s ∙ ap Some (sym x.1.2));
    }

no_records : (last records : Option ℕ) → is_some last ≡ is_some records → last ≡ None → records ≡ None
no_records last None same none = refl
no_records last (Some n) same none = absurd (let e = ap is_some none in cc)

pub told_none : (a : Inside) (page : ℕ) → IsLaid a → None ≡ index_at a.deltas page → open_records page (blocks_of a) ≡ None
told_none a page h e =
    no_records (last_delta page (blocks_of a)) (open_records page (blocks_of a)) (last_some page 0 None None (blocks_of a) refl) (sym (h.told page) ∙ sym e)

-- which block is joined
pub joins_told : (a : Inside) (page at n : ℕ) (row : Row) (t : Bool) → IsLaid a → Some at ≡ index_at a.deltas page → row ≡ get_or a.rows.items at row
    → t ≡ nat_le (row.ops + n) 65535 → joins_of n page (blocks_of a) ≡ (if t then Some at else None)
joins_told a page at n row t h e is test =
    let x : Told a page at = told_some a page at h e in
    ap (λ (o : Option ℕ). if takes n o then last_delta page (blocks_of a) else None) (x.records row is)
    ∙ ap (λ (b : Bool). if b then last_delta page (blocks_of a) else None) (sym test)
    ∙ ap (λ (o : Option ℕ). if t then o else None) x.last
