-- One block more in a buffer's fields: in a row of its own, or joined.

use Rattle.std.proofs.Common.{◌≡◌, ℕ, zero, suc, ◌+◌, ◌*◌, ◌<◌, ◌≤◌, ◌^◌, false, Option, Some, None, List, [], ◌∷◌, ◌++◌, length, set, refl, sym, ap}
use Rattle.std.proofs.Common.{◌∙◌, subst, arith}
use Rattle.std.proofs.Common.{append-nil, length-append, length-set, if◌then◌else◌, true}
use Rattle.std.specs.Prelude.{◌==◌, unwrap_or}
use Rattle.std.proofs.lemmas.Bool.{eqb-true}
use Rattle.std.specs.List.{AllByRecursion as All, flat_map, slice_get}
use Rattle.std.specs.Vec.{vec_capacity}
use Rattle.std.specs.HashMap.{spare, hash_map_len}
use Rattle.bw_buffer.specs.Index.{index_at}
use Rattle.std.proofs.lemmas.Grind.{flat_map-append}
use Rattle.bw_record.specs.Version.{latest}
use Rattle.bw_codec.specs.Bytes.{text, value_bytes}
use Rattle.bw_record.specs.Lawful.{IsOp}
use Rattle.bw_codec.specs.Grammar.{op_bytes, block_bytes, body_bytes, IsBlock}
use Rattle.bw_record.specs.declared.record.Record.{Record}
use Rattle.bw_record.specs.declared.record.Record.TheVariants.{Put, Del}
use Rattle.bw_record.specs.declared.block.Place.{Place}
use Rattle.bw_record.specs.declared.block.Block.{Block}
use Rattle.bw_record.specs.declared.block.Block.TheVariants.{Delta, Base, Split}
use Rattle.bw_codec.proofs.Lengths.{length-delta}
use Rattle.bw_buffer.specs.Joining.{open_after, open_from, last_delta, joins_of, with_ops, ops_added, joined_by, joined}
use Rattle.bw_buffer.specs.Rows.{Parts, parts, pieces_length, bytes_at, AreRows, IsRow}
use Rattle.bw_buffer.specs.Filling.{Filling, size_of}
use Rattle.bw_buffer.specs.Laid.{blocks_of, parts_of, filling_of, Holds, IsLaid}
use Rattle.bw_buffer.specs.declared.buffer.Buffer.TheInside.{Inside}
use Rattle.bw_buffer.specs.declared.rows.Row.{Row}
use Rattle.bw_buffer.specs.declared.rows.Piece.{Piece}
use Rattle.bw_buffer.proofs.Joined.{StandsOpen, JoinsOne, joins_one, joins_parts}
use Rattle.bw_buffer.proofs.Pieces.{parts_more, length_more, rows_more, rows_longer, longer, none_at, rows_count}
use Rattle.bw_buffer.proofs.Holding.{size_is, some_bytes, few_blocks}

all-append : {X : Type 0} (P : X → Type 0) (xs ys : List X) → All P xs → All P ys → All P (xs ++ ys)
all-append P [] ys a b = b
all-append P (x ∷ xs) ys a b = (a.0, all-append P xs ys a.1 b)

all-into : {X : Type 0} (P Q : X → Type 0) (xs : List X) → ((x : X) → P x → Q x) → All P xs → All Q xs
all-into P Q [] f h = tt
all-into P Q (x ∷ xs) f h = (f x h.0, all-into P Q xs f h.1)

-- ---- which block is the last of a page

open_push : (p i : ℕ) (was : Option ℕ) (bs : List Block) (b : Block) → open_from p i was (bs ++ b ∷ []) ≡ open_after p (i + length bs) b (open_from p i was bs)
open_push p i was [] b = ap (λ (n : ℕ). open_after p n b was) (omega arith)
open_push p i was (c ∷ cs) b =
    open_push p (suc i) (open_after p i c was) cs b
    ∙ ap (λ (n : ℕ). open_after p n b (open_from p (suc i) (open_after p i c was) cs)) (omega arith)

pub last_push : (p : ℕ) (bs : List Block) (b : Block) → last_delta p (bs ++ b ∷ []) ≡ open_after p (length bs) b (last_delta p bs)
last_push p bs b = open_push p 0 None bs b ∙ ap (λ (n : ℕ). open_after p n b (last_delta p bs)) (omega arith)

same_open : (p i : ℕ) (ops : List Record) (b : Block) (was : Option ℕ) → open_after p i (with_ops ops b) was ≡ open_after p i b was
same_open p i ops (Delta page back old) was = refl
same_open p i ops (Base leaf) was = refl
same_open p i ops (Split page back upper) was = refl

open_ops : (p i : ℕ) (was : Option ℕ) (k : ℕ) (ops : List Record) (bs : List Block) → open_from p i was (ops_added k ops bs) ≡ open_from p i was bs
open_ops p i was k ops [] = refl
open_ops p i was zero ops (b ∷ bs) = ap (λ (o : Option ℕ). open_from p (suc i) o bs) (same_open p i ops b was)
open_ops p i was (suc k) ops (b ∷ bs) = open_ops p (suc i) (open_after p i b was) k ops bs

pub last_ops : (p k : ℕ) (ops : List Record) (bs : List Block) → last_delta p (ops_added k ops bs) ≡ last_delta p bs
last_ops p k ops bs = open_ops p 0 None k ops bs

-- a Delta that joins or stands after all blocks is the last of its page, and leaves other pages as
-- they were
pub last_joined : (p page : ℕ) (back : Place) (ops : List Record) (bs : List Block)
    → last_delta p (joined bs (Delta page back ops)) ≡ (if page == p then Some (unwrap_or (joins_of (length ops) page bs) (length bs)) else last_delta p bs)
last_joined p page back ops bs =
    (elim (joins_of (length ops) page bs) as (λ o. joins_of (length ops) page bs ≡ o → last_delta p (joined_by o ops (Delta page back ops) bs)
    ≡ (if page == p then Some (unwrap_or o (length bs)) else last_delta p bs)) [
      | None ↦ λ e. last_push p bs (Delta page back ops)
      | Some i ↦ λ e. (
          last_ops p i ops bs
          ∙ elim (page == p) as (λ t. (page == p) ≡ t → last_delta p bs ≡ (if t then Some i else last_delta p bs)) [
            | true ↦ λ same. subst (λ (q : ℕ). last_delta q bs ≡ Some i) (eqb-true page p same) (joins_parts (length ops) page i bs e).0
            | false ↦ λ other. refl
          ] refl)
    ] refl)

-- ---- lengths

op_some : (r : Record) → IsOp r → 3 ≤ length (op_bytes r)
op_some (Put key value) h = (let e = length-append (text key) (value_bytes latest value) in let k = h.0.0 in omega arith)
op_some (Del key) h = (let k = h.0 in omega arith)

pub ops_some : (ops : List Record) → All IsOp ops → 3 * length ops ≤ length (flat_map op_bytes ops)
ops_some [] h = omega arith
ops_some (r ∷ rs) h = (let e = length-append (op_bytes r) (flat_map op_bytes rs) in let a = op_some r h.0 in let b = ops_some rs h.1 in omega arith)

row_short : (row : Row) (bytes : List ℕ) (b : Block) → IsRow row bytes b → length bytes ≤ length (block_bytes b)
row_short row bytes (Delta page back ops) h = (let e = ap (λ (l : List ℕ). length l) h.4 in let d = length-delta page back ops in omega arith)
row_short row bytes (Base leaf) h = (let e = ap (λ (l : List ℕ). length l) h.2 in omega arith)
row_short row bytes (Split page back upper) h = (let e = ap (λ (l : List ℕ). length l) h.2 in omega arith)

-- ---- what stays as it is

pub record Stays (a b : Inside) : Type 0 where
  pub frame : b.frame ≡ a.frame
  pub limit : b.limit ≡ a.limit
  pub sealed : b.is_sealed ≡ a.is_sealed
  pub spots_room : vec_capacity a.spots ≤ vec_capacity b.spots
  pub bytes_room : vec_capacity a.bytes ≤ vec_capacity b.bytes

pub stays : (a b : Inside) → b ≡ record a { size = b.size; rows = b.rows; pieces = b.pieces; arena = b.arena; deltas = b.deltas } → Stays a b
stays a b same = record {
  frame = ap (λ (x : Inside). x.frame) same;
  limit = ap (λ (x : Inside). x.limit) same;
  sealed = ap (λ (x : Inside). x.is_sealed) same;
  spots_room = (let e = ap (λ (x : Inside). vec_capacity x.spots) same in omega arith);
  bytes_room = (let e = ap (λ (x : Inside). vec_capacity x.bytes) same in omega arith);
}

-- ---- a row more

pub record Pushed (a b : Inside) (block : Block) (xs : List ℕ) (row : Row) (q : Piece) : Type 0 where
  pub was : IsLaid a
  pub unsealed : a.is_sealed ≡ false
  pub lawful : IsBlock 32 block
  pub fits : a.size + length (block_bytes block) ≤ a.limit
  pub stays : Stays a b
  pub size : b.size ≡ a.size + length (block_bytes block)
  pub rows : b.rows.items ≡ a.rows.items ++ row ∷ []
  pub pieces : b.pieces.items ≡ a.pieces.items ++ q ∷ []
  pub arena : b.arena.items ≡ a.arena.items ++ xs
  pub piece : (q.block ≡ length a.rows.items) × (q.len ≡ length xs)
  pub row_is : IsRow row xs block
  pub told : (p : ℕ) → index_at b.deltas p ≡ open_after p (length a.rows.items) block (index_at a.deltas p)
  pub rows_room : vec_capacity b.rows ≡ vec_capacity a.rows
  pub pieces_room : vec_capacity b.pieces ≡ vec_capacity a.pieces
  pub arena_room : vec_capacity a.arena ≤ vec_capacity b.arena
  pub deltas_few : hash_map_len b.deltas ≤ hash_map_len a.deltas + 1
  pub deltas_room : hash_map_len a.deltas + spare a.deltas ≤ hash_map_len b.deltas + spare b.deltas

pub pushed : (a b : Inside) (block : Block) (xs : List ℕ) (row : Row) (q : Piece) → Pushed a b block xs row q → Holds b (blocks_of a ++ block ∷ [])
pushed a b block xs row q x =
    let h = x.was in
    let bs = blocks_of a in
    let count : length a.rows.items ≡ length bs = rows_count 0 a.rows.items (parts_of a) bs h.rows in
    let now : parts_of b ≡ parts_of a ++ (q.block, xs) ∷ [] =
    ap (λ (qs : List Piece). parts qs b.arena.items) x.pieces ∙ ap (λ (l : List ℕ). parts (a.pieces.items ++ q ∷ []) l) x.arena
    ∙ parts_more a.pieces.items a.arena.items q xs h.parted x.piece.1 in
    let none : bytes_at q.block (parts_of a) ≡ [] = none_at q.block (length a.rows.items) a.pieces.items a.arena.items
    (let e = x.piece.0 in omega arith) h.within in
    let rows : AreRows 0 (a.rows.items ++ row ∷ []) (parts_of a ++ (q.block, xs) ∷ []) (bs ++ block ∷ []) =
    rows_more 0 a.rows.items (parts_of a) bs row block xs q.block (let e = x.piece.0 in omega arith) none x.row_is h.rows in
    let body : body_bytes (bs ++ block ∷ []) ≡ body_bytes bs ++ (block_bytes block ++ []) = flat_map-append block_bytes bs (block ∷ []) in
    let long : length (body_bytes (bs ++ block ∷ [])) ≡ length (body_bytes bs) + length (block_bytes block) =
    omega (
      arith,
      ap (λ (l : List ℕ). length l) body,
      length-append (body_bytes bs) (block_bytes block ++ []),
      ap (λ (l : List ℕ). length l)
          (append-nil (block_bytes block)),
    ) in
    let some = some_bytes block in
    let longer_rows : length b.rows.items ≡ length a.rows.items + 1 = ap (λ (l : List Row). length l) x.rows ∙ length-append a.rows.items (row ∷ []) in
    let longer_pieces : length b.pieces.items ≡ length a.pieces.items + 1 = ap (λ (l : List Piece). length l) x.pieces
    ∙ length-append a.pieces.items (q ∷ []) in
    let longer_arena : length b.arena.items ≡ length a.arena.items + length xs = ap (λ (l : List ℕ). length l) x.arena ∙ length-append a.arena.items xs in
    let limit = x.stays.limit in
    let size = x.size in
    let fits = x.fits in
    record {
      rows = subst (λ (ps : Parts). AreRows 0 b.rows.items ps (bs ++ block ∷ [])) (sym now)
          (subst (λ (rs : List Row). AreRows 0 rs (parts_of a ++ (q.block, xs) ∷ []) (bs ++ block ∷ [])) (sym x.rows) rows);
      within = subst (λ (qs : List Piece). All (λ y. y.block < length b.rows.items) qs) (sym x.pieces)
          (all-append (λ y. y.block < length b.rows.items) a.pieces.items (q ∷ [])
          (all-into (λ y. y.block < length a.rows.items) (λ y. y.block < length b.rows.items) a.pieces.items (λ y lt. omega arith) h.within)
          ((let e = x.piece.0 in omega arith), tt));
      parted = ap pieces_length x.pieces ∙ length_more a.pieces.items q ∙ (let e = x.piece.1 in let c = h.parted in omega arith);
      size = (let s = h.size in omega arith);
      lawful = all-append (IsBlock 32) bs (block ∷ []) h.lawful (x.lawful, tt);
      told = λ p. x.told p ∙ ap (λ (n : ℕ). open_after p n block (index_at a.deltas p)) count ∙ ap (open_after p (length bs) block) (h.told p)
          ∙ sym (last_push p bs block);
      numbered = (let n = h.numbered in let e = x.stays.frame in omega arith);
      fits = omega arith;
      limited = (let l = h.limited in (omega arith, omega arith));
      sealed = λ e. (let u = x.unsealed in let v = x.stays.sealed in absurd cc);
      rows_room = (let r = h.rows_room in let c = x.rows_room in omega arith);
      pieces_few = (let f = h.pieces_few in omega arith);
      pieces_room = (let r = h.pieces_room in let c = x.pieces_room in omega arith);
      arena_few = (let w = h.arena_few in let s = row_short row xs block x.row_is in omega arith);
      arena_room = (let r = h.arena_room in let c = x.arena_room in omega arith);
      deltas_few = (let f = h.deltas_few in let c = x.deltas_few in omega arith);
      deltas_room = (let r = h.deltas_room in let c = x.deltas_room in omega arith);
      spots_room = (let r = h.spots_room in let c = x.stays.spots_room in omega arith);
      bytes_room = (let r = h.bytes_room in let c = x.stays.bytes_room in omega arith);
    }

-- ---- a row longer

pub record Lengthened (a b : Inside) (page at : ℕ) (ops : List Record) (xs : List ℕ) (row : Row) (q : Piece) : Type 0 where
  pub was : IsLaid a
  pub unsealed : a.is_sealed ≡ false
  pub some : 1 ≤ length ops
  pub lawful : All IsOp ops
  pub joins : joins_of (length ops) page (blocks_of a) ≡ Some at
  pub fits : a.size + length xs ≤ a.limit
  pub stays : Stays a b
  pub size : b.size ≡ a.size + length xs
  pub stands : slice_get a.rows.items at ≡ Some row
  pub rows : b.rows.items ≡ set a.rows.items at (longer row (length ops) (length xs))
  pub pieces : b.pieces.items ≡ a.pieces.items ++ q ∷ []
  pub arena : b.arena.items ≡ a.arena.items ++ xs
  pub spelled : xs ≡ flat_map op_bytes ops
  pub piece : (q.block ≡ at) × (q.len ≡ length xs)
  pub deltas : b.deltas ≡ a.deltas
  pub rows_room : vec_capacity b.rows ≡ vec_capacity a.rows
  pub pieces_room : vec_capacity b.pieces ≡ vec_capacity a.pieces
  pub arena_room : vec_capacity a.arena ≤ vec_capacity b.arena

get_within : {X : Type 0} (xs : List X) (i : ℕ) (x : X) → slice_get xs i ≡ Some x → i < length xs
get_within [] i x e = absurd cc
get_within (y ∷ ys) zero x e = omega arith
get_within (y ∷ ys) (suc i) x e = (let h = get_within ys i x e in omega arith)

all-more : {X : Type 0} (P : X → Type 0) (xs : List X) (y : X) (ys zs : List X) → All P (xs ++ y ∷ ys) → P y × All P xs × All P ys
all-more P [] y ys zs h = (h.0, tt, h.1)
all-more P (x ∷ xs) y ys zs h = (let r = all-more P xs y ys zs h.1 in (r.0, (h.0, r.1), r.2))

all-middle : {X : Type 0} (P : X → Type 0) (xs : List X) (y : X) (ys : List X) → All P xs → P y → All P ys → All P (xs ++ y ∷ ys)
all-middle P [] y ys a b c = (b, c)
all-middle P (x ∷ xs) y ys a b c = (a.0, all-middle P xs y ys a.1 b c)

pub lengthened : (a b : Inside) (page at : ℕ) (back : Place) (ops : List Record) (xs : List ℕ) (row : Row) (q : Piece) → Lengthened a b page at ops xs row q
    → Holds b (joined (blocks_of a) (Delta page back ops))
lengthened a b page at back ops xs row q x =
    let h = x.was in
    let bs = blocks_of a in
    let j : JoinsOne page back ops at bs = joins_one page back ops at bs x.joins in
    let s : StandsOpen page at bs = j.stands in
    let more = s.before ++ Delta page s.back (s.was ++ ops) ∷ s.behind in
    let now : parts_of b ≡ parts_of a ++ (at, xs) ∷ [] =
    ap (λ (qs : List Piece). parts qs b.arena.items) x.pieces ∙ ap (λ (l : List ℕ). parts (a.pieces.items ++ q ∷ []) l) x.arena
    ∙ parts_more a.pieces.items a.arena.items q xs h.parted x.piece.1
    ∙ ap (λ (n : ℕ). parts_of a ++ (n, xs) ∷ []) x.piece.0 in
    let rows : AreRows 0 (set a.rows.items at (longer row (length ops) (length xs))) (parts_of a ++ (at, xs) ∷ []) more =
    subst (λ (n : ℕ). AreRows 0 (set a.rows.items at (longer row (length ops) (length xs))) (parts_of a ++ (n, xs) ∷ []) more) (omega arith)
    (rows_longer 0 at a.rows.items (parts_of a) s.before s.behind page s.back s.was ops xs row s.index x.spelled x.stands
    (subst (λ (l : List Block). AreRows 0 a.rows.items (parts_of a) l) s.split h.rows)) in
    let old_body : body_bytes bs ≡ body_bytes s.before ++ (block_bytes (Delta page s.back s.was) ++ body_bytes s.behind) =
    ap body_bytes s.split ∙ flat_map-append block_bytes s.before (Delta page s.back s.was ∷ s.behind) in
    let new_body : body_bytes more ≡ body_bytes s.before ++ (block_bytes (Delta page s.back (s.was ++ ops)) ++ body_bytes s.behind) =
    flat_map-append block_bytes s.before (Delta page s.back (s.was ++ ops) ∷ s.behind) in
    let long : length (body_bytes more) ≡ length (body_bytes bs) + length xs =
    omega (
      arith,
      ap (λ (l : List ℕ). length l) old_body,
      ap (λ (l : List ℕ). length l) new_body,
      length-append (body_bytes s.before) (block_bytes (Delta page s.back s.was) ++ body_bytes s.behind),
      length-append (body_bytes s.before) (block_bytes (Delta page s.back (s.was ++ ops)) ++ body_bytes s.behind),
      length-append (block_bytes (Delta page s.back s.was)) (body_bytes s.behind),
      length-append (block_bytes (Delta page s.back (s.was ++ ops))) (body_bytes s.behind),
      length-delta page s.back s.was,
      length-delta page s.back (s.was ++ ops),
      ap (λ (l : List ℕ). length l) (flat_map-append op_bytes s.was ops),
      length-append (flat_map op_bytes s.was) (flat_map op_bytes ops),
      ap (λ (l : List ℕ). length l) x.spelled,
    ) in
    let three : 3 ≤ length xs = (let o = ops_some ops x.lawful in let e = ap (λ (l : List ℕ). length l) x.spelled in let n = x.some in omega arith) in
    let same_rows : length b.rows.items ≡ length a.rows.items = ap (λ (l : List Row). length l) x.rows
    ∙ length-set a.rows.items at (longer row (length ops) (length xs)) in
    let longer_pieces : length b.pieces.items ≡ length a.pieces.items + 1 = ap (λ (l : List Piece). length l) x.pieces
    ∙ length-append a.pieces.items (q ∷ []) in
    let longer_arena : length b.arena.items ≡ length a.arena.items + length xs = ap (λ (l : List ℕ). length l) x.arena ∙ length-append a.arena.items xs in
    let limit = x.stays.limit in
    let size = x.size in
    let fits = x.fits in
    let parts_lawful = all-more (IsBlock 32) s.before (Delta page s.back s.was) s.behind [] (subst (All (IsBlock 32)) s.split h.lawful) in
    let delta = parts_lawful.0 in
    let all_ops : All IsOp (s.was ++ ops) = all-append IsOp s.was ops delta.each x.lawful in
    let few : length (s.was ++ ops) < 2 ^ 16 = omega (arith, length-append s.was ops, j.few) in
    subst (Holds b) (sym j.is)
    (record {
      rows = subst (λ (ps : Parts). AreRows 0 b.rows.items ps more) (sym now)
          (subst (λ (rs : List Row). AreRows 0 rs (parts_of a ++ (at, xs) ∷ []) more) (sym x.rows) rows);
      within = subst (λ (qs : List Piece). All (λ y. y.block < length b.rows.items) qs) (sym x.pieces)
          (all-append (λ y. y.block < length b.rows.items) a.pieces.items (q ∷ [])
          (all-into (λ y. y.block < length a.rows.items) (λ y. y.block < length b.rows.items) a.pieces.items (λ y lt. omega arith) h.within)
          ((let e = x.piece.0 in let w = get_within a.rows.items at row x.stands in omega arith), tt));
      parted = ap pieces_length x.pieces ∙ length_more a.pieces.items q ∙ (let e = x.piece.1 in let c = h.parted in omega arith);
      size = (let z = h.size in omega arith);
      lawful = all-middle (IsBlock 32) s.before (Delta page s.back (s.was ++ ops)) s.behind parts_lawful.1
          (record {
            changes = delta.changes;
            links = delta.links;
            count = ((let c = delta.count.0 in let e = length-append s.was ops in omega arith), few);
            each = all_ops;
          }) parts_lawful.2;
      told = λ p. ap (λ (d : _). index_at d p) x.deltas ∙ h.told p ∙ sym (last_ops p at ops bs)
          ∙ ap (last_delta p) (ap (ops_added at ops) s.split
          ∙ Rattle.bw_buffer.proofs.Joined.added_there s.before (Delta page s.back s.was) s.behind at ops s.index);
      numbered = (let n = h.numbered in let e = x.stays.frame in omega arith);
      fits = omega arith;
      limited = (let l = h.limited in (omega arith, omega arith));
      sealed = λ e. (let u = x.unsealed in let v = x.stays.sealed in absurd cc);
      rows_room = (let r = h.rows_room in let c = x.rows_room in omega arith);
      pieces_few = (let f = h.pieces_few in omega arith);
      pieces_room = (let r = h.pieces_room in let c = x.pieces_room in omega arith);
      arena_few = (let w = h.arena_few in omega arith);
      arena_room = (let r = h.arena_room in let c = x.arena_room in omega arith);
      deltas_few = (let f = h.deltas_few in let d = ap (λ (d : _). hash_map_len d) x.deltas in omega arith);
      deltas_room = (let r = h.deltas_room in let d = ap (λ (d : _). spare d) x.deltas in let e = ap (λ (d : _). hash_map_len d) x.deltas in omega arith);
      spots_room = (let r = h.spots_room in let c = x.stays.spots_room in omega arith);
      bytes_room = (let r = h.bytes_room in let c = x.stays.bytes_room in omega arith);
    })

-- ---- room for what fits

pub room_rows : (a : Inside) (more : ℕ) → IsLaid a → 8 ≤ more → a.size + more ≤ a.limit → length a.rows.items < vec_capacity a.rows
room_rows a more h some fits =
    (let n = rows_count 0 a.rows.items (parts_of a) (blocks_of a) h.rows in let f = few_blocks (blocks_of a) in let s = h.size in let r = h.rows_room
    in omega arith)

-- the same, of the buffer as it is seen
pub room_rows_of : (a : Inside) (f : Filling) → filling_of a ≡ f → (more : ℕ) → IsLaid a → 8 ≤ more → size_of f + more ≤ f.limit
    → length a.rows.items < vec_capacity a.rows
room_rows_of a f view more h some fits =
    let size = size_is a f h view in
    let limit = ap (λ (x : Filling). x.limit) view in
    room_rows a more h some (omega arith)

pub room_pieces : (a : Inside) (more : ℕ) → IsLaid a → 3 ≤ more → a.size + more ≤ a.limit → length a.pieces.items < vec_capacity a.pieces
room_pieces a more h some fits = (let f = h.pieces_few in let r = h.pieces_room in omega arith)

pub room_arena : (a : Inside) (more : ℕ) → IsLaid a → a.size + more ≤ a.limit → length a.arena.items + more ≤ vec_capacity a.arena
room_arena a more h fits = (let f = h.arena_few in let r = h.arena_room in omega arith)

pub room_deltas : (a : Inside) (more : ℕ) → IsLaid a → 8 ≤ more → a.size + more ≤ a.limit → 0 < spare a.deltas
room_deltas a more h some fits = (let f = h.deltas_few in let r = h.deltas_room in omega arith)

pub few_rows_now : (a : Inside) → IsLaid a → length a.rows.items < 2 ^ 32
few_rows_now a h =
    (let n = rows_count 0 a.rows.items (parts_of a) (blocks_of a) h.rows in let f = few_blocks (blocks_of a) in let s = h.size in let l = h.fits in
    let m = h.limited.1 in omega arith)
