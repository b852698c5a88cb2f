use Rattle.std.proofs.Common.{◌≡◌, ◌∙◌, ◌+◌, ◌-◌, ◌<◌, ◌++◌, ◌∷◌, ℕ, zero, suc, List, [], length, set, get_or, refl, ap, arith, length-append}
use Rattle.bw_record.specs.Version.{latest}
use Rattle.bw_codec.specs.Grammar.{head_bytes}
use Rattle.bw_codec.proofs.FrontFormat.{length-head}
use Rattle.bw_buffer.specs.Rows.{parts, front_of}
use Rattle.bw_buffer.specs.Gaps.{zeros, written}
use Rattle.bw_buffer.specs.declared.rows.Row.{Row}
use Rattle.bw_buffer.specs.declared.rows.Piece.{Piece}
use Rattle.bw_buffer.specs.declared.mark.Mark.TheVariants.{Changes}
use Rattle.bw_buffer.proofs.Passes.{rows_room, few_here, bytes_next, spots_next, piece_step, all_written}
use Rattle.bw_buffer.proofs.layout.lay_out.Goals as goal

again : {X : Type 0} (xs : List X) (i : ℕ) (d : X) → i < length xs → get_or xs i d ≡ get_or xs i (get_or xs i d)
again [] i d lt = absurd (omega arith)
again (x ∷ xs) zero d lt = refl
again (x ∷ xs) (suc i) d lt = again xs i d (omega arith)

-- the row of a step, and the piece of one
abbrev row_of : List Row → ℕ → Row
row_of rows i = get_or rows i record { mark = Changes 0; back = record { frame = 0; index = 0 }; ops = 0; len = 0 }

row_is : (rows : List Row) (i : ℕ) → i < length rows → row_of rows i ≡ get_or rows i (row_of rows i)
row_is rows i lt = again rows i _ lt

abbrev piece_of : List Piece → ℕ → Piece
piece_of pieces j = get_or pieces j record { block = 0; len = 0 }

piece_is : (pieces : List Piece) (j : ℕ) → j < length pieces → piece_of pieces j ≡ get_or pieces j (piece_of pieces j)
piece_is pieces j lt = again pieces j _ lt

pub push_row-requires-clause-few : goal.push_row-requires-clause-few
push_row-requires-clause-few c =
    few_here 0 c.loop-row.row-index c.args.rows.now (parts c.args.pieces.now c.args.arena.now) (row_of c.args.rows.now c.loop-row.row-index)
    c.requires.measured c.loop-row-test.true
    (row_is c.args.rows.now c.loop-row.row-index c.loop-row-test.true)

pub push_row-requires-clause-room : goal.push_row-requires-clause-room
push_row-requires-clause-room c =
    let room = rows_room c.args.rows.now (parts c.args.pieces.now c.args.arena.now) c.args.number c.args.size (length c.args.rows.now)
    c.loop-row.row-index (row_of c.args.rows.now c.loop-row.row-index) c.loop-row.bytes.items
    c.requires.measured c.requires.size c.loop-row.invariant.bytes c.loop-row-test.true (row_is c.args.rows.now c.loop-row.row-index c.loop-row-test.true) in
    let long = c.loop-row.invariant.bytes_len in
    let all = c.loop-row.invariant.bytes_room in
    omega arith

pub push_row-requires-clause-short : goal.push_row-requires-clause-short
push_row-requires-clause-short c =
    let room = rows_room c.args.rows.now (parts c.args.pieces.now c.args.arena.now) c.args.number c.args.size (length c.args.rows.now)
    c.loop-row.row-index (row_of c.args.rows.now c.loop-row.row-index) c.loop-row.bytes.items
    c.requires.measured c.requires.size c.loop-row.invariant.bytes c.loop-row-test.true (row_is c.args.rows.now c.loop-row.row-index c.loop-row-test.true) in
    let short = c.requires.short in
    omega arith

pub loop-row-preserved : goal.loop-row-preserved
loop-row-preserved c =
    let row = row_of c.args.rows.now c.loop-row.row-index in
    let is = row_is c.args.rows.now c.loop-row.row-index c.loop-row-test.true in
    let more = front_of row ++ zeros row.len in
    record {
      bytes = bytes_next (head_bytes c.args.number (c.args.size - 20) (length c.args.rows.now)) c.loop-row.bytes.items c.push_row.new.bytes.items
          c.args.rows.now c.loop-row.row-index row
          c.loop-row-test.true is c.loop-row.invariant.bytes c.push_row.ensures.bytes.items;
      spots = spots_next (head_bytes c.args.number (c.args.size - 20) (length c.args.rows.now)) c.loop-row.bytes.items c.loop-row.spots.items
          c.push_row.new.spots.items c.args.rows.now c.loop-row.row-index row
          (length-head latest c.args.number (c.args.size - 20) (length c.args.rows.now)) c.loop-row-test.true is c.loop-row.invariant.bytes
          c.loop-row.invariant.spots c.push_row.ensures.spots.items;
      bytes_len = (let was = c.loop-row.invariant.bytes_len in let now = c.push_row.ensures.bytes.len in
          omega (arith, ap (λ (l : List ℕ). length l) c.push_row.ensures.bytes.items, length-append c.loop-row.bytes.items more));
      bytes_room = (let was = c.loop-row.invariant.bytes_room in let now = c.push_row.ensures.bytes.capacity in omega arith);
      bytes_kept = (let was = c.loop-row.invariant.bytes_kept in let now = c.push_row.ensures.bytes.capacity in omega arith);
      spots_len = (let was = c.loop-row.invariant.spots_len in let now = c.push_row.ensures.spots.len in omega arith);
      spots_kept = (let was = c.loop-row.invariant.spots_kept in let now = c.push_row.ensures.spots.capacity in omega arith);
    }

pub split_at-requires : goal.split_at-requires
split_at-requires c =
    let step = piece_step (head_bytes c.args.number (c.args.size - 20) (length c.args.rows.now)) c.args.rows.now c.args.pieces.now c.args.arena.now
    c.loop-piece.piece-index
    (piece_of c.args.pieces.now c.loop-piece.piece-index) c.loop-piece.rest.now c.loop-piece.bytes.items c.loop-piece.spots.items
    (length-head latest c.args.number (c.args.size - 20) (length c.args.rows.now))
    c.requires.measured c.requires.within c.requires.parted c.loop-piece-test.true (piece_is c.args.pieces.now c.loop-piece.piece-index c.loop-piece-test.true)
    c.loop-piece.invariant.rest c.loop-piece.invariant.bytes c.loop-piece.invariant.spots in
    step.inside

pub put_piece-requires-clause-spot : goal.put_piece-requires-clause-spot
put_piece-requires-clause-spot c =
    let step = piece_step (head_bytes c.args.number (c.args.size - 20) (length c.args.rows.now)) c.args.rows.now c.args.pieces.now c.args.arena.now
    c.loop-piece.piece-index
    (piece_of c.args.pieces.now c.loop-piece.piece-index) c.loop-piece.rest.now c.loop-piece.bytes.items c.loop-piece.spots.items
    (length-head latest c.args.number (c.args.size - 20) (length c.args.rows.now))
    c.requires.measured c.requires.within c.requires.parted c.loop-piece-test.true (piece_is c.args.pieces.now c.loop-piece.piece-index c.loop-piece-test.true)
    c.loop-piece.invariant.rest c.loop-piece.invariant.bytes c.loop-piece.invariant.spots in
    step.spot

pub put_piece-requires-clause-within : goal.put_piece-requires-clause-within
put_piece-requires-clause-within c =
    let step = piece_step (head_bytes c.args.number (c.args.size - 20) (length c.args.rows.now)) c.args.rows.now c.args.pieces.now c.args.arena.now
    c.loop-piece.piece-index
    (piece_of c.args.pieces.now c.loop-piece.piece-index) c.loop-piece.rest.now c.loop-piece.bytes.items c.loop-piece.spots.items
    (length-head latest c.args.number (c.args.size - 20) (length c.args.rows.now))
    c.requires.measured c.requires.within c.requires.parted c.loop-piece-test.true (piece_is c.args.pieces.now c.loop-piece.piece-index c.loop-piece-test.true)
    c.loop-piece.invariant.rest c.loop-piece.invariant.bytes c.loop-piece.invariant.spots in
    let within = step.within in
    omega (arith, ap (λ (l : List ℕ). length l) c.split_at.ensures.front)

pub put_piece-requires-clause-short : goal.put_piece-requires-clause-short
put_piece-requires-clause-short c =
    let step = piece_step (head_bytes c.args.number (c.args.size - 20) (length c.args.rows.now)) c.args.rows.now c.args.pieces.now c.args.arena.now
    c.loop-piece.piece-index
    (piece_of c.args.pieces.now c.loop-piece.piece-index) c.loop-piece.rest.now c.loop-piece.bytes.items c.loop-piece.spots.items
    (length-head latest c.args.number (c.args.size - 20) (length c.args.rows.now))
    c.requires.measured c.requires.within c.requires.parted c.loop-piece-test.true (piece_is c.args.pieces.now c.loop-piece.piece-index c.loop-piece-test.true)
    c.loop-piece.invariant.rest c.loop-piece.invariant.bytes c.loop-piece.invariant.spots in
    let size = step.size in
    let is = c.requires.size in
    let short = c.requires.short in
    omega arith

pub loop-piece-preserved : goal.loop-piece-preserved
loop-piece-preserved c =
    let step = piece_step (head_bytes c.args.number (c.args.size - 20) (length c.args.rows.now)) c.args.rows.now c.args.pieces.now c.args.arena.now
    c.loop-piece.piece-index
    (piece_of c.args.pieces.now c.loop-piece.piece-index) c.loop-piece.rest.now c.loop-piece.bytes.items c.loop-piece.spots.items
    (length-head latest c.args.number (c.args.size - 20) (length c.args.rows.now))
    c.requires.measured c.requires.within c.requires.parted c.loop-piece-test.true (piece_is c.args.pieces.now c.loop-piece.piece-index c.loop-piece-test.true)
    c.loop-piece.invariant.rest c.loop-piece.invariant.bytes c.loop-piece.invariant.spots in
    let block = (piece_of c.args.pieces.now c.loop-piece.piece-index).block in
    let at = get_or c.loop-piece.spots.items block 0 in
    record {
      bytes = c.put_piece.ensures.bytes ∙ ap (λ (l : List ℕ). written at l c.loop-piece.bytes.items) c.split_at.ensures.front ∙ step.bytes_next;
      spots = c.put_piece.ensures.spots ∙ ap (λ (l : List ℕ). set c.loop-piece.spots.items block (at + length l)) c.split_at.ensures.front ∙ step.spots_next;
      rest = c.split_at.ensures.back ∙ step.behind;
      bytes_kept = (let was = c.loop-piece.invariant.bytes_kept in let now = c.put_piece.ensures.bytes_room in omega arith);
      spots_kept = (let was = c.loop-piece.invariant.spots_kept in let now = c.put_piece.ensures.spots_room in omega arith);
    }

pub returns-clause-bytes : goal.returns-clause-bytes
returns-clause-bytes c =
    c.loop-piece.invariant.bytes
    ∙ ap (λ (l : List ℕ). head_bytes c.args.number (c.args.size - 20) (length c.args.rows.now) ++ l)
    (all_written c.args.rows.now c.args.pieces.now c.args.arena.now c.loop-piece.piece-index (let end = c.loop-piece-test.false in omega arith)
    c.requires.measured)
