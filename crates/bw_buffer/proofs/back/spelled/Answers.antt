use Rattle.std.proofs.Common.{ℕ, zero, suc, List, [], ◌∷◌, ◌≡◌, ◌<◌, length, get_or, refl, ◌∙◌, arith}
use Rattle.bw_buffer.specs.Rows.{front_of}
use Rattle.bw_buffer.specs.declared.rows.Piece.{Piece}
use Rattle.bw_buffer.proofs.ReadBack.{front_short, piece_inside, piece_behind, piece_next, pieces_all}
use Rattle.bw_buffer.proofs.back.spelled.Goals as goal

again : {X : Type 0} (xs : List X) (i : ℕ) (d : X) → i < length xs → get_or xs i d ≡ get_or xs i (get_or xs i d)
again [] i d lt = absurd (omega arith)
again (x ∷ xs) zero d lt = refl
again (x ∷ xs) (suc i) d lt = again xs i d (omega arith)

-- the piece of a step
abbrev piece_of : List Piece → ℕ → Piece
piece_of pieces j = get_or pieces j record { block = 0; len = 0 }

piece_is : (pieces : List Piece) (j : ℕ) → j < length pieces → piece_of pieces j ≡ get_or pieces j (piece_of pieces j)
piece_is pieces j lt = again pieces j _ lt

pub push_front-requires-clause-room : goal.push_front-requires-clause-room
push_front-requires-clause-room c =
    let short = front_short c.args.row.now.mark c.args.row.now.back c.args.row.now.ops in
    let none = c.in_ok-bytes.ensures.len in
    let room = c.in_ok-bytes.ensures.capacity in
    omega arith

pub split_at-requires : goal.split_at-requires
split_at-requires c =
    piece_inside c.args.pieces.now c.args.arena.now c.loop-piece.rest.now c.loop-piece.piece-index (piece_of c.args.pieces.now c.loop-piece.piece-index)
    c.requires.parted c.loop-piece-test.true (piece_is c.args.pieces.now c.loop-piece.piece-index c.loop-piece-test.true) c.loop-piece.invariant.rest

pub loop-piece-preserved : goal.loop-piece-preserved
loop-piece-preserved c =
    let q = piece_of c.args.pieces.now c.loop-piece.piece-index in
    let is = piece_is c.args.pieces.now c.loop-piece.piece-index c.loop-piece-test.true in
    record {
      bytes = piece_next (front_of c.args.row.now) c.args.block c.args.pieces.now c.args.arena.now c.loop-piece.rest.now c.loop-piece.piece-index q
          c.loop-piece.bytes.items c.push_if.new.bytes.items _ c.loop-piece-test.true is c.loop-piece.invariant.rest c.split_at.ensures.front
          c.loop-piece.invariant.bytes c.in_ok-push_if.ensures;
      rest = c.split_at.ensures.back
          ∙ piece_behind c.args.pieces.now c.args.arena.now c.loop-piece.rest.now c.loop-piece.piece-index q c.loop-piece-test.true is
          c.loop-piece.invariant.rest;
    }

pub returns : goal.returns
returns c =
    pieces_all (front_of c.args.row.now) c.args.block c.args.pieces.now c.args.arena.now c.loop-piece.bytes.items c.loop-piece.piece-index
    (let end = c.loop-piece-test.false in omega arith) c.loop-piece.invariant.bytes
