use Rattle.std.proofs.Common.{true, ap}
use Rattle.std.proofs.Math.Seq.{map-set_same}
use Rattle.bw_rescue.specs.declared.pieces.Piece.{Piece}
use Rattle.bw_rescue.specs.Hurt.{cut_of}
use Rattle.bw_rescue.proofs.pieces.Pieces.take.Goals as goal

pub returns-then-self-len-clause-same : goal.returns-then-self-len-clause-same
returns-then-self-len-clause-same c =
    let was = c.index_mut.result.now in
    let new : Piece = record { from = was.from; to = was.to; fits = was.fits; is_taken = true } in
    map-set_same cut_of c.args.self.now.rows.items c.args.self.now.passed new was (ap cut_of c.index_mut.ensures.value)
