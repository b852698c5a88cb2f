use Rattle.std.proofs.Common.{ℕ, List}
use Rattle.bw_record.specs.declared.block.Frame.{Frame}
use Rattle.bw_rescue.specs.Hurt.{is_hurt, ArePieces}
use Rattle.bw_rescue.specs.Taken.{AreTaken, StandFrom, spots_from}
use Rattle.bw_rescue.proofs.RowTaken.{OnTheWay}
use Rattle.bw_rescue.proofs.held.walked.Given as goal

abbrev pub invariant-steps : goal.invariant-steps
invariant-steps l = record {
  taken : AreTaken l.header l.bytes l.walk.last l.walk.spots.items;
  all : (sums : List ℕ) → ArePieces l.bytes sums l.fn.pieces → (frames : List Frame) → StandFrom l.header l.bytes 24 0 frames
      → OnTheWay l.header l.bytes (is_hurt l.bytes sums) (spots_from (is_hurt l.bytes sums) l.header.version 24 frames) l.counter l.walk;
}
