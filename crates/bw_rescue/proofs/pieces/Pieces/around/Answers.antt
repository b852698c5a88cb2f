use Rattle.std.proofs.Common.{◌∙◌, List, slice_get, sym, ap}
use Rattle.bw_rescue.specs.declared.pieces.Piece.{Piece}
use Rattle.bw_rescue.specs.Hurt.{cut_of, is_hurt_at}
use Rattle.bw_rescue.proofs.PiecesLooked.{looked, above_it, sliced}
use Rattle.bw_rescue.proofs.pieces.Pieces.around.Goals as goal

pub returns-in-Some-clause-hurt : goal.returns-in-Some-clause-hurt
returns-in-Some-clause-hurt c = λ begun to. sym (looked c.args.at to c.first_after-self.result c.args.self.now.rows.items c.as_slice.result.now c.row_at.result c.as_slice.ensures.value
    (c.row_at.ensures ∙ ap (λ (l : List Piece). slice_get l c.first_after-self.result) (c.as_slice-2.ensures.value ∙ sym c.as_slice.ensures.value))
    c.first_after-self.ensures.next begun.follow (c.first_after-self.ensures.passed (sliced c.args.at c.args.self.now.passed c.args.self.now.rows.items c.as_slice.result.now c.as_slice.ensures.value begun.passed))
    ∙ ap (λ o. is_hurt_at o c.args.at to) c.in-Some.is)

pub returns-in_default-clause-hurt : goal.returns-in_default-clause-hurt
returns-in_default-clause-hurt c = λ begun to. sym (looked c.args.at to c.first_after-self.result c.args.self.now.rows.items c.as_slice.result.now c.row_at.result c.as_slice.ensures.value
    (c.row_at.ensures ∙ ap (λ (l : List Piece). slice_get l c.first_after-self.result) (c.as_slice-2.ensures.value ∙ sym c.as_slice.ensures.value))
    c.first_after-self.ensures.next begun.follow (c.first_after-self.ensures.passed (sliced c.args.at c.args.self.now.passed c.args.self.now.rows.items c.as_slice.result.now c.as_slice.ensures.value begun.passed))
    ∙ ap (λ o. is_hurt_at o c.args.at to) c.in-Some.is ∙ above_it c.args.at to (cut_of c.in-Some.row) c.if-row-at.false)

pub returns-in_default-2-clause-hurt : goal.returns-in_default-2-clause-hurt
returns-in_default-2-clause-hurt c = λ begun to. sym (looked c.args.at to c.first_after-self.result c.args.self.now.rows.items c.as_slice.result.now c.row_at.result c.as_slice.ensures.value
    (c.row_at.ensures ∙ ap (λ (l : List Piece). slice_get l c.first_after-self.result) (c.as_slice-2.ensures.value ∙ sym c.as_slice.ensures.value))
    c.first_after-self.ensures.next begun.follow (c.first_after-self.ensures.passed (sliced c.args.at c.args.self.now.passed c.args.self.now.rows.items c.as_slice.result.now c.as_slice.ensures.value begun.passed))
    ∙ ap (λ o. is_hurt_at o c.args.at to) c.in_default.is)
