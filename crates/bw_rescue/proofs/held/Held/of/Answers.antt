use Rattle.std.proofs.Common.{◌∙◌, List, ℕ, sym, subst}
use Rattle.bw_rescue.specs.Hurt.{ArePieces}
use Rattle.bw_rescue.specs.Taken.{TakesAll}
use Rattle.bw_rescue.proofs.held.Held.of.Goals as goal

pub returns-clause-all : goal.returns-clause-all
returns-clause-all c = subst (λ (l : List ℕ). TakesAll c.header_of-header.result l c.args.sums.now c.in_ok-pieces-2.field-0.spots.items) c.as_slice-3.ensures.value
    (c.in_ok-pieces-2.ensures.all c.args.sums.now (subst (λ (l : List ℕ). ArePieces l c.args.sums.now c.in_ok-pieces.pieces)
    (c.as_slice-2.ensures.value ∙ sym c.as_slice-3.ensures.value) c.in_ok-pieces.ensures))
