use Rattle.std.proofs.Common.{◌++◌, List, ℕ, length, ap, sym, ◌∙◌, arith}
use Rattle.std.specs.List.{slice_get}
use Rattle.bw_buffer.specs.Filling.{Filling}
use Rattle.bw_buffer.specs.Rows.{bytes_at, front_of, parts}
use Rattle.bw_buffer.specs.declared.rows.Piece.{Piece}
use Rattle.bw_buffer.proofs.Holding.{counted}
use Rattle.bw_buffer.proofs.ReadBack.{told_here, is_there}
use Rattle.bw_buffer.proofs.buffer.Buffer.block.Goals as goal

pub index-requires : goal.index-requires
index-requires c = (let n = counted c.self.inside c.self.invariant in let v = ap (λ (f : Filling). length f.blocks) c.self.view_is in omega arith)

pub spelled-requires-clause-few : goal.spelled-requires-clause-few
spelled-requires-clause-few c =
    let v = ap (λ (f : Filling). length f.blocks) c.self.view_is in
    (told_here c.self.inside c.args.i c.index.result.now c.self.invariant (omega arith) c.index.ensures).few

pub block_from-requires : goal.block_from-requires
block_from-requires c =
    let v = ap (λ (f : Filling). length f.blocks) c.self.view_is in
    let told = told_here c.self.inside c.args.i c.index.result.now c.self.invariant (omega arith) c.index.ensures in (
      told.block,
      told.lawful,
      c.as_slice-3.ensures.value ∙ c.in_ok-bytes.ensures
          ∙ ap (λ (qs : List Piece). front_of c.index.result.now ++ bytes_at c.args.i (parts qs c.as_slice-2.result.now)) c.as_slice.ensures.value
          ∙ ap (λ (l : List ℕ). front_of c.index.result.now ++ bytes_at c.args.i (parts c.self.inside.pieces.items l)) c.as_slice-2.ensures.value
          ∙ told.is,
    )

pub returns : goal.returns
returns c =
    let v = ap (λ (f : Filling). length f.blocks) c.self.view_is in
    let told = told_here c.self.inside c.args.i c.index.result.now c.self.invariant (omega arith) c.index.ensures in
    is_there c.args.self.now.blocks c.args.i told.block c.block_from.result (ap (λ (f : Filling). slice_get f.blocks c.args.i) (sym c.self.view_is) ∙ told.there)
    (c.block_from.ensures told.block told.lawful
    (c.as_slice-3.ensures.value ∙ c.in_ok-bytes.ensures
    ∙ ap (λ (qs : List Piece). front_of c.index.result.now ++ bytes_at c.args.i (parts qs c.as_slice-2.result.now)) c.as_slice.ensures.value
    ∙ ap (λ (l : List ℕ). front_of c.index.result.now ++ bytes_at c.args.i (parts c.self.inside.pieces.items l)) c.as_slice-2.ensures.value
    ∙ told.is))
