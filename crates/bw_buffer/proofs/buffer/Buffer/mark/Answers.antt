use Rattle.std.proofs.Common.{◌≡◌, Option, Some, None, length, ap, ◌∙◌, arith}
use Rattle.std.specs.Prelude.{IfSome}
use Rattle.std.specs.List.{slice_get}
use Rattle.bw_record.specs.declared.block.Block.{Block}
use Rattle.bw_buffer.specs.Filling.{Filling}
use Rattle.bw_buffer.specs.Laid.{blocks_of, parts_of}
use Rattle.bw_buffer.specs.Marks.{mark_of}
use Rattle.bw_buffer.specs.declared.mark.Mark.{Mark}
use Rattle.bw_buffer.proofs.Holding.{counted, got}
use Rattle.bw_buffer.proofs.Pieces.{rows_mark}
use Rattle.bw_buffer.proofs.buffer.Buffer.mark.Goals as goal

pub index-requires : goal.index-requires
index-requires c = (let n = counted c.self.inside c.self.invariant in let v = ap (λ (f : Filling). length f.blocks) c.self.view_is in omega arith)

if_some : (o : Option Block) (m : Mark) → ((b : Block) → o ≡ Some b → m ≡ mark_of b) → IfSome o (λ b. m ≡ mark_of b)
if_some None m f = tt
if_some (Some b) m f = f b cc

pub returns : goal.returns
returns c =
    let a = c.self.inside in
    let n = counted a c.self.invariant in
    let v = ap (λ (f : Filling). length f.blocks) c.self.view_is in
    let same = ap (λ (f : Filling). slice_get f.blocks c.args.i) c.self.view_is in
    if_some (slice_get c.args.self.now.blocks c.args.i) c.index.result.now.mark (λ b is.
    rows_mark 0 c.args.i a.rows.items (parts_of a) (blocks_of a) c.index.result.now b c.self.invariant.rows
    (got a.rows.items c.args.i c.index.result.now (omega arith) c.index.ensures) (same ∙ is))
