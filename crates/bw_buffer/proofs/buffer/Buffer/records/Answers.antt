use Rattle.std.proofs.Common.{◌∙◌, ap, sym}
use Rattle.bw_buffer.specs.Filling.{Filling}
use Rattle.bw_buffer.specs.Joining.{open_records}
use Rattle.bw_buffer.proofs.Joining.{told_some, told_none}
use Rattle.bw_buffer.proofs.buffer.Buffer.records.Goals as goal

pub index-requires : goal.index-requires
index-requires c = (told_some c.self.inside c.args.page c.in-Some.at c.self.invariant c.in-Some.ensures).inside

pub returns-in-Some : goal.returns-in-Some
returns-in-Some c =
    sym ((told_some c.self.inside c.args.page c.in-Some.at c.self.invariant c.in-Some.ensures).records c.index.result.now c.index.ensures)
    ∙ ap (λ (f : Filling). open_records c.args.page f.blocks) c.self.view_is

pub returns-in-None : goal.returns-in-None
returns-in-None c =
    sym (told_none c.self.inside c.args.page c.self.invariant c.in-None.ensures)
    ∙ ap (λ (f : Filling). open_records c.args.page f.blocks) c.self.view_is
