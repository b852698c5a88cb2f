use Rattle.std.proofs.Common.{◌∙◌, true, false, ap, sym}
use Rattle.bw_buffer.specs.Filling.{Filling}
use Rattle.bw_buffer.specs.Joining.{joins_of}
use Rattle.bw_buffer.proofs.Joining.{told_some, joins_told}
use Rattle.bw_buffer.proofs.buffer.Buffer.joining.Goals as goal

pub index-requires : goal.index-requires
index-requires c = (told_some c.self.inside c.args.page c.in-Some.at c.self.invariant c.in-Some.ensures).inside

pub returns-then-have_room : goal.returns-then-have_room
returns-then-have_room c =
    sym (joins_told c.self.inside c.args.page c.in-Some.at c.args.records c.index.result.now true c.self.invariant c.in-Some.ensures c.index.ensures
    c.if-have_room.ensures)
    ∙ ap (λ (f : Filling). joins_of c.args.records c.args.page f.blocks) c.self.view_is

pub returns-else-have_room : goal.returns-else-have_room
returns-else-have_room c =
    sym (joins_told c.self.inside c.args.page c.in-Some.at c.args.records c.index.result.now false c.self.invariant c.in-Some.ensures c.index.ensures
    c.if-have_room.ensures)
    ∙ ap (λ (f : Filling). joins_of c.args.records c.args.page f.blocks) c.self.view_is
