use Rattle.std.proofs.Common.{sym, ◌∙◌}
use Rattle.bw_making.proofs.OverlayLists.{untouched_by}
use Rattle.bw_core.proofs.store.Core.is_made.Goals as goal

pub returns-else-is_making : goal.returns-else-is_making
returns-else-is_making g c =
    c.if-is_making.false ∙ sym (untouched_by c.args.page c.args.self.now.pages.making.blocks (c.is_making.ensures c.if-is_making.false)).0
