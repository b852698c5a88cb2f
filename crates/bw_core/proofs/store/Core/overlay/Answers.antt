use Rattle.std.proofs.Common.{sym, ◌∙◌}
use Rattle.bw_making.proofs.OverlayLists.{untouched_by}
use Rattle.bw_core.proofs.store.Core.overlay.Goals as goal

pub returns-then-not-is_making : goal.returns-then-not-is_making
returns-then-not-is_making g c =
    c.new.ensures.items ∙ sym (untouched_by c.args.page c.args.self.now.pages.making.blocks (c.is_making.ensures c.if-not-is_making.true)).1
