use Rattle.bw_lines.proofs.LinksRead.{right}
use Rattle.std.proofs.Common.{true, false}
use Rattle.bw_found.proofs.links.wrong_back.Goals as goal

pub returns-then-links_back : goal.returns-then-links_back
returns-then-links_back c = λ done read. right c.args.first done c.args.lines.now c.args.page c.args.back true read c.if-links_back.ensures

pub returns-else-links_back : goal.returns-else-links_back
returns-else-links_back c = λ done read. right c.args.first done c.args.lines.now c.args.page c.args.back false read c.if-links_back.ensures
