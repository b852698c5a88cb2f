use Rattle.std.specs.BTreeMap as tree
use Rattle.bw_leaf.specs.Changed.{order}
use Rattle.bw_lines.proofs.PagesRight.{wrong_among}
use Rattle.bw_found.proofs.pages.wrong_among.Goals as goal

pub returns : goal.returns
returns c = λ frames laws of. wrong_among c.args.m frames c.args.pages.now (tree.get order c.in_ok-lows.lows) c.wrong_page.result laws c.requires of
    c.in_ok-lows.ensures c.wrong_page.ensures
