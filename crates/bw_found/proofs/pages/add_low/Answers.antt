use Rattle.std.proofs.Common.{◌∙◌, sym, ap, Some, Option, if◌then◌else◌}
use Rattle.std.specs.BTreeMap as tree
use Rattle.bw_record.specs.declared.leaf.Leaf.{Leaf}
use Rattle.bw_lines.specs.declared.links.Line.{Line}
use Rattle.bw_leaf.specs.Changed.{order}
use Rattle.bw_lines.specs.Paging.{has_low}
use Rattle.bw_lines.proofs.LowIndex.{low_more}
use Rattle.bw_found.proofs.pages.add_low.Goals as goal

pub returns : goal.returns
returns c = λ k key.
    low_more k c.in-Ok.low c.args.page c.in-Some.leaf (tree.get order c.args.lows.now) (c.in_ok-insert.ensures.updates.0 k)
    (cc (c.in-Ok.ensures.ok, c.low.ensures))
    ∙ ap (λ (o : Option Leaf). if has_low k o then Some c.args.page else tree.get order c.args.lows.now k) (sym c.in-Some.is)
    ∙ ap (λ (l : Line). if has_low k l.leaf then Some c.args.page else tree.get order c.args.lows.now k) c.line.view_is
