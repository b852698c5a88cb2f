use Rattle.std.proofs.Common.{refl}
use Rattle.std.specs.BTreeMap as tree
use Rattle.std.specs.Ordering.{nat_cmp}
use Rattle.bw_record.specs.declared.block.Block.TheVariants.{Split}
use Rattle.bw_lines.proofs.LinesAfter.{split_told}
use Rattle.bw_found.proofs.links.read_split.Goals as goal

pub returns : goal.returns
returns c back =
    split_told c.put_line-2.result c.args.place back c.take_line-draft.result.0 c.changed-at.result c.args.page c.args.upper c.low.result.now
    (Split c.args.page back c.args.upper) c.take_line-draft.result.1 c.keep_some-draft.result (tree.get nat_cmp c.args.lines.now)
    (tree.get nat_cmp c.take_line-draft.new.lines) (tree.get nat_cmp c.put_line.new.lines) (tree.get nat_cmp c.put_line-2.new.lines) refl
    c.take_line-draft.ensures.at c.changed-at.ensures c.take_line-draft.ensures.leaf c.take_line-draft.ensures.others c.low.ensures
    c.keep_some-draft.ensures c.in_ok-put_line.ensures
    (rw (c.of.ensures, c.page-made.ensures, c.set.ensures) at c.put_line-2.ensures)
