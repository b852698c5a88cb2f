use Rattle.std.proofs.Common.{refl}
use Rattle.std.specs.BTreeMap as tree
use Rattle.std.specs.Ordering.{nat_cmp}
use Rattle.bw_record.specs.declared.block.Block.TheVariants.{Base}
use Rattle.bw_lines.proofs.LinesAfter.{base_told}
use Rattle.bw_found.proofs.links.read_base.Goals as goal

pub returns : goal.returns
returns c =
    base_told c.put_line.result c.args.place c.args.leaf (Base c.args.leaf) (tree.get nat_cmp c.args.lines.now) (tree.get nat_cmp c.put_line.new.lines)
    refl (rw (c.of.ensures, c.page-page.ensures, c.set.ensures) at c.put_line.ensures)
