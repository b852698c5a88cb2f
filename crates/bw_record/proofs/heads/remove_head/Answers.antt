use Rattle.std.proofs.Common.{◌<◌, length, remove, subst, sym, arith}
use Rattle.bw_record.specs.Heads.{IsRow}
use Rattle.bw_record.proofs.HeadRows.{row_removed}
use Rattle.bw_record.proofs.heads.remove_head.Goals as goal

pub returns-then-at-as_slice : goal.returns-then-at-as_slice
returns-then-at-as_slice c shared pairs within is =
    let inside : c.args.at < length c.args.row.now.items = grind (arith, c.as_slice.ensures.value) in
    subst (λ r. IsRow shared r (remove pairs c.args.at)) (sym c.remove.ensures.items) (row_removed shared _ pairs c.args.at is inside)
