use Rattle.std.proofs.Common.{◌≡◌, length, insert, subst, sym, arith}
use Rattle.bw_record.specs.Heads.{head, IsRow}
use Rattle.bw_record.proofs.HeadRows.{row_inserted}
use Rattle.bw_record.proofs.heads.insert_head.Goals as goal

pub returns-in-Ok : goal.returns-in-Ok
returns-in-Ok c pairs v long is =
    let as_long : length c.args.row.now.items ≡ length pairs = grind (arith, c.as_slice.ensures.value, c.as_slice.ensures.len) in
    let added : c.insert.new.self.items ≡ insert c.args.row.now.items c.args.at (head c.in-Some.rest.now) = grind arith in
    subst (λ r. IsRow c.args.shared.now r (insert pairs c.args.at (c.args.key.now, v))) (sym added)
    (row_inserted c.args.shared.now _ pairs c.args.at c.args.key.now v c.in-Some.rest.now is as_long c.in-Some.ensures c.head_of.ensures.bytes)
