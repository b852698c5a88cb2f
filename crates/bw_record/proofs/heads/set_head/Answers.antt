use Rattle.std.proofs.Common.{subst, sym}
use Rattle.std.specs.Prelude.{slice_set}
use Rattle.bw_record.specs.Heads.{IsRow}
use Rattle.bw_record.proofs.HeadRows.{row_set}
use Rattle.bw_record.proofs.heads.set_head.Goals as goal

pub returns-then-at-as_slice : goal.returns-then-at-as_slice
returns-then-at-as_slice c pairs v within is =
    subst (λ h. IsRow c.args.shared.now (slice_set c.args.row.now.items c.args.at h) (slice_set pairs c.args.at (c.args.key.now, v)))
    (sym c.head_of.ensures.value)
    (row_set c.args.shared.now _ pairs c.args.at c.args.key.now v c.in-Some.rest.now is c.in-Some.ensures c.head_of.ensures.bytes)
