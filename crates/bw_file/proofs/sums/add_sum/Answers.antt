use Rattle.std.proofs.Common.{ℕ, ◌-◌, take, drop, ap, arith}
use Rattle.bw_digest.specs.Rows.{reach}
use Rattle.bw_file.proofs.Pieces.{one_more}
use Rattle.bw_file.proofs.sums.add_sum.Goals as goal

pub returns-clause-added : goal.returns-clause-added
returns-clause-added c =
    one_more c.args.bytes.now c.args.list.now.items _ c.to_bytes.result c.extend_from_slice.new.self.items c.args.end (reach c.args.row) (reach c.with.result) c.sum_of-sum.result
    c.requires.so_far (omega (arith, c.end.ensures, c.if-end.false)) (omega (arith, c.if-end-bytes.false)) (omega (arith, c.requires.within))
    (ap (λ (e : ℕ). take (c.args.end - e) (drop e c.args.bytes.now)) c.end-2.ensures)
    c.sum_of-sum.ensures c.to_bytes.ensures c.with.ensures c.in_ok-extend_from_slice.ensures.items
