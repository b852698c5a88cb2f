use Rattle.std.proofs.Common.{sym, arith}
use Rattle.bw_pairs.proofs.Texting.{halves, no_mark, no_number, no_half, after_mark, after_number, on_err}
use Rattle.bw_pairs.proofs.json.Rest.second_unit.Goals as goal

pub returns-in_err-mark-clause-err : goal.returns-in_err-mark-clause-err
returns-in_err-mark-clause-err c = on_err _ _ (no_mark c.args.first c.args.self.now.bytes.now c.in_err-mark.ensures.err)

pub returns-in_err-second-clause-err : goal.returns-in_err-second-clause-err
returns-in_err-second-clause-err c =
    on_err _ _ (no_number c.args.first c.args.self.now.bytes.now c.mark.new.self.bytes.now c.in_ok-mark.ensures.ok c.in_err-second.ensures.err)

pub returns-then-is_second_half-clause-ok : goal.returns-then-is_second_half-clause-ok
returns-then-is_second_half-clause-ok c =
    halves c.args.first c.in_ok-second.second c.joined.result c.args.self.now.bytes.now c.mark.new.self.bytes.now c.unit.new.self.bytes.now
    c.in_ok-mark.ensures.ok c.in_ok-second.ensures.ok (sym c.if-is_second_half.ensures) c.joined.ensures

pub returns-then-is_second_half-clause-shorter : goal.returns-then-is_second_half-clause-shorter
returns-then-is_second_half-clause-shorter c =
    let a = after_mark c.args.self.now.bytes.now c.mark.new.self.bytes.now c.in_ok-mark.ensures.ok in
    let b = after_number c.mark.new.self.bytes.now c.unit.new.self.bytes.now c.in_ok-second.second c.in_ok-second.ensures.ok in
    omega arith

pub returns-else-is_second_half-clause-err : goal.returns-else-is_second_half-clause-err
returns-else-is_second_half-clause-err c =
    no_half c.args.first c.in_ok-second.second c.args.self.now.bytes.now c.mark.new.self.bytes.now c.unit.new.self.bytes.now
    c.in_ok-mark.ensures.ok c.in_ok-second.ensures.ok (sym c.if-is_second_half.ensures)
