use Rattle.std.proofs.Common.{sym}
use Rattle.bw_pairs.specs.Json.{lettered_onto, text_from}
use Rattle.bw_pairs.specs.Json.Within.{Letters, Half, Number}
use Rattle.bw_pairs.proofs.Texting.{half, whole, no_unit, after_number, on_err, ok_along, err_along, ok_shorter}
use Rattle.bw_pairs.proofs.json.Rest.code.Goals as goal

pub returns-in_err-unit-clause-err : goal.returns-in_err-unit-clause-err
returns-in_err-unit-clause-err c = on_err _ _ (no_unit c.args.self.now.bytes.now c.in_err-unit.ensures.err)

pub returns-then-is_first_half-clause-ok : goal.returns-then-is_first_half-clause-ok
returns-then-is_first_half-clause-ok c =
    let unit = c.in_ok-unit.unit in
    let mid = c.unit.new.self.bytes.now in
    let new = c.second_unit.new.self.bytes.now in
    ok_along c.second_unit.result (text_from (Half unit) mid) (text_from Number c.args.self.now.bytes.now) (λ code. lettered_onto code (text_from Letters new))
    (half unit c.args.self.now.bytes.now mid c.in_ok-unit.ensures.ok (sym c.if-is_first_half.ensures)) c.second_unit.ensures.ok

pub returns-then-is_first_half-clause-err : goal.returns-then-is_first_half-clause-err
returns-then-is_first_half-clause-err c =
    let unit = c.in_ok-unit.unit in
    let mid = c.unit.new.self.bytes.now in
    err_along c.second_unit.result (text_from (Half unit) mid) (text_from Number c.args.self.now.bytes.now)
    (half unit c.args.self.now.bytes.now mid c.in_ok-unit.ensures.ok (sym c.if-is_first_half.ensures)) c.second_unit.ensures.err

pub returns-then-is_first_half-clause-shorter : goal.returns-then-is_first_half-clause-shorter
returns-then-is_first_half-clause-shorter c =
    ok_shorter c.second_unit.result _ _ _
    (after_number c.args.self.now.bytes.now c.unit.new.self.bytes.now c.in_ok-unit.unit c.in_ok-unit.ensures.ok) c.second_unit.ensures.shorter

pub returns-clause-ok : goal.returns-clause-ok
returns-clause-ok c =
    whole c.in_ok-unit.unit c.args.self.now.bytes.now c.unit.new.self.bytes.now c.in_ok-unit.ensures.ok (sym c.if-is_first_half.ensures)

pub returns-clause-shorter : goal.returns-clause-shorter
returns-clause-shorter c = after_number c.args.self.now.bytes.now c.unit.new.self.bytes.now c.in_ok-unit.unit c.in_ok-unit.ensures.ok
