use Rattle.bw_pairs.proofs.Escaping.{came, refused, outside, begun, half}
use Rattle.bw_pairs.proofs.dump.Unescaping.take.Goals as goal

pub returns-in-Outside-2-clause-ok : goal.returns-in-Outside-2-clause-ok
returns-in-Outside-2-clause-ok g c =
    let state = c.args.self.now.escape in
    came c.push.result _ _ state _ c.args.letter _ c.push.ensures.added c.push.ensures.escape
    (outside state c.args.letter c.in-Outside-2.is c.if-letter-eq92.false)

pub returns-in-Outside-2-clause-err : goal.returns-in-Outside-2-clause-err
returns-in-Outside-2-clause-err g c =
    let state = c.args.self.now.escape in
    refused c.push.result _ _ state c.args.letter c.args.letter c.push.ensures.full
    (outside state c.args.letter c.in-Outside-2.is c.if-letter-eq92.false)

pub returns-in-Begun-clause-ok : goal.returns-in-Begun-clause-ok
returns-in-Begun-clause-ok g c =
    let state = c.args.self.now.escape in
    came c.push-in-Begun.result _ _ state _ c.args.letter _ c.push-in-Begun.ensures.added c.push-in-Begun.ensures.escape
    (begun state c.args.letter c.in-Begun.is c.if-letter-eq92-2.true)

pub returns-in-Begun-clause-err : goal.returns-in-Begun-clause-err
returns-in-Begun-clause-err g c =
    let state = c.args.self.now.escape in
    refused c.push-in-Begun.result _ _ state c.args.letter c.args.letter c.push-in-Begun.ensures.full
    (begun state c.args.letter c.in-Begun.is c.if-letter-eq92-2.true)

pub returns-in_ok-digit_of-in-Half-clause-ok : goal.returns-in_ok-digit_of-in-Half-clause-ok
returns-in_ok-digit_of-in-Half-clause-ok g c =
    let state = c.args.self.now.escape in
    let second = c.in_ok-digit_of-in-Half.field-0 in
    came c.push-in-Half.result _ _ state _ c.args.letter _ c.push-in-Half.ensures.added c.push-in-Half.ensures.escape
    (half state c.args.letter c.in-Half.first second c.byte_of.result c.in-Half.is c.in_ok-digit_of-in-Half.ensures.value c.byte_of.ensures)

pub returns-in_ok-digit_of-in-Half-clause-err : goal.returns-in_ok-digit_of-in-Half-clause-err
returns-in_ok-digit_of-in-Half-clause-err g c =
    let state = c.args.self.now.escape in
    let second = c.in_ok-digit_of-in-Half.field-0 in
    refused c.push-in-Half.result _ _ state c.args.letter c.byte_of.result c.push-in-Half.ensures.full
    (half state c.args.letter c.in-Half.first second c.byte_of.result c.in-Half.is c.in_ok-digit_of-in-Half.ensures.value c.byte_of.ensures)
