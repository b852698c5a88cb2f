use Rattle.bw_pairs.proofs.Fielding.{came, refused, begin, quoted, closed}
use Rattle.bw_pairs.specs.declared.csv.At.TheVariants.{Bare, Quoted}
use Rattle.bw_pairs.proofs.csv.Reading.take.Goals as goal

pub returns-in-Begin-2-clause-ok : goal.returns-in-Begin-2-clause-ok
returns-in-Begin-2-clause-ok g c =
    let at = c.args.self.now.at in
    let byte = c.args.byte in
    came c.push.result _ _ at _ Bare byte c.push.ensures.added c.push.ensures.at (begin at byte c.in-Begin-2.is c.if-byte-eq34.false)

pub returns-in-Begin-2-clause-err : goal.returns-in-Begin-2-clause-err
returns-in-Begin-2-clause-err g c =
    let at = c.args.self.now.at in
    let byte = c.args.byte in
    refused c.push.result _ _ at Bare byte c.push.ensures.full (begin at byte c.in-Begin-2.is c.if-byte-eq34.false)

pub returns-in-Quoted-2-clause-ok : goal.returns-in-Quoted-2-clause-ok
returns-in-Quoted-2-clause-ok g c =
    let at = c.args.self.now.at in
    let byte = c.args.byte in
    came c.push-in-Quoted-2.result _ _ at _ Quoted byte c.push-in-Quoted-2.ensures.added c.push-in-Quoted-2.ensures.at (quoted at byte c.in-Quoted-2.is c.if-byte-eq34-2.false)

pub returns-in-Quoted-2-clause-err : goal.returns-in-Quoted-2-clause-err
returns-in-Quoted-2-clause-err g c =
    let at = c.args.self.now.at in
    let byte = c.args.byte in
    refused c.push-in-Quoted-2.result _ _ at Quoted byte c.push-in-Quoted-2.ensures.full (quoted at byte c.in-Quoted-2.is c.if-byte-eq34-2.false)

pub returns-in-Closed-clause-ok : goal.returns-in-Closed-clause-ok
returns-in-Closed-clause-ok g c =
    let at = c.args.self.now.at in
    let byte = c.args.byte in
    came c.push-in-Closed.result _ _ at _ Quoted byte c.push-in-Closed.ensures.added c.push-in-Closed.ensures.at (closed at byte c.in-Closed.is c.if-byte-eq34-3.true)

pub returns-in-Closed-clause-err : goal.returns-in-Closed-clause-err
returns-in-Closed-clause-err g c =
    let at = c.args.self.now.at in
    let byte = c.args.byte in
    refused c.push-in-Closed.result _ _ at Quoted byte c.push-in-Closed.ensures.full (closed at byte c.in-Closed.is c.if-byte-eq34-3.true)
