use Rattle.std.proofs.Common.{sym}
use Rattle.bw_pairs.specs.Json.{text_from}
use Rattle.bw_pairs.specs.Json.Within.{Escape}
use Rattle.bw_pairs.proofs.Texting.{came, refused, one_escaped, differs}
use Rattle.bw_pairs.proofs.json.Rest.escape.Goals as goal

pub returns-clause-ok : goal.returns-clause-ok
returns-clause-ok g c =
    let old = c.args.self.now.bytes.now in
    let rest = c.next.new.self.bytes.now in
    let letter = c.in_ok-letter.letter in
    let byte = c.in_ok-escaped.field-0 in
    came c.add.result (g.B.Buffer.held c.args.text.now) (g.B.Buffer.held c.add.new.self) byte (text_from Escape old) rest c.add.ensures.added
    (one_escaped letter byte old rest c.in_ok-letter.ensures.ok (differs letter 117 c.if-letter-eq117.false) (sym c.in_ok-escaped.ensures))

pub returns-clause-err : goal.returns-clause-err
returns-clause-err g c =
    let old = c.args.self.now.bytes.now in
    let rest = c.next.new.self.bytes.now in
    let letter = c.in_ok-letter.letter in
    let byte = c.in_ok-escaped.field-0 in
    refused c.add.result (g.B.Buffer.room c.args.text.now) (g.B.Buffer.held c.args.text.now) byte (text_from Escape old) rest c.add.ensures.full
    (one_escaped letter byte old rest c.in_ok-letter.ensures.ok (differs letter 117 c.if-letter-eq117.false) (sym c.in_ok-escaped.ensures))
