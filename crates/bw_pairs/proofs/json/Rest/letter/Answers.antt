use Rattle.bw_pairs.proofs.Texting.{escape_ok, escape_err, plain_ok, plain_err, differs, no_control, control_err}
use Rattle.bw_pairs.proofs.json.Rest.letter.Goals as goal

pub returns-then-byte-eq92-clause-ok : goal.returns-then-byte-eq92-clause-ok
returns-then-byte-eq92-clause-ok g c =
    escape_ok c.escape.result (g.B.Buffer.held c.args.text.now) (g.B.Buffer.held c.escape.new.text) c.args.byte c.args.self.now.bytes.now
    c.escape.new.self.bytes.now c.if-byte-eq92.true c.escape.ensures.ok

pub returns-then-byte-eq92-clause-err : goal.returns-then-byte-eq92-clause-err
returns-then-byte-eq92-clause-err g c =
    escape_err c.escape.result (g.B.Buffer.room c.args.text.now) (g.B.Buffer.held c.args.text.now) c.args.byte c.args.self.now.bytes.now
    c.if-byte-eq92.true c.escape.ensures.err

pub returns-then-byte-lt32-clause-err : goal.returns-then-byte-lt32-clause-err
returns-then-byte-lt32-clause-err g c =
    control_err (g.B.Buffer.room c.args.text.now) (g.B.Buffer.held c.args.text.now) c.args.byte c.args.self.now.bytes.now
    (differs c.args.byte 92 c.if-byte-eq92.false) c.if-byte-lt32.true

pub returns-clause-ok : goal.returns-clause-ok
returns-clause-ok g c =
    plain_ok c.add.result (g.B.Buffer.held c.args.text.now) (g.B.Buffer.held c.add.new.self) c.args.byte c.args.self.now.bytes.now
    (differs c.args.byte 92 c.if-byte-eq92.false) (no_control c.args.byte c.if-byte-lt32.false) c.add.ensures.added

pub returns-clause-err : goal.returns-clause-err
returns-clause-err g c =
    plain_err c.add.result (g.B.Buffer.room c.args.text.now) (g.B.Buffer.held c.args.text.now) c.args.byte c.args.self.now.bytes.now
    (differs c.args.byte 92 c.if-byte-eq92.false) (no_control c.args.byte c.if-byte-lt32.false) c.add.ensures.full
