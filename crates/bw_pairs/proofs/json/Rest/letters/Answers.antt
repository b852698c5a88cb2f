use Rattle.std.proofs.Common.{length, ap}
use Rattle.bw_pairs.proofs.Texting.{ended, stopped, on_err}
use Rattle.bw_pairs.proofs.json.Rest.letters.Goals as goal

pub returns-in_err-byte-clause-err : goal.returns-in_err-byte-clause-err
returns-in_err-byte-clause-err g c =
    on_err _ _ (ended (g.B.Buffer.room c.args.bytes) (g.B.Buffer.held c.loop.text) (g.B.Buffer.held c.args.bytes) c.loop.self.bytes.now
    c.args.self.now.bytes.now (ap length c.in_err-byte.ensures.err) c.loop.invariant.read)

pub returns-in_err-letter-clause-err : goal.returns-in_err-letter-clause-err
returns-in_err-letter-clause-err g c =
    on_err _ _ (stopped (g.B.Buffer.room c.args.bytes) (g.B.Buffer.room c.loop.text) c.in_ok-byte.byte (g.B.Buffer.held c.loop.text)
    (g.B.Buffer.held c.args.bytes) c.loop.self.bytes.now c.args.self.now.bytes.now c.next.new.self.bytes.now c.if-byte-eq34.false
    c.in_ok-byte.ensures.ok c.loop.invariant.room c.loop.invariant.read c.in_err-letter.ensures.err)
