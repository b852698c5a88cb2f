use Rattle.std.proofs.Common.{ap, arith}
use Rattle.bw_buffer.specs.Filling.{Filling}
use Rattle.bw_buffer.proofs.Holding.{size_is, length_of_frame}
use Rattle.bw_buffer.proofs.Framing.{laid_frame}
use Rattle.bw_buffer.proofs.buffer.Buffer.bytes.Goals as goal

pub returns-clause-fits : goal.returns-clause-fits
returns-clause-fits c =
    let size = size_is c.self.inside c.args.self.now c.self.invariant c.self.view_is in
    let limit = ap (λ (f : Filling). f.limit) c.self.view_is in
    let within = c.self.invariant.fits in
    omega (arith, length_of_frame c.args.self.now)

pub returns-clause-frame : goal.returns-clause-frame
returns-clause-frame c =
    laid_frame c.self.inside c.args.self.now c.self.view_is c.self.invariant (omega (arith, c.frame.ensures.value, c.frame.ensures.numbered))
    (omega (arith, c.frame.ensures.value))
