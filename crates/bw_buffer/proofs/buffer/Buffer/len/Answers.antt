use Rattle.std.proofs.Common.{◌∙◌, sym, arith}
use Rattle.bw_buffer.proofs.Holding.{size_is, length_of_frame}
use Rattle.bw_buffer.proofs.Framing.{laid_frame}
use Rattle.bw_buffer.proofs.buffer.Buffer.len.Goals as goal

pub returns-clause-value : goal.returns-clause-value
returns-clause-value c = size_is c.self.inside c.args.self.now c.self.invariant c.self.view_is ∙ sym (length_of_frame c.args.self.now)

pub returns-clause-frame : goal.returns-clause-frame
returns-clause-frame c =
    laid_frame c.self.inside c.args.self.now c.self.view_is c.self.invariant (omega (arith, c.frame.ensures.value, c.frame.ensures.numbered))
    (omega (arith, c.frame.ensures.value))
