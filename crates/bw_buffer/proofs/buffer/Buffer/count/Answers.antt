use Rattle.std.proofs.Common.{arith, ap, length}
use Rattle.bw_buffer.specs.Filling.{Filling}
use Rattle.bw_buffer.proofs.Holding.{counted, few_rows}
use Rattle.bw_buffer.proofs.buffer.Buffer.count.Goals as goal

pub overflow_cast-result : goal.overflow_cast-result
overflow_cast-result c = record { fits = (let few = few_rows c.self.inside c.self.invariant in omega (arith, ap length c.as_slice.ensures.value)) }

pub returns : goal.returns
returns c =
    (let n = counted c.self.inside c.self.invariant in let v = ap (λ (f : Filling). length f.blocks) c.self.view_is in
    omega (arith, ap length c.as_slice.ensures.value))
