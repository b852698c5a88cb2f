use Rattle.std.proofs.Common.{◌≡◌, suc, ◌+◌, arith}
use Rattle.bw_calls.proofs.PlainLaws.{joining_more}
use Rattle.bw_calls.proofs.reading.join.Goals as goal

pub chunks-preserved : goal.chunks-preserved
chunks-preserved g c =
    let at : c.chunks.i + 1 ≡ suc c.chunks.i = omega arith in (
      c.add_chunk.ensures.ready,
      joining_more _ _ _ _ _ _ _ _ at c.chunks.invariant.1 c.add_chunk.ensures.same c.in_ok-add_chunk.ensures.added,
      λ ts stops. c.add_chunk.ensures.leaves ts (c.chunks.invariant.2 ts stops),
    )

pub returns-in_err-add_chunk-clause-leaves : goal.returns-in_err-add_chunk-clause-leaves
returns-in_err-add_chunk-clause-leaves g c = λ ts stops. c.add_chunk.ensures.leaves ts (c.chunks.invariant.2 ts stops)
