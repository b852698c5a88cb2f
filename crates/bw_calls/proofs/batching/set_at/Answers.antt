use Rattle.std.proofs.Common.{None, Some, ap, sym, ◌∙◌}
use Rattle.bw_rows.specs.Spelling.{Bytes}
use Rattle.bw_calls.specs.Batches.{bytes_in}
use Rattle.bw_calls.proofs.BatchLaws.{gathers_as}
use Rattle.bw_calls.proofs.batching.set_at.Goals as goal

pub returns-in-Some-clause-gathers : goal.returns-in-Some-clause-gathers
returns-in-Some-clause-gathers g c =
    gathers_as _ _ c.args.table.bytes c.args.key.now (Some c.as_slice.result.now) _ c.set_value.result
    (ap (λ (v : Bytes). Some v) c.as_slice.ensures.value ∙ sym (ap bytes_in c.in-Some.is)) c.set_value.ensures.gathers

pub returns-in-None-clause-gathers : goal.returns-in-None-clause-gathers
returns-in-None-clause-gathers g c =
    gathers_as _ _ c.args.table.bytes c.args.key.now None _ c.set_none.result (sym (ap bytes_in c.in-None.is)) c.set_none.ensures.gathers
