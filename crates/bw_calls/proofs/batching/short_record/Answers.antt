use Rattle.std.proofs.Common.{Some, ap, sym, ◌∙◌}
use Rattle.bw_rows.specs.Spelling.{Bytes}
use Rattle.bw_calls.specs.Batches.{bytes_in}
use Rattle.bw_calls.proofs.SmallLaws.{short_put}
use Rattle.bw_calls.proofs.batching.short_record.Goals as goal

pub returns-in-Some : goal.returns-in-Some
returns-in-Some c =
    let told = ap bytes_in c.in-Some.is ∙ ap (λ (v : Bytes). Some v) (sym c.as_slice.ensures.value) in
    short_put c.args.table.bytes c.args.change.now c.row_key-in-Some.result c.whole.result c.as_slice.result.now c.row_key-in-Some.ensures c.whole.ensures told
