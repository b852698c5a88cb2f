use Rattle.std.proofs.Common.{ap, ◌∙◌, [], ◌∷◌, ◌++◌, Bool, is_ok}
use Rattle.bw_file.specs.Asked.{Bytes, Write}
use Rattle.bw_file.proofs.Paid.{end_stopped}
use Rattle.bw_file.proofs.paying.write_end.Goals as goal

pub returns-clause-stopped : goal.returns-clause-stopped
returns-clause-stopped g c =
    end_stopped c.sync_all_bytes.result c.args.from c.args.end.now c.is_empty.result c.args.asked.now.value c.write_bytes.new.asked.value c.sync_all_bytes.new.asked.value
    c.is_empty.ensures c.if-is_empty.false
    (c.write_bytes.ensures ∙ ap (λ (b : Bool). c.args.asked.now.value ++ record { file = Bytes; call = Write c.args.from c.args.end.now; is_ok = b } ∷ []) (ap is_ok c.in_ok-write_bytes.was))
    c.sync_all_bytes.ensures
