use Rattle.std.proofs.Common.{sym, ◌∙◌}
use Rattle.bw_pairs.specs.Dumps.{dump_meant}
use Rattle.bw_pairs.proofs.Escaping.{no_key, err_none}
use Rattle.bw_pairs.proofs.dump.key_in.Goals as goal

pub returns-in_err-bytes_in : goal.returns-in_err-bytes_in
returns-in_err-bytes_in c =
    err_none c.from_residual.result c.from_residual.ensures.0
    ∙ sym (no_key (dump_meant c.args.letters c.args.line.now) c.in_err-bytes_in.ensures.err)
