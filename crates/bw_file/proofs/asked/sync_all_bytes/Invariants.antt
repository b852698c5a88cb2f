use Rattle.std.proofs.Common.{[], ◌∷◌, ◌++◌}
use Rattle.bw_file.specs.Asked.{Bytes, Sync}
use Rattle.bw_file.proofs.asked.sync_all_bytes.Given as goal

abbrev pub ghost-about : goal.ghost-about
ghost-about g a = a.x.now.0.now.value ++ record { file = Bytes; call = Sync; is_ok = a.x.now.1 } ∷ []
