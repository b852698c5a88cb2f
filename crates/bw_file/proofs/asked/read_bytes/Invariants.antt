use Rattle.std.proofs.Common.{[], ◌∷◌, ◌++◌}
use Rattle.bw_file.specs.Asked.{Bytes, Read}
use Rattle.bw_file.proofs.asked.read_bytes.Given as goal

abbrev pub ghost-about : goal.ghost-about
ghost-about g a = a.x.now.0.now.value ++ record { file = Bytes; call = Read a.x.now.1.now; is_ok = a.x.now.2 } ∷ []
