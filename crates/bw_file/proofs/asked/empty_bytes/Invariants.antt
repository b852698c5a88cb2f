use Rattle.std.proofs.Common.{[], ◌∷◌, ◌++◌}
use Rattle.bw_file.specs.Asked.{Bytes, SetLen}
use Rattle.bw_file.proofs.asked.empty_bytes.Given as goal

abbrev pub ghost-about : goal.ghost-about
ghost-about g a = a.x.now.0.now.value ++ record { file = Bytes; call = SetLen 0; is_ok = a.x.now.1 } ∷ []
