use Rattle.std.proofs.Common.{[], ◌∷◌, ◌++◌}
use Rattle.bw_file.specs.Asked.{Bytes, Len, done}
use Rattle.bw_file.proofs.asked.len_of.Given as goal

abbrev pub ghost-about : goal.ghost-about
ghost-about g a = a.x.now.0.now.value ++ done Bytes (Len a.x.now.1) ∷ []
