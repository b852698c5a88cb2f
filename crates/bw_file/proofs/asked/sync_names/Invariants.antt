use Rattle.std.proofs.Common.{[], ◌∷◌, ◌++◌}
use Rattle.bw_file.specs.Asked.{Names}
use Rattle.bw_file.proofs.asked.sync_names.Given as goal

abbrev pub ghost-about : goal.ghost-about
ghost-about g a = a.x.now.0.now.value ++ Names a.x.now.1 ∷ []
