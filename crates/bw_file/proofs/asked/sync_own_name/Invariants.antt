use Rattle.std.proofs.Common.{[], ◌∷◌, ◌++◌}
use Rattle.bw_file.specs.Asked.{OwnName}
use Rattle.bw_file.proofs.asked.sync_own_name.Given as goal

abbrev pub ghost-about : goal.ghost-about
ghost-about g a = a.x.now.0.now.value ++ OwnName a.x.now.1 ∷ []
