use Rattle.std.proofs.Common.{[], ◌∷◌, ◌++◌}
use Rattle.bw_file.specs.Asked.{Make}
use Rattle.bw_file.proofs.asked.make.Given as goal

abbrev pub ghost-about : goal.ghost-about
ghost-about g a = a.x.now.0.now.value ++ Make a.x.now.1 ∷ []
