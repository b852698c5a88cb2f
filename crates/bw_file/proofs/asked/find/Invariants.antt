use Rattle.std.proofs.Common.{[], ◌∷◌, ◌++◌}
use Rattle.bw_file.specs.Asked.{Bytes, Find, done}
use Rattle.bw_file.proofs.asked.find.Given as goal

abbrev pub ghost-about : goal.ghost-about
ghost-about g a = a.x.now.0.now.value ++ done Bytes (Find a.x.now.1) ∷ []
