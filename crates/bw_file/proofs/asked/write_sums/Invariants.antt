use Rattle.std.proofs.Common.{[], ◌∷◌, ◌++◌}
use Rattle.bw_file.specs.Asked.{Sums, Write}
use Rattle.bw_file.proofs.asked.write_sums.Given as goal

abbrev pub ghost-about : goal.ghost-about
ghost-about g a = a.x.now.0.now.value ++ record { file = Sums; call = Write a.x.now.1 a.x.now.2.now; is_ok = a.x.now.3 } ∷ []
