use Rattle.std.proofs.Common.{◌++◌, map}
use Rattle.bw_file.specs.Asked.{Of}
use Rattle.bw_file.proofs.asked.add.Given as goal

abbrev pub ghost-about : goal.ghost-about
ghost-about a = a.x.now.0.now.value ++ map (λ s. Of a.x.now.1 s) a.x.now.2.now.value
