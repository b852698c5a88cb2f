use Rattle.std.proofs.Common.{◌++◌}
use Rattle.bw_keys.specs.Loading.{got}
use Rattle.bw_keys.proofs.records.note.Given as goal

abbrev pub ghost-about : goal.ghost-about
ghost-about a = a.x.now.0.now.value ++ got a.x.now.1.now
