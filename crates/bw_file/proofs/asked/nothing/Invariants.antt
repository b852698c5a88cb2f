use Rattle.std.proofs.Common.{[]}
use Rattle.bw_file.proofs.asked.nothing.Given as goal

abbrev pub ghost-about : goal.ghost-about
ghost-about a = []
