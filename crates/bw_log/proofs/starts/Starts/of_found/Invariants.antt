use Rattle.bw_log.proofs.starts.Starts.of_found.Given as goal

abbrev pub ghost-about : goal.ghost-about
ghost-about g a = g.frame
