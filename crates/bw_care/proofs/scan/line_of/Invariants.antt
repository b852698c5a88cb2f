use Rattle.bw_care.proofs.scan.line_of.Given as goal

abbrev pub ghost-of_found : goal.ghost-of_found
ghost-of_found g a = g.frame
