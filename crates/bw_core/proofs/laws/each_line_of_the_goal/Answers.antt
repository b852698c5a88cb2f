use Rattle.bw_core.proofs.laws.each_line_of_the_goal.Goals as goal

pub returns : goal.returns
returns c = λ feeds old new answer g. (g.exactly, g.writers, g.last_cut, g.shares, g.whole, g.stand, g.answer, g.settles)
